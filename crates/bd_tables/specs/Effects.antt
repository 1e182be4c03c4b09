-- The effect of each turn on the state of the tables. The turns of an engine come first, then those of the kernel.
use Rattle.std.specs.Prelude.{ℕ, ◌%◌, Bool, true, false, nat_eq, nat_le, cond, Option, None, Some, List}
use Rattle.std.proofs.Common.{set, replicate}
use Rattle.std.specs.Option.{option_map}
use Rattle.std.specs.FinMap as fin
use Rattle.std.specs.declared.cmp.Ordering.{Ordering}
use Rattle.bd_base.specs.declared.journal.Found.{Found}
use Rattle.bd_base.specs.declared.journal.Found.TheVariants.{NoEntry, Beyond}
use Rattle.bd_base.specs.declared.key.Cell.{Cell}
use Rattle.bd_base.specs.declared.key.Key.{Key}
use Rattle.bd_base.specs.declared.limits.TheConstants.{PART_BLOCKS}
use Rattle.bd_base.specs.Keys.{Pair, pair_cmp}
use Rattle.bd_file_table.specs.Fragments.{Cells, cell_at, padded, with_cell}
use Rattle.bd_lines.specs.declared.lines.TheConstants.{LINES}
use Rattle.bd_lines.specs.Lines.{filled, hit, swept}
use Rattle.bd_tables.specs.declared.request.Completion.{Completion}
use Rattle.bd_tables.specs.declared.request.Request.{Request}
use Rattle.bd_tables.specs.declared.state.Right.{Right}
use Rattle.bd_tables.specs.declared.state.RightState.{RightState}
use Rattle.bd_tables.specs.declared.state.RightState.TheVariants.{On, Cleared, Drained}
use Rattle.bd_tables.specs.declared.state.Walk.{Walk}
use Rattle.bd_tables.specs.declared.state.Walk.TheVariants.{Idle, Entered, Refused, Translated}
use Rattle.bd_tables.specs.State.{Rights, TableState, block_pair, cell_of, completion_of, found_entering, lookup, pair_for, pair_under, users}

-- ---- of an engine

-- these tables with that walk of the engine of a process
abbrev pub with_walk : TableState → ℕ → Walk → TableState
with_walk tables process walk = record tables { walks = set tables.walks process walk }

-- the walk after an enter that found this, or nothing amiss
abbrev pub entered_walk : Request → Option Found → Walk
entered_walk request None = Entered request
entered_walk request (Some found) = Refused request found

-- Enter: the engine of the request's process is in the key
abbrev pub enter : TableState → Request → TableState
enter tables request =
    with_walk tables request.key.process
    (entered_walk request (found_entering (fin.get tables.rights request.key) request.write))

-- the walk after a look that hit this cell, or missed
abbrev pub looked_walk : Request → Option Cell → Walk
looked_walk request None = Entered request
looked_walk request (Some cell) = Translated request (completion_of request cell)

-- Look: a hit gives the translation of the line
abbrev pub look : TableState → Request → TableState
look tables request =
    with_walk tables request.key.process (looked_walk request (hit tables.lines request.key request.index request.hi))

-- the walk after a read of this entry
abbrev pub read_walk : Request → Option Cell → Walk
read_walk request None = Refused request NoEntry
read_walk request (Some cell) =
    cond (nat_le request.hi cell.limit) (Translated request (completion_of request cell))
    (Refused request (Beyond cell.limit))

-- ReadEntry: the lookup is the translation where it reaches to the request's hi
abbrev pub read_entry : TableState → Request → TableState
read_entry tables request =
    with_walk tables request.key.process (read_walk request (lookup tables request.key request.index))

-- Fill: the line of the address holds the translation
abbrev pub fill : TableState → Request → Completion → TableState
fill tables request completion =
    record tables { lines = filled tables.lines request.key request.index (cell_of completion) }

-- Retire: the engine of the process is in no key and holds no translation
abbrev pub retire : TableState → ℕ → TableState
retire tables process = with_walk tables process Idle

-- ---- of the kernel

-- the map with the value of a key changed, where it has one
abbrev pub change_found : {K X : Type 0} {R : K → K → Ordering} → fin.FinMap R X → K → (X → X) →
    Option X →
    fin.FinMap R X
change_found map key f None = map
change_found map key f (Some value) = fin.insert map key (f value)

abbrev pub change : {K X : Type 0} {R : K → K → Ordering} → fin.FinMap R X → K → (X → X) → fin.FinMap R X
change map key f = change_found map key f (fin.get map key)

-- a right that was just attached
abbrev pub new_right : ℕ → Bool → Right
new_right file write = record { file = file; write = write; state = On }

-- the rights with that key On
abbrev pub attach_right : Rights → Key → ℕ → Bool → Rights
attach_right rights key file write = fin.insert rights key (new_right file write)

-- the rights with that key in that state
abbrev pub with_state : Rights → Key → RightState → Rights
with_state rights key state = change rights key (λ right. record right { state = state })

-- no line was swept
abbrev pub none_swept : List Bool
none_swept = replicate LINES false

-- every line was swept
abbrev pub all_swept : List Bool
all_swept = replicate LINES true

-- one line more was swept since the drain
abbrev pub sweep_state : ℕ → RightState → RightState
sweep_state c On = On
sweep_state c Cleared = Cleared
sweep_state c (Drained swept) = Drained (set swept c true)

abbrev pub sweep_right : Rights → ℕ → Key → Rights
sweep_right rights c key = change rights key (λ right. record right { state = sweep_state c right.state })

-- the map without the pair, where no key uses it
abbrev pub drop_unused : {X : Type 0} → Rights → Pair → fin.FinMap pair_cmp X → fin.FinMap pair_cmp X
drop_unused rights pair map = cond (nat_eq (users rights pair) 0) (fin.remove map pair) map

-- what a detached right leaves of the map
abbrev pub after_detach : {X : Type 0} → Rights → Key → Option Right → fin.FinMap pair_cmp X →
    fin.FinMap pair_cmp X
after_detach rights key None map = map
after_detach rights key (Some right) map = drop_unused rights (pair_under key right) map

-- these cells with the filled one of that index reaching to the limit
abbrev pub with_limit : ℕ → ℕ → Cells → Cells
with_limit index limit cells = set cells index
    (option_map (λ (cell : Cell). record cell { limit = limit }) (cell_at cells index))

-- Attach: the key is On, and its part is in use
abbrev pub attach : TableState → Key → ℕ → Bool → List Cell → TableState
attach tables key file write cells =
    let pair : Pair = pair_for file key in
    record tables {
      rights = attach_right tables.rights key file write;
      cells = cond (fin.contains_key tables.cells pair) tables.cells (fin.insert tables.cells pair (padded cells));
    }

-- Clear: the key is Cleared
abbrev pub clear : TableState → Key → TableState
clear tables key = record tables { rights = with_state tables.rights key Cleared }

-- Drain: the key is Drained and none of its lines swept
abbrev pub drain : TableState → Key → TableState
drain tables key = record tables { rights = with_state tables.rights key (Drained none_swept) }

-- Sweep: line c is emptied exactly where it names the key, and one line more is swept
abbrev pub sweep : TableState → ℕ → Key → TableState
sweep tables c key = record tables { rights = sweep_right tables.rights c key; lines = swept tables.lines c key }

-- DetachDone: the key is not attached, and its part is in use exactly where another key uses it
abbrev pub detach : TableState → Key → TableState
detach tables key =
    let rights : Rights = fin.remove tables.rights key in
    record tables { rights = rights; cells = after_detach rights key (fin.get tables.rights key) tables.cells }

-- a block more of a file: its entry is filled where its part is in use
abbrev pub put_entry : TableState → ℕ → ℕ → Cell → TableState
put_entry tables file index cell =
    record tables { cells = change tables.cells (block_pair file index) (with_cell (index % PART_BLOCKS) cell) }

-- more bytes of a block: its entry reaches further where its part is in use
abbrev pub raise_limit : TableState → ℕ → ℕ → ℕ → TableState
raise_limit tables file index limit =
    record tables { cells = change tables.cells (block_pair file index) (with_limit (index % PART_BLOCKS) limit) }
