-- The laws of the tables: they are the contracts of the functions of src/laws.rt.
use Rattle.std.specs.Prelude.{◌≡◌, ◌↔◌, ℕ, ◌<◌, ◌%◌, Bool, true, Option, None, Some, IfSome, List}
use Rattle.std.specs.FinMap as fin
use Rattle.bd_base.specs.declared.key.Cell.{Cell}
use Rattle.bd_base.specs.declared.key.Key.{Key}
use Rattle.bd_base.specs.declared.limits.TheConstants.{PART_BLOCKS}
use Rattle.bd_file_table.specs.Fragments.{cell_at}
use Rattle.bd_lines.specs.declared.lines.Line.{Line}
use Rattle.bd_lines.specs.declared.lines.TheConstants.{LINES}
use Rattle.bd_lines.specs.Lines.{hit, line_at}
use Rattle.bd_tables.specs.declared.request.Completion.{Completion}
use Rattle.bd_tables.specs.declared.request.Drained.TheVariants.{Yes}
use Rattle.bd_tables.specs.declared.request.Request.{Request}
use Rattle.bd_tables.specs.declared.state.Right.{Right}
use Rattle.bd_tables.specs.declared.state.RightState.TheVariants.{On}
use Rattle.bd_tables.specs.declared.state.Walk.TheVariants.{Entered, Translated}
use Rattle.bd_tables.specs.Effects.{attach, clear, detach, drain, enter, fill, look, put_entry, raise_limit, read_entry, retire, sweep}
use Rattle.bd_tables.specs.Kernel.{IsAttachedIn, IsDrained, IsOn, IsSweptWhole, ReachesUpTo}
use Rattle.bd_tables.specs.Plain.{drained_of}
use Rattle.bd_tables.specs.Sound.{IsKey, IsOfEntry, IsSound, granted_of}
use Rattle.bd_tables.specs.State.{TableState, block_pair, engines_in, found_entering, lookup, walk_at}

-- ---- what an engine is told

-- an enter grants only under a right that is On, and a write only under one that allows it
pub record GrantsUnder (right : Right) (write : Bool) : Type 0 where
  pub on : right.state ≡ On
  pub writable : write ≡ true → right.write ≡ true

abbrev pub GrantsOnlyUnder : Option Right → Bool → Type 0
GrantsOnlyUnder None write = ⊥
GrantsOnlyUnder (Some right) write = GrantsUnder right write

-- who is granted has a right that is On and allows it
abbrev pub OnlyOnGrants : Type 0
OnlyOnGrants = (right : Option Right) (write : Bool) → found_entering right write ≡ None →
    GrantsOnlyUnder right write

-- what a hit gives is the block of the lookup, and reaches no further than it
abbrev pub HitsAreLookups : Type 0
HitsAreLookups =
    (tables : TableState) → IsSound tables → (key : Key) (index hi : ℕ) (cell : Cell) →
    hit tables.lines key index hi ≡ Some cell → IsOfEntry cell (lookup tables key index)

-- ---- the tables stay sound, turn by turn

abbrev pub EnterKeeps : Type 0
EnterKeeps = (tables : TableState) → IsSound tables → (request : Request) → IsSound (enter tables request)

abbrev pub LookKeeps : Type 0
LookKeeps =
    (tables : TableState) → IsSound tables → (request : Request) →
    walk_at tables.walks request.key.process ≡ Entered request → IsSound (look tables request)

abbrev pub ReadKeeps : Type 0
ReadKeeps =
    (tables : TableState) → IsSound tables → (request : Request) →
    walk_at tables.walks request.key.process ≡ Entered request → IsSound (read_entry tables request)

abbrev pub FillKeeps : Type 0
FillKeeps =
    (tables : TableState) → IsSound tables → (process : ℕ) (request : Request) (completion : Completion) →
    walk_at tables.walks process ≡ Translated request completion → IsSound (fill tables request completion)

abbrev pub RetireKeeps : Type 0
RetireKeeps = (tables : TableState) → IsSound tables → (process : ℕ) → IsSound (retire tables process)

-- of a key that is not attached
abbrev pub AttachKeeps : Type 0
AttachKeeps =
    (tables : TableState) → IsSound tables → (key : Key) (file : ℕ) (write : Bool) (cells : List Cell) →
    IsKey key →
    fin.get tables.rights key ≡ None →
    IsSound (attach tables key file write cells)

-- of a key that is On
abbrev pub ClearKeeps : Type 0
ClearKeeps = (tables : TableState) → IsSound tables → (key : Key) →
    IsAttachedIn IsOn (fin.get tables.rights key) →
    IsSound (clear tables key)

-- of a key in which no engine is
abbrev pub DrainKeeps : Type 0
DrainKeeps = (tables : TableState) → IsSound tables → (key : Key) → engines_in tables.walks key ≡ 0 →
    IsSound (drain tables key)

-- of a key that was drained
abbrev pub SweepKeeps : Type 0
SweepKeeps =
    (tables : TableState) → IsSound tables → (c : ℕ) (key : Key) → c < LINES →
    IsAttachedIn IsDrained (fin.get tables.rights key) → IsSound (sweep tables c key)

-- of a key all of whose lines were swept
abbrev pub DetachKeeps : Type 0
DetachKeeps = (tables : TableState) → IsSound tables → (key : Key) →
    IsAttachedIn IsSweptWhole (fin.get tables.rights key) → IsSound (detach tables key)

-- of an entry that is empty, where its part is in use
abbrev pub PutKeeps : Type 0
PutKeeps =
    (tables : TableState) → IsSound tables → (file index : ℕ) (cell : Cell) →
    IfSome (fin.get tables.cells (block_pair file index)) (λ cells. cell_at cells (index % PART_BLOCKS) ≡ None) →
    IsSound (put_entry tables file index cell)

-- of an entry that reaches no further, where its part is in use
abbrev pub RaiseKeeps : Type 0
RaiseKeeps =
    (tables : TableState) → IsSound tables → (file index limit : ℕ) →
    IfSome (fin.get tables.cells (block_pair file index))
    (λ cells. ReachesUpTo limit (cell_at cells (index % PART_BLOCKS))) →
    IsSound (raise_limit tables file index limit)

-- ---- what growth leaves

-- a filled entry lowers nothing: each lookup that gave a block still gives it, and reaches as far
abbrev pub PutLowersNothing : Type 0
PutLowersNothing =
    (tables : TableState) (file index : ℕ) (cell : Cell) →
    IfSome (fin.get tables.cells (block_pair file index)) (λ cells. cell_at cells (index % PART_BLOCKS) ≡ None) →
    (key : Key) (i : ℕ) (reached : Cell) → IsOfEntry reached (lookup tables key i) →
    IsOfEntry reached (lookup (put_entry tables file index cell) key i)

-- nor does a limit that is not below the one before
abbrev pub RaiseLowersNothing : Type 0
RaiseLowersNothing =
    (tables : TableState) (file index limit : ℕ) →
    IfSome (fin.get tables.cells (block_pair file index))
    (λ cells. ReachesUpTo limit (cell_at cells (index % PART_BLOCKS))) →
    (key : Key) (i : ℕ) (reached : Cell) → IsOfEntry reached (lookup tables key i) →
    IsOfEntry reached (lookup (raise_limit tables file index limit) key i)

-- ---- what a revocation reaches

-- a drain is over exactly where no engine is in the key, granted or refused
abbrev pub DrainsAreOver : Type 0
DrainsAreOver = (tables : TableState) (key : Key) →
    (drained_of (engines_in tables.walks key) ≡ Yes) ↔ (engines_in tables.walks key ≡ 0)

-- no engine is granted in a drained key, so none holds a translation under it or may come to hold one
abbrev pub DrainedKeysAreLeft : Type 0
DrainedKeysAreLeft =
    (tables : TableState) → IsSound tables → (key : Key) → IsAttachedIn IsDrained (fin.get tables.rights key) →
    (process : ℕ) (request : Request) →
    granted_of (walk_at tables.walks process) ≡ Some request → ¬ (request.key ≡ key)

-- after all lines were swept since the drain none names the key
abbrev pub SweptKeysAreInNoLine : Type 0
SweptKeysAreInNoLine =
    (tables : TableState) → IsSound tables → (key : Key) →
    IsAttachedIn IsSweptWhole (fin.get tables.rights key) →
    (c : ℕ) (line : Line) → line_at tables.lines c ≡ Some line → ¬ (line.key ≡ key)
