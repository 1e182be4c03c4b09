-- The turn of each actor: what it answers, and the state after it.
use Rattle.std.specs.Prelude.{◌≡◌, ℕ, ◌+◌, ◌-◌, ◌*◌, ◌/◌, ◌<◌, nat_eq, nat_lt, cond, Bool, true, false, List, [], ◌∷◌, ◌++◌, drop, map, length, slice_get, slice_range, sum, Option, None, Some}
use Rattle.std.specs.Option.{option_and_then, option_map, option_map_or, option_to_list}
use Rattle.std.specs.List.{list_all, range_with_len}
use Rattle.bd_base.specs.declared.journal.At.{At}
use Rattle.bd_base.specs.declared.key.Cell.{Cell}
use Rattle.bd_base.specs.declared.limits.TheConstants.{BLOCK_SIZE, PART_BLOCKS}
use Rattle.bd_base.specs.declared.script.Call.{Call}
use Rattle.bd_base.specs.declared.script.Call.TheVariants.{Enter, Create, Read, Write, Truncate, Unlink, Size, Map, Close, RawRead, RawWrite}
use Rattle.bd_base.specs.declared.script.Mode.{Mode}
use Rattle.bd_base.specs.declared.script.Mode.TheVariants.{R, Rw}
use Rattle.bd_entry.specs.declared.entry.Entry.{Entry}
use Rattle.bd_entry.specs.declared.entry.Entry.TheVariants as entries
use Rattle.bd_entry.specs.Calls.{Place, call_at, calls_of, entries_of}
use Rattle.bd_entry.specs.Effects.{effect_of}
use Rattle.bd_entry.specs.Refusals.{file_of}
use Rattle.bd_entry.specs.Rules.{place_in}
use Rattle.bd_entry.specs.Store.{Descriptor, Store, blocks_in, descriptor_at, limit_in}
use Rattle.bd_tables.specs.Effects as effects
use Rattle.bd_tables.specs.State.{TableState}
use Rattle.bd_turns.specs.declared.turn.Row.{Row}
use Rattle.bd_turns.specs.declared.turn.Row.TheVariants as rows
use Rattle.bd_turns.specs.declared.turn.Turn.{Turn}
use Rattle.bd_turns.specs.declared.turn.Turn.TheVariants.{Did, Idle, Waits}
use Rattle.bd_turns.specs.declared.turn.Wait.{Wait}
use Rattle.bd_turns.specs.Engines as engines
use Rattle.bd_turns.specs.Engines.{Invalidation, Step, engine_step, invalidation_of}
use Rattle.bd_turns.specs.Processors as processors
use Rattle.bd_turns.specs.Processors.{Action, next_action}
use Rattle.bd_turns.specs.State.{Posted, Progress, State, has_ended, place_of, progress_of, running, with_progress}

-- what an actor's turn comes to: nothing to do, a wait, or an effect by this row, after which the state is this one,
-- with these entries added
pub data Outcome : Type 0 where
  Nothing : Outcome
  Waiting : (wait : Wait) → Outcome
  Acting : (row : Row) (next : State) (added : List Entry) → Outcome

-- ---- the tables after an entry of the kernel

-- whether a mode allows writing
abbrev pub may_write : Mode → Bool
may_write R = false
may_write Rw = true

-- the cell of a block of a file
abbrev pub cell_in : Store → ℕ → ℕ → ℕ → Cell
cell_in s file index block = record { block = block; limit = limit_in s file index }

-- the cells of the blocks from this index on
abbrev pub cells_from : Store → ℕ → ℕ → List ℕ → List Cell
cells_from s file index [] = []
cells_from s file index (block ∷ blocks) = cell_in s file index block ∷ cells_from s file (index + 1) blocks

-- the cells of a part of a file
abbrev pub cells_of_part : Store → ℕ → ℕ → List Cell
cells_of_part s file part =
    let first = PART_BLOCKS * part in
    cells_from s file first (slice_range (blocks_in s file) first (first + PART_BLOCKS))

-- the tables after a growth of a file to this size, by this block if any, where s is the store after it
abbrev pub grown_tables : Store → TableState → ℕ → ℕ → Option ℕ → TableState
grown_tables s tables file to None =
    let index = (to - 1) / BLOCK_SIZE in
    effects.raise_limit tables file index (limit_in s file index)
grown_tables s tables file to (Some block) =
    let index = (to - 1) / BLOCK_SIZE in
    effects.put_entry tables file index (cell_in s file index block)

-- the tables after an attach by a descriptor
abbrev pub attached_tables : Store → TableState → ℕ → ℕ → ℕ → Descriptor → TableState
attached_tables s tables process fd part d =
    effects.attach tables (record { process = process; fd = fd; part = part }) d.file (may_write d.mode)
    (cells_of_part s d.file part)

-- the tables after an entry that a processor adds, where s is the store after it: an attach, a clear and a growth
-- change them
abbrev pub tables_after : Store → TableState → Entry → TableState
tables_after s tables (entries.Attached at fd part) =
    option_map_or (attached_tables s tables at.process fd part) (descriptor_at s at.process fd) tables
tables_after s tables (entries.Cleared at owner fd part) =
    effects.clear tables (record { process = owner; fd = fd; part = part })
tables_after s tables (entries.Extended at file to block) = grown_tables s tables file to block
tables_after s tables entry = tables

-- ---- the state after an entry, and after an effective turn in the name of a call

-- the state with this entry added, by its call
abbrev pub with_entry : State → Call → Entry → At → State
with_entry m call entry at =
    record m {
      store = effect_of m.store (place_in m.store call at) entry;
      journal = m.journal ++ entry ∷ [];
    }

-- one effective turn more was taken in the name of the running call
abbrev pub with_turn_used : Progress → Progress
with_turn_used progress = record progress { used = progress.used + 1 }

-- the call has ended, and its process holds nothing
abbrev pub with_call_ended : Progress → Progress
with_call_ended progress = record progress { ended = progress.ended + 1; used = 0; held = None }

-- the state after an effective turn in the name of the call of a process
abbrev pub after_effect : State → Place → State
after_effect m p =
    let progress = progress_of m p.at.process in
    let ended = has_ended p.call (entries_of p.at m.journal) progress in
    with_progress m p.at.process (cond ended (with_call_ended progress) (with_turn_used progress))

-- ---- holds

-- whether the call holds its file from its first effective turn to its last
abbrev pub holds_throughout : Call → Bool
holds_throughout (Enter name mode how) = true
holds_throughout (Create name perms) = false
holds_throughout (Read fd off len) = false
holds_throughout (Write fd off bytes) = false
holds_throughout (Truncate fd size) = true
holds_throughout (Unlink name) = true
holds_throughout (Size fd) = false
holds_throughout (Map fd) = true
holds_throughout (Close fd) = true
holds_throughout (RawRead address range) = false
holds_throughout (RawWrite address lo bytes) = false

-- whether a turn of this row of a processor leaves its process with a hold, unless the call ends: a write holds its
-- file between the growth and the access of one piece alone
abbrev pub holds_after : Call → Row → Bool
holds_after call rows.Extend = true
holds_after call row = holds_throughout call

-- the process after a turn of this row for a call with this file, with the hold that it takes or gives up
abbrev pub with_hold : Call → Row → Option ℕ → Progress → Progress
with_hold call row file progress = record progress { held = cond (holds_after call row) file None }

-- ---- processors

-- the state after a processor's turn of this row at this place, with the process's hold
abbrev pub after_row : State → State → Place → Row → State
after_row m next p row =
    let progress = with_hold p.call row (file_of m.store p) (progress_of next p.at.process) in
    after_effect (with_progress next p.at.process progress) p

-- the state after a processor added an entry
abbrev pub after_adding : State → Place → Row → Entry → State
after_adding m p row entry =
    let next = with_entry m p.call entry p.at in
    after_row m (record next { tables = tables_after next.store m.tables entry }) p row

-- the state after a key was posted
abbrev pub after_posting : State → Place → Posted → State
after_posting m p post = after_row m (record m { posted = m.posted ++ post ∷ [] }) p rows.Post

-- the state after the command of a piece was submitted
abbrev pub after_submitting : State → Place → ℕ → State
after_submitting m p piece =
    let progress = progress_of m p.at.process in
    after_effect
    (with_progress m p.at.process (record progress { submitted = progress.submitted ++ piece ∷ [] })) p

-- the state after the oldest completion was taken
abbrev pub after_polling : State → Place → State
after_polling m p =
    let progress = progress_of m p.at.process in
    after_effect (with_progress m p.at.process (record progress { completed = drop 1 progress.completed })) p

-- what the action of a processor comes to
abbrev pub outcome_of_action : State → Place → Action → Outcome
outcome_of_action m p (processors.Adds row entry) = Acting row (after_adding m p row entry) (entry ∷ [])
outcome_of_action m p (processors.Posts key) =
    Acting rows.Post (after_posting m p (record { key = key; by = p.at })) []
outcome_of_action m p (processors.Submits piece) = Acting rows.Submit (after_submitting m p piece) []
outcome_of_action m p processors.Polls = Acting rows.Poll (after_polling m p) []
outcome_of_action m p (processors.WaitsFor wait) = Waiting wait

-- the turn of a processor
abbrev pub processor_outcome : State → ℕ → Outcome
processor_outcome m process =
    option_map_or
    (λ p. option_map_or (outcome_of_action m p) (next_action m p) Nothing)
    (running m process) Nothing

-- ---- engines

-- the state with this entry added, if any, by the call at this place
abbrev pub with_entry_if_any : State → Place → Option Entry → State
with_entry_if_any m p None = m
with_entry_if_any m p (Some entry) = with_entry m p.call entry p.at

-- the state after a step of a device engine
abbrev pub after_step : State → Place → Step → State
after_step m p step =
    let next = with_entry_if_any m p step.entry in
    after_effect (with_progress (record next { tables = step.tables }) p.at.process step.progress) p

-- the turn of the device engine of a process
abbrev pub engine_outcome : State → ℕ → Outcome
engine_outcome m process =
    option_map_or
    (λ p. option_map_or
    (λ (step : Step). Acting step.row (after_step m p step) (option_to_list step.entry)) (engine_step m p) Nothing)
    (running m process) Nothing

-- the state after an invalidation ended by this entry
abbrev pub after_ending : State → Place → Entry → TableState → State
after_ending m p entry tables =
    after_effect (record (with_entry m p.call entry p.at) { tables = tables; posted = drop 1 m.posted }) p

-- what the step of the invalidation engine, for a request of the call at this place, comes to
abbrev pub outcome_of_invalidation : State → Place → Invalidation → Outcome
outcome_of_invalidation m p (engines.Changes row tables) =
    Acting row (after_effect (record m { tables = tables }) p) []
outcome_of_invalidation m p (engines.Ends entry tables) =
    Acting rows.DetachDone (after_ending m p entry tables) (entry ∷ [])
outcome_of_invalidation m p (engines.WaitsFor wait) = Waiting wait

-- the call that posted the request at the front, at its place
abbrev pub posting_place : State → Option Place
posting_place m =
    option_and_then
    (λ (post : Posted). option_map (place_of m post.by) (call_at m.script post.by)) (slice_get m.posted 0)

-- the turn of the invalidation engine
abbrev pub invalidation_outcome : State → Outcome
invalidation_outcome m =
    option_map_or
    (λ p. option_map_or (outcome_of_invalidation m p) (invalidation_of m.tables m.posted) Nothing)
    (posting_place m) Nothing

-- ---- actors

-- how many processes the script has
abbrev pub process_count : State → ℕ
process_count m = length m.script.processes

-- what the turn of an actor comes to: first the processors, then the device engines, and last the invalidation engine
abbrev pub outcome_of : State → ℕ → Outcome
outcome_of m actor =
    cond (nat_lt actor (process_count m)) (processor_outcome m actor)
    (cond (nat_lt actor (2 * process_count m)) (engine_outcome m (actor - process_count m)) (invalidation_outcome m))

-- what an outcome answers
abbrev pub answer_in : Outcome → Turn
answer_in Nothing = Idle
answer_in (Waiting wait) = Waits wait
answer_in (Acting row next added) = Did row

-- the state after an outcome
abbrev pub state_after : State → Outcome → State
state_after m Nothing = m
state_after m (Waiting wait) = m
state_after m (Acting row next added) = next

-- the entries that an outcome adds
abbrev pub entries_added : Outcome → List Entry
entries_added Nothing = []
entries_added (Waiting wait) = []
entries_added (Acting row next added) = added

-- what an actor's turn answers
abbrev pub answer_of : State → ℕ → Turn
answer_of m actor = answer_in (outcome_of m actor)

-- the state after an actor's turn
abbrev pub after_turn : State → ℕ → State
after_turn m actor = state_after m (outcome_of m actor)

-- the entries that an actor's turn adds to the journal
abbrev pub visible_of : State → ℕ → List Entry
visible_of m actor = entries_added (outcome_of m actor)

-- ---- the end of a run, and what falls on the way to it

-- whether all calls of every process have ended
abbrev pub all_ended : State → Bool
all_ended m =
    list_all (λ process. nat_eq (progress_of m process).ended (length (calls_of m.script process)))
    (range_with_len 0 (process_count m))

-- how many effective turns may be taken in the name of a call
abbrev pub turns_per_call : ℕ
turns_per_call = 25000

-- a number that falls with every effective turn: those that are left to the calls that have not ended
abbrev pub rest_of : State → ℕ
rest_of m =
    turns_per_call
    * sum
    (map (λ process. length (calls_of m.script process) - (progress_of m process).ended)
    (range_with_len 0 (process_count m)))
    - sum (map (λ (progress : Progress). progress.used) m.processes)

-- a turn with this answer led from one state to the other: an effective one lowers the rest, another changes nothing
abbrev pub LowersRest : Turn → State → State → Type 0
LowersRest (Did row) old new = rest_of new < rest_of old
LowersRest Idle old new = new ≡ old
LowersRest (Waits wait) old new = new ≡ old

-- some actor's turn has an effect
abbrev pub SomeActorActs : State → Type 0
SomeActorActs m = (actor : ℕ) × (row : Row) × (actor < 2 * process_count m + 1) × (answer_of m actor ≡ Did row)
