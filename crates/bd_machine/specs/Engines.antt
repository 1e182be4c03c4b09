-- What the steps of a device engine's turn ask for.
use Rattle.std.specs.Prelude.{◌≡◌, ℕ, ◌+◌, ◌<◌, List, [], ◌∷◌, ◌++◌, IsSome, Option, None, Some, Result, Ok, is_some, length}
use Rattle.bd_base.specs.declared.journal.At.{At}
use Rattle.bd_base.specs.declared.journal.Found.{Found}
use Rattle.bd_base.specs.declared.script.Call.{Call}
use Rattle.bd_base.specs.Scripts.{IsCall}
use Rattle.bd_entry.specs.declared.entry.Entry.{Entry}
use Rattle.bd_entry.specs.declared.entry.Entry.TheVariants.{Missed}
use Rattle.bd_entry.specs.Calls.{Place, entries_of}
use Rattle.bd_entry.specs.NextEntries.{IsLegalAt}
use Rattle.bd_entry.specs.RulesOfRights.{HasRights}
use Rattle.bd_entry.specs.Store.{Store, Valid}
use Rattle.bd_kernel.specs.Disks.{DiskState, IsDiskOf}
use Rattle.bd_machine.specs.declared.parts.Parts.{Parts}
use Rattle.bd_machine.specs.declared.process.Hand.{Hand}
use Rattle.bd_machine.specs.declared.process.Phase.{Phase}
use Rattle.bd_machine.specs.declared.process.Phase.TheVariants.{Retiring, Taken}
use Rattle.bd_machine.specs.declared.process.Process.{Process}
use Rattle.bd_machine.specs.declared.told.Fell.{Fell}
use Rattle.bd_machine.specs.declared.told.Fell.TheVariants.{Again, Noted}
use Rattle.bd_machine.specs.declared.told.InHand as told
use Rattle.bd_base.specs.declared.script.Script.{Script}
use Rattle.bd_turns.specs.declared.turn.Turn.TheVariants.{Did}
use Rattle.bd_machine.specs.Logs.{HasRoom}
use Rattle.bd_machine.specs.Shows.{IsCommandOf, Shows, in_hand_of, request_of_command}
use Rattle.bd_machine.specs.Turns.{AreFew, HasBegun, IsAt, OthersStay, Sight, StaysAt, process_in}
use Rattle.bd_queue_pair.specs.declared.command.Command.{Command}
use Rattle.bd_queue_pair.specs.declared.command.DoneKind.{DoneKind}
use Rattle.bd_tables.specs.declared.request.Completion.{Completion}
use Rattle.bd_tables.specs.declared.request.Request.{Request}
use Rattle.bd_tables.specs.declared.sides.Tables as sides
use Rattle.bd_tables.specs.Kernel.{IsLimit}
use Rattle.bd_tables.specs.State.{found_of, told_of, walk_at}
use Rattle.bd_turns.specs.declared.turn.Row.{Row}
use Rattle.bd_turns.specs.Engines.{Step, engine_step, move_entry_of}
use Rattle.bd_turns.specs.State as turns
use Rattle.bd_turns.specs.State.{InHand, State, progress_of, running, with_progress}
use Rattle.bd_turns.specs.Turns.{Nothing, after_turn, answer_of, engine_outcome, with_entry_if_any}

-- the entry of a direct access, at its place in a store
pub record MoveAt : Type 0 where
  pub store : Store
  pub place : Place
  pub entry : Entry

-- the entry is the legal one of the direct access of this command on the block, in the store of this disk, by the call
-- at this place
pub record IsMoveOf (disk : DiskState) (call : Call) (at : At) (command : Command) (block : ℕ) (g : MoveAt) :
    Type 0 where
  pub disk_is : IsDiskOf disk g.store
  pub valid : Valid g.store
  pub within : IsCall call
  pub call_is : g.place.call ≡ call
  pub at_is : g.place.at ≡ at
  pub command_is : IsCommandOf g.place command
  pub moved : move_entry_of g.store g.place command.piece block ≡ Some g.entry
  pub legal : IsLegalAt g.store g.place g.entry

-- ---- what an engine begins with

-- the process is there
pub record IsThere {T M P : Type 0} (x : Parts T M P) (process : ℕ) : Type 0 where
  pub it : Process P
  pub there : process_in x process ≡ Some it

-- its engine keeps its pass
pub record KeepsPass {T M P : Type 0} (x : Parts T M P) (process : ℕ) : Type 0 where
  pub it : Process P
  pub there : process_in x process ≡ Some it
  pub some : IsSome it.pass

-- its engine has a command in its hand
pub record HasCommand {T M P : Type 0} (x : Parts T M P) (process : ℕ) : Type 0 where
  pub it : Process P
  pub there : process_in x process ≡ Some it
  pub some : IsSome it.hand

-- its engine has a command in its hand, the one that it took, and knows what became of it
pub record HasAnswer {T M P : Type 0} (x : Parts T M P) (process : ℕ) : Type 0 where
  pub it : Process P
  pub there : process_in x process ≡ Some it
  pub hand : Hand
  pub in_hand : it.hand ≡ Some hand
  pub taken : it.queue.in_hand ≡ hand.command ∷ []
  pub some : IsSome hand.outcome

-- the engine of the process has no command in its hand, and none is submitted
abbrev pub HasNoCommand : {T M P : Type 0} → Parts T M P → ℕ → Type 0
HasNoCommand {T} {M} {P} x process = (y : Process P) → process_in x process ≡ Some y → (y.hand ≡ None)
    × (y.queue.submitted ≡ [])

-- the parts show this state, and the engine of the process has no command in its hand
pub record IsFree {T M P : Type 0} (K : sides.Ghosts T P) (g : Sight) (x : Parts T M P) (process : ℕ) : Type 0 where
  pub at : IsAt K g.script x g.state
  pub it : Process P
  pub there : process_in x process ≡ Some it
  pub free : it.hand ≡ None

-- the parts show this state, and the engine of the process has a command in its hand, in this phase
pub record IsWorking {T M P : Type 0} (K : sides.Ghosts T P) (g : Sight) (x : Parts T M P) (process : ℕ)
    (phase : Phase) : Type 0 where
  pub at : IsAt K g.script x g.state
  pub it : Process P
  pub there : process_in x process ≡ Some it
  pub hand : Hand
  pub in_hand : it.hand ≡ Some hand
  pub phase_is : it.phase ≡ phase
  pub room : HasRoom x.log

-- the parts show this state, in which the engine of the process has the command in its hand in this phase
pub record IsInPhase {T M P : Type 0} (K : sides.Ghosts T P) (g : Sight) (x : Parts T M P) (process : ℕ)
    (phase : turns.Phase) :
    Type 0 where
  pub at : IsAt K g.script x g.state
  pub it : Process P
  pub there : process_in x process ≡ Some it
  pub hand : Hand
  pub in_hand : it.hand ≡ Some hand
  pub entered : (progress_of g.state process).hand ≡ Some (in_hand_of hand phase)

-- the engine of the process has this command in its hand
pub record HasInHand {T M P : Type 0} (x : Parts T M P) (process : ℕ) (hand : Hand) : Type 0 where
  pub it : Process P
  pub there : process_in x process ≡ Some it
  pub in_hand : it.hand ≡ Some hand

-- the parts show this state, and the journal does not tell yet what became of the command in the hand of the engine
pub record IsUnanswered {T M P : Type 0} (K : sides.Ghosts T P) (g : Sight) (x : Parts T M P) (process : ℕ)
    : Type 0 where
  pub at : IsAt K g.script x g.state
  pub hand : Hand
  pub has : HasInHand x process hand
  pub unanswered : hand.outcome ≡ None

-- the translation that the engine of the process holds names this block
pub record NamesBlock (m : State) (process block : ℕ) : Type 0 where
  pub completion : Completion
  pub told : told_of (walk_at m.tables.walks process) ≡ Some completion
  pub block_is : completion.block ≡ block

-- what was found for the command in hand may be noted: the entry keeps the rule of rights
abbrev pub MayNoteAt : State → ℕ → Hand → Found → Type 0
MayNoteAt m process hand found =
    (p : Place) → running m process ≡ Some p → HasRights m.store p (Missed p.at hand.command.piece found)

-- the engine of the process holds a translation that names this block
pub record IsMoving {T M P : Type 0} (K : sides.Ghosts T P) (g : Sight) (x : Parts T M P) (process block : ℕ)
    : Type 0 where
  pub engine : IsInPhase K g x process turns.Moving
  pub completion : Completion
  pub told : told_of (walk_at g.state.tables.walks process) ≡ Some completion
  pub block_is : completion.block ≡ block
  pub room : HasRoom x.log

-- the engine of the process was refused, and found this
pub record IsMissing {T M P : Type 0} (K : sides.Ghosts T P) (g : Sight) (x : Parts T M P) (process : ℕ)
    (found : Found) :
    Type 0 where
  pub engine : IsInPhase K g x process turns.Missing
  pub found_is : found_of (walk_at g.state.tables.walks process) ≡ Some found
  pub room : HasRoom x.log

-- ---- what it leaves

-- the process is this one now and the tables are these, and nothing else of the parts changed
pub record Becomes {T M P : Type 0} (old new : Parts T M P) (process : ℕ) (tables : T) (y : Process P) : Type 0 where
  pub tables_are : new.tables ≡ tables
  pub disk : new.disk ≡ old.disk
  pub log : new.log ≡ old.log
  pub others : OthersStay old new process
  pub mine : process_in new process ≡ Some y

-- the process with its oldest command in hand, before others that are submitted
abbrev pub with_command : {P : Type 0} → Process P → Command → List Command → Process P
with_command y c rest =
    record y {
      queue = record y.queue { submitted = rest; in_hand = y.queue.in_hand ++ c ∷ [] };
      hand = Some (record { command = c; outcome = None });
      phase = Taken;
    }

-- the process with the command in hand given back, of which this became
abbrev pub without_command : {P : Type 0} → Process P → Command → DoneKind → Process P
without_command y c kind =
    record y {
      queue = record y.queue {
        in_hand = [];
        completed = y.queue.completed ++ (record { piece = c.piece; outcome = kind }) ∷ [];
      };
      hand = None;
    }

-- the oldest command of the process was taken in hand, and this is what is asked of the tables for it
pub record TakesOldest {T M P : Type 0} (old new : Parts T M P) (process : ℕ) (y : Process P) (request : Request)
    : Type 0 where
  pub command : Command
  pub rest : List Command
  pub submitted : y.queue.submitted ≡ command ∷ rest
  pub request_is : request ≡ request_of_command process command
  pub hi : IsLimit request.hi
  pub becomes : Becomes old new process old.tables (with_command y command rest)

-- that, or there is none
abbrev pub TakesCommand : {T M P : Type 0} → Parts T M P → Parts T M P → ℕ → Process P → Option Request → Type 0
TakesCommand old new process y None = (y.queue.submitted ≡ []) × Becomes old new process old.tables y
TakesCommand old new process y (Some request) = TakesOldest old new process y request

-- the process with what became of the command in its hand
abbrev pub with_answer : {P : Type 0} → Process P → Hand → DoneKind → Process P
with_answer y hand kind = record y { hand = Some (record hand { outcome = Some kind }); phase = Retiring }

-- the state after a step of an engine, but for the end of its turn
abbrev pub state_stepped : State → Place → Step → State
state_stepped m p step =
    with_progress (record (with_entry_if_any m p step.entry) { tables = step.tables }) p.at.process step.progress

-- the engine of the process took its step, of this row, but for the end of its turn
pub record TakesStep {T M P : Type 0} (K : sides.Ghosts T P) (g : Sight) (old new : Parts T M P) (process : ℕ)
    (row : Row) : Type 0 where
  pub place : Place
  pub running_is : running g.state process ≡ Some place
  pub step : Step
  pub stepping : engine_step g.state place ≡ Some step
  pub row_is : step.row ≡ row
  pub shows : Shows K g.script new (state_stepped g.state place step)
  pub before : List Entry
  pub still : running (state_stepped g.state place step) place.at.process ≡ Some (record place { before = before })
  pub later : entries_of (record { process = place.at.process; call = place.at.call + 1 })
      (state_stepped g.state place step).journal ≡ []
  pub begun : HasBegun new process
  pub few : AreFew new process
  pub events : new.log.events ≡ old.log.events
  pub turns : new.log.turns ≡ old.log.turns
  pub room : HasRoom old.log → 0 < new.log.event_room

-- it took its step, or it has nothing to do
abbrev pub StepsIfAny : {T M P : Type 0} → sides.Ghosts T P → Sight → Parts T M P → Parts T M P → ℕ → Option Row →
    Type 0
StepsIfAny K g old new process None = (engine_outcome g.state process ≡ Nothing) × StaysAt K g.script old new g.state
StepsIfAny K g old new process (Some row) = TakesStep K g old new process row

-- ---- the entries that it adds

-- the entry tells what the walk for the command in hand found
pub record IsMissInHand (m : State) (process : ℕ) (found : Found) (entry : Entry) : Type 0 where
  pub place : Place
  pub running_is : running m process ≡ Some place
  pub hand : InHand
  pub in_hand : (progress_of m process).hand ≡ Some hand
  pub phase_is : hand.phase ≡ turns.Missing
  pub found_is : found_of (walk_at m.tables.walks process) ≡ Some found
  pub entry_is : entry ≡ Missed place.at hand.piece found

-- the entry is the direct access of the command in hand, by the translation that its engine holds
pub record IsMoveInHand (m : State) (process : ℕ) (entry : Entry) : Type 0 where
  pub place : Place
  pub running_is : running m process ≡ Some place
  pub hand : InHand
  pub in_hand : (progress_of m process).hand ≡ Some hand
  pub phase_is : hand.phase ≡ turns.Moving
  pub completion : Completion
  pub told : told_of (walk_at m.tables.walks process) ≡ Some completion
  pub moved : move_entry_of m.store place hand.piece completion.block ≡ Some entry

-- ---- whole turns of which nothing is told

-- the turn of the engine of the process was taken, which is one of this row, and no event was told
pub record TookRowOf {T M P : Type 0} (K : sides.Ghosts T P) (script : Script) (old new : Parts T M P) (m : State)
    (process : ℕ) (row : Row) : Type 0 where
  pub shows : Shows K script new (after_turn m (length script.processes + process))
  pub answer : answer_of m (length script.processes + process) ≡ Did row
  pub events : new.log.events ≡ old.log.events
  pub turns : new.log.turns ≡ old.log.turns

-- a fact of a miss that was noted, and of one that was not
abbrev pub OnNoted : {E : Type 0} → Result Fell E → Type 0 → Type 0
OnNoted (Ok Noted) Holds = Holds
OnNoted other Holds = Unit {0}

abbrev pub OnAgain : {E : Type 0} → Result Fell E → (Found → Type 0) → Type 0
OnAgain (Ok (Again found)) Holds = Holds found
OnAgain other Holds = Unit {0}

-- what is told of a command in hand
abbrev pub in_hand_told : ℕ → Hand → told.InHand
in_hand_told process hand =
    record { request = request_of_command process hand.command; answered = is_some hand.outcome }
