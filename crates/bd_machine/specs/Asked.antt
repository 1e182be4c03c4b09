-- What the engine of a process asks of the machine, and what becomes of that.
use Rattle.std.specs.Prelude.{◌≡◌, ℕ, ◌+◌, false, List, [], ◌∷◌, Option, None, Some, length}
use Rattle.std.specs.Option.{option_map}
use Rattle.bd_base.specs.declared.journal.Found.{Found}
use Rattle.bd_machine.specs.declared.told.InHand.{InHand}
use Rattle.bd_machine.specs.declared.process.Hand.{Hand}
use Rattle.bd_machine.specs.declared.process.Process.{Process}
use Rattle.bd_machine.specs.Engines.{HasInHand, MayNoteAt, in_hand_told}
use Rattle.bd_machine.specs.Machine.{IsShown}
use Rattle.bd_machine.specs.Shows.{request_of_command}
use Rattle.bd_machine.specs.Turns.{process_in}
use Rattle.bd_machine.specs.Whole.{Whole}
use Rattle.bd_queue_pair.specs.declared.command.Command.{Command}
use Rattle.bd_tables.specs.declared.request.Request.{Request}
use Rattle.bd_tables.specs.declared.sides.Tables as sides
use Rattle.bd_tables.specs.State.{found_of, walk_at}
use Rattle.bd_turns.specs.declared.turn.Row.{Row}
use Rattle.bd_turns.specs.declared.turn.Turn.TheVariants.{Did}
use Rattle.bd_turns.specs.State as turns
use Rattle.bd_turns.specs.State.{State, progress_of, running}
use Rattle.bd_turns.specs.Turns.{after_turn, answer_of}

-- ---- before

-- the engine of a process as an actor of the machine
abbrev pub engine_of : {T M P : Type 0} → Whole T M P → ℕ → ℕ
engine_of x process = length x.script.processes + process

-- the machine shows this state, in which the engine of the process is in this phase with the command in its hand
pub record IsInPhaseAt {T M P : Type 0} (K : sides.Ghosts T P) (x : Whole T M P) (m : State) (process : ℕ)
    (phase : turns.Phase) :
    Type 0 where
  pub shown : IsShown K x m
  pub hand : Hand
  pub has : HasInHand x.parts process hand
  pub entered : (progress_of m process).hand ≡ Some (record { piece = hand.command.piece; phase = phase })

-- the pass is the one of the engine of this process, of the machine's tables
pub record IsPassOf {T M P : Type 0} (K : sides.Ghosts T P) (x : Whole T M P) (process : ℕ) (pass : P) : Type 0 where
  pub of_tables : K.is_of x.parts.tables pass
  pub process_is : K.process pass ≡ process

-- the pass has come as far as the walk of its engine has in this state
abbrev pub IsWalkOf : {T P : Type 0} → sides.Ghosts T P → State → ℕ → P → Type 0
IsWalkOf K m process pass = walk_at m.tables.walks process ≡ K.walk pass

-- the machine shows this state; the engine of the process was refused for the command in its hand, which is not
-- answered. Where what it found may be noted, it was refused in this state, too
pub record IsRefusedAt {T M P : Type 0} (K : sides.Ghosts T P) (x : Whole T M P) (m : State) (process : ℕ) (pass : P)
    (hand : Hand) (found : Found) : Type 0 where
  pub shown : IsShown K x m
  pub has : HasInHand x.parts process hand
  pub unanswered : hand.outcome ≡ None
  pub found_is : found_of (K.walk pass) ≡ Some found
  pub walks : MayNoteAt m process hand found → IsInPhaseAt K x m process turns.Missing × IsWalkOf K m process pass

-- a state, the command in the hand of an engine there, and what its walk found
pub record Miss : Type 0 where
  pub state : State
  pub hand : Hand
  pub found : Found

-- ---- after

-- the machine shows the state after the turn of this actor, which is one of this row; the trace and the count of turns
-- stay
pub record TookRow {T M P : Type 0} (K : sides.Ghosts T P) (old new : Whole T M P) (m : State) (actor : ℕ) (row : Row) :
    Type 0 where
  pub script : new.script ≡ old.script
  pub shown : IsShown K new (after_turn m actor)
  pub answer : answer_of m actor ≡ Did row
  pub events : new.parts.log.events ≡ old.parts.log.events
  pub turns : new.parts.log.turns ≡ old.parts.log.turns

-- the machine shows the same state; the trace and the count of turns stay
pub record IsSameState {T M P : Type 0} (K : sides.Ghosts T P) (old new : Whole T M P) (m : State) : Type 0 where
  pub script : new.script ≡ old.script
  pub shown : IsShown K new m
  pub events : new.parts.log.events ≡ old.parts.log.events
  pub turns : new.parts.log.turns ≡ old.parts.log.turns

-- ---- what is told of a hand

-- this is told of the hand of the engine of a process
abbrev pub IsToldOfHand : {T M P : Type 0} → Whole T M P → ℕ → Option InHand → Type 0
IsToldOfHand {T} {M} {P} x process told =
    (y : Process P) → process_in x.parts process ≡ Some y → told ≡ option_map (in_hand_told process) y.hand

-- the engine of the process has this command in its hand now, which was the oldest of those submitted, or there is none
abbrev pub IsTaken : {T M P : Type 0} → Whole T M P → Whole T M P → ℕ → Option Request → Type 0
IsTaken {T} {M} {P} old new process None =
    (y : Process P) → process_in old.parts process ≡ Some y → y.queue.submitted ≡ []
IsTaken {T} {M} {P} old new process (Some request) =
    (y : Process P) → process_in old.parts process ≡ Some y →
    (c : Command) × (rest : List Command) × (y.queue.submitted ≡ c ∷ rest) × (request ≡ request_of_command process c)
    × IsToldOfHand new process (Some (record { request = request; answered = false }))
