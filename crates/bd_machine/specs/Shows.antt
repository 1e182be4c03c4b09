-- How the parts of a machine show a state of the abstract machine.
use Rattle.std.specs.Prelude.{◌≡◌, ◌⊎◌, ℕ, ◌/◌, ◌%◌, Bool, true, false, List, [], ◌++◌, map, length, slice_get, slice_index_or, All, Option, None, Some}
use Rattle.std.specs.Option.{option_map, option_to_list}
use Rattle.bd_base.specs.declared.limits.TheConstants.{FILE_BLOCKS}
use Rattle.bd_base.specs.declared.script.Process.{Process as ScriptProcess}
use Rattle.bd_base.specs.declared.script.Script.{Script}
use Rattle.bd_base.specs.declared.volume.Volume.{Volume}
use Rattle.bd_base.specs.Pieces.{Piece}
use Rattle.bd_entry.specs.Calls.{Place, has_missed, piece_of_call}
use Rattle.bd_entry.specs.Store.{user_of}
use Rattle.bd_kernel.specs.Disks.{IsDiskOf}
use Rattle.bd_kernel.specs.Turns.{AreEntriesOf}
use Rattle.bd_kernel.specs.Turns as kernel
use Rattle.bd_machine.specs.declared.parts.Parts.{Parts}
use Rattle.bd_machine.specs.declared.process.Hand.{Hand}
use Rattle.bd_machine.specs.declared.process.Phase.{Phase}
use Rattle.bd_machine.specs.declared.process.Phase.TheVariants as phases
use Rattle.bd_machine.specs.declared.process.Process.{Process}
use Rattle.bd_queue_pair.specs.declared.command.Command.{Command}
use Rattle.bd_queue_pair.specs.declared.command.Done.{Done}
use Rattle.bd_queue_pair.specs.declared.command.DoneKind.{DoneKind}
use Rattle.bd_queue_pair.specs.declared.command.DoneKind.TheVariants as kinds
use Rattle.bd_tables.specs.declared.plain.PlainPass.{PlainPass}
use Rattle.bd_tables.specs.declared.request.Request.{Request}
use Rattle.bd_tables.specs.declared.sides.Tables as sides
use Rattle.bd_tables.specs.Passes.{IsLent, goes_apart, lies_in, process_of_pass, shows_whole, walk_of_pass}
use Rattle.bd_tables.specs.Plain.{PlainState}
use Rattle.bd_turns.specs.Engines.{key_for, request_of_piece}
use Rattle.bd_turns.specs.Reached.{IsReached}
use Rattle.bd_turns.specs.Sound.{has_told}
use Rattle.bd_turns.specs.State as turns
use Rattle.bd_turns.specs.State.{Completed, InHand, Progress, State, outstanding, progress_of, running}

-- a state that a machine can come to
abbrev pub Reached : State → Type 0
Reached m = (v : Volume) × IsReached v m

-- ---- how far a process is

-- what an engine does next, in the words of the abstract machine; None where it has not entered yet
abbrev pub phase_of : Phase → Option turns.Phase
phase_of phases.Taken = None
phase_of phases.Looking = Some turns.Looking
phase_of phases.Reading = Some turns.Reading
phase_of phases.Filling = Some turns.Filling
phase_of phases.Moving = Some turns.Moving
phase_of phases.Missing = Some turns.Missing
phase_of phases.Retiring = Some turns.Retiring
phase_of phases.Completing = Some turns.Completing

-- the command in the hand of an engine in this phase
abbrev pub in_hand_of : Hand → turns.Phase → InHand
in_hand_of hand phase = record { piece = hand.command.piece; phase = phase }

-- what the abstract machine has in the hand of an engine: nothing before the engine has entered
abbrev pub hand_shown : Option turns.Phase → Option Hand → Option InHand
hand_shown phase None = None
hand_shown phase (Some hand) = option_map (in_hand_of hand) phase

-- the piece of a command that was taken, and whose engine has not entered yet
abbrev pub taken_shown : Option turns.Phase → Option Hand → List ℕ
taken_shown (Some phase) hand = []
taken_shown None hand = option_to_list (option_map (λ (h : Hand). h.command.piece) hand)

-- whether the walk of a completed command missed
abbrev pub is_miss : DoneKind → Bool
is_miss kinds.Moved = false
is_miss (kinds.Missed found) = true

-- a completed command
abbrev pub completed_of : Done → Completed
completed_of done = record { piece = done.piece; missed = is_miss done.outcome }

-- the pieces of commands
abbrev pub pieces_of_commands : List Command → List ℕ
pieces_of_commands commands = map (λ (c : Command). c.piece) commands

-- how far the process is that holds this file, with its engine in this phase
abbrev pub progress_shown : {P : Type 0} → Option ℕ → Option turns.Phase → Process P → Progress
progress_shown held phase x =
    record {
      ended = x.ended;
      used = x.used;
      held = held;
      submitted = taken_shown phase x.hand ++ pieces_of_commands x.queue.submitted;
      hand = hand_shown phase x.hand;
      completed = map completed_of x.queue.completed;
    }

-- ---- its running call

-- what the engine of a process asks of the tables for a command
abbrev pub request_of_command : ℕ → Command → Request
request_of_command process c =
    let index = c.vba % FILE_BLOCKS in
    record {
      key = key_for process (c.vba / FILE_BLOCKS) index;
      index = index;
      hi = c.range.hi;
      write = c.wrote;
    }

-- the command is that of its piece
pub record IsCommandOf (p : Place) (c : Command) : Type 0 where
  pub piece : Piece
  pub piece_is : piece_of_call p.call c.piece ≡ Some piece
  pub range : c.range ≡ piece.range
  pub request : request_of_piece p c.piece ≡ Some (request_of_command p.at.process c)

-- what is kept of the running call is of it
pub record IsCallKept (m : State) (p : Place) (c : kernel.Progress) : Type 0 where
  pub call : c.call ≡ p.call
  pub process : c.process ≡ p.at.process
  pub uid : c.uid ≡ user_of m.store p.at.process
  pub entries : AreEntriesOf c p.before
  pub outstanding : c.outstanding ≡ outstanding (progress_of m p.at.process)

-- the call was not begun: it has no entry and no command
pub record IsNotBegun (m : State) (p : Place) : Type 0 where
  pub entries : p.before ≡ []
  pub outstanding : outstanding (progress_of m p.at.process) ≡ []

-- what was kept of the running call, begun or not, is of it
abbrev pub IsCallAt : State → Place → Option kernel.Progress → Type 0
IsCallAt m p None = IsNotBegun m p
IsCallAt m p (Some c) = IsCallKept m p c

-- what became of a command in hand is kept exactly where the journal tells of it
abbrev pub IsOutcome : Bool → Bool → Option DoneKind → Type 0
IsOutcome false missed None = Unit {0}
IsOutcome false missed (Some kind) = ⊥
IsOutcome true missed None = ⊥
IsOutcome true missed (Some kind) = is_miss kind ≡ missed

-- whether the engine has said in the journal what became of the command in its hand
abbrev pub tells : Option turns.Phase → Bool
tells None = false
tells (Some phase) = has_told phase

-- the command in hand, with what became of it
pub record IsHandOf (p : Place) (phase : Option turns.Phase) (hand : Hand) : Type 0 where
  pub command : IsCommandOf p hand.command
  pub outcome : IsOutcome (tells phase) (has_missed hand.command.piece p.before) hand.outcome

-- whether an engine with a command in this phase walks with its pass
abbrev pub has_pass : Phase → Bool
has_pass phases.Taken = false
has_pass phases.Completing = false
has_pass phase = true

-- the same for an engine with this in its hand
abbrev pub does_walk : Phase → Option Hand → Bool
does_walk phase None = false
does_walk phase (Some hand) = has_pass phase

-- the pass of an engine that walks is of the tables and kept; that of another lies in them
abbrev pub IsPassKept : {T P : Type 0} → sides.Ghosts T P → T → ℕ → Option P → Type 0
IsPassKept K t process None = ⊥
IsPassKept K t process (Some pass) = (K.process pass ≡ process) × K.is_of t pass

abbrev pub IsPassWhere : {T P : Type 0} → sides.Ghosts T P → Bool → T → ℕ → Option P → Type 0
IsPassWhere K true t process pass = IsPassKept K t process pass
IsPassWhere K false t process pass = K.lies t process × (pass ≡ None)

-- the machine knows the phase of the engine of a process, and has its pass or the tables have
pub record IsEngineHere {T P : Type 0} (K : sides.Ghosts T P) (t : T) (process : ℕ) (phase : Option turns.Phase)
    (x : Process P) : Type 0 where
  pub phase_is : phase ≡ phase_of x.phase
  pub pass : IsPassWhere K (does_walk x.phase x.hand) t process x.pass

-- a process of the machine is where the abstract machine has it; its engine may go its own way
pub record IsProcessAt {T P : Type 0} (K : sides.Ghosts T P) (m : State) (held : Option ℕ) (t : T) (process : ℕ)
    (x : Process P) : Type 0 where
  pub phase : Option turns.Phase
  pub progress : progress_of m process ≡ progress_shown held phase x
  pub call : (p : Place) → running m process ≡ Some p → IsCallAt m p x.call
  pub none : running m process ≡ None → x.call ≡ None
  pub submitted : (p : Place) → running m process ≡ Some p → All (IsCommandOf p) x.queue.submitted
  pub taken : x.queue.in_hand ≡ option_to_list (option_map (λ (h : Hand). h.command) x.hand)
  pub hand : (p : Place) (h : Hand) → running m process ≡ Some p → x.hand ≡ Some h → IsHandOf p phase h
  pub engine : K.apart t ⊎ IsEngineHere K t process phase x

-- ---- all of it

-- the parts of a machine that runs the script show this state
pub record Shows {T M P : Type 0} (K : sides.Ghosts T P) (script : Script) (x : Parts T M P) (m : State) :
    Type 0 where
  pub script_is : m.script ≡ script
  pub disk : IsDiskOf x.disk m.store
  pub users : m.store.uids ≡ map (λ (p : ScriptProcess). p.uid) script.processes
  pub holders : length x.disk.held ≡ length script.processes
  pub journal : m.journal ≡ x.log.entries
  pub tables : K.shows x.tables m.tables
  pub posted : m.posted ≡ []
  pub count : length x.processes.items ≡ length script.processes
  pub progresses : length m.processes ≡ length script.processes
  pub each : (process : ℕ) (y : Process P) → slice_get x.processes.items process ≡ Some y →
      IsProcessAt K m (slice_index_or x.disk.held process None) x.tables process y

-- ---- tables for one thread

-- the parts of a machine over tables for one thread
abbrev pub PlainParts : Type 0 → Type 0
PlainParts M = Parts PlainState M PlainPass

-- what is known of such tables and their passes
abbrev pub plain_sides : sides.Ghosts PlainState PlainPass
plain_sides = record {
  walk = walk_of_pass;
  process = process_of_pass;
  is_of = IsLent;
  lies = lies_in;
  apart = goes_apart;
  shows = shows_whole;
}
