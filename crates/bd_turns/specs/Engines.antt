-- What the device engines and the invalidation engine do next.
use Rattle.std.specs.Prelude.{ℕ, ◌/◌, nat_eq, cond, Bool, not, List, [], ◌∷◌, ◌++◌, position, Option, None, Some}
use Rattle.std.specs.Option.{option_and_then, option_map, option_map_or}
use Rattle.std.specs.FinMap as fin
use Rattle.bd_base.specs.declared.journal.Found.{Found}
use Rattle.bd_base.specs.declared.journal.Way.TheVariants as ways
use Rattle.bd_base.specs.declared.key.Cell.{Cell}
use Rattle.bd_base.specs.declared.key.Key.{Key}
use Rattle.bd_base.specs.declared.limits.TheConstants.{PART_BLOCKS}
use Rattle.bd_base.specs.Pieces.{Piece}
use Rattle.bd_entry.specs.declared.entry.Entry.{Entry}
use Rattle.bd_entry.specs.declared.entry.Entry.TheVariants as entries
use Rattle.bd_entry.specs.Calls.{Place, bytes_for_piece, does_write, fd_of, has_missed, piece_of_call}
use Rattle.bd_entry.specs.RulesOfContents.{bytes_within}
use Rattle.bd_entry.specs.Store.{Descriptor, Store, descriptor_at}
use Rattle.bd_lines.specs.Lines.{hit}
use Rattle.bd_tables.specs.declared.request.Completion.{Completion}
use Rattle.bd_tables.specs.declared.request.Looked.{Looked}
use Rattle.bd_tables.specs.declared.request.Looked.TheVariants as looks
use Rattle.bd_tables.specs.declared.request.Request.{Request}
use Rattle.bd_tables.specs.declared.state.Right.{Right}
use Rattle.bd_tables.specs.declared.state.RightState.{RightState}
use Rattle.bd_tables.specs.declared.state.RightState.TheVariants as states
use Rattle.bd_tables.specs.Effects as effects
use Rattle.bd_tables.specs.State.{TableState, engines_in, found_entering, found_of, found_reading, lookup, told_of, walk_at}
use Rattle.bd_turns.specs.declared.turn.Row.{Row}
use Rattle.bd_turns.specs.declared.turn.Row.TheVariants as rows
use Rattle.bd_turns.specs.declared.turn.Wait.{Wait}
use Rattle.bd_turns.specs.declared.turn.Wait.TheVariants as waits
use Rattle.bd_turns.specs.State.{InHand, Phase, Looking, Reading, Filling, Moving, Missing, Retiring, Completing, Posted, Progress, State, progress_of}

-- what the turn of an engine does: it changes the tables and what is in its hand, adds an entry, or gives a completion
-- back
pub record Step : Type 0 where
  pub row : Row
  pub tables : TableState
  pub progress : Progress
  pub entry : Option Entry

-- ---- the request of a command

-- the key of a block through a descriptor of a process
abbrev pub key_for : ℕ → ℕ → ℕ → Key
key_for process fd index = record { process = process; fd = fd; part = index / PART_BLOCKS }

-- what an engine asks of the tables for a piece of the call at this place, through this descriptor
abbrev pub request_for : Place → ℕ → Piece → Request
request_for p fd piece =
    record {
      key = key_for p.at.process fd piece.index;
      index = piece.index;
      hi = piece.range.hi;
      write = does_write p.call;
    }

-- the same for the piece of this number
abbrev pub request_of_piece : Place → ℕ → Option Request
request_of_piece p number =
    option_and_then (λ fd. option_map (request_for p fd) (piece_of_call p.call number)) (fd_of p)

-- ---- the turns of a device engine

-- the step changes the tables alone, after which the engine is in that phase with the piece
abbrev pub walks : Row → Progress → ℕ → Phase → TableState → Step
walks row progress number phase tables =
    record {
      row = row;
      tables = tables;
      progress = record progress { hand = Some (record { piece = number; phase = phase }) };
      entry = None;
    }

-- the phase after an enter or a read of an entry that found this
abbrev pub phase_after : Option Found → Phase → Phase
phase_after None next = next
phase_after (Some found) next = Missing

-- the oldest command goes into the hand, and its engine enters the key
abbrev pub enter : TableState → Progress → ℕ → List ℕ → Request → Step
enter tables progress number rest request =
    let found = found_entering (fin.get tables.rights request.key) request.write in
    walks (rows.Enter found) (record progress { submitted = rest }) number (phase_after found Looking)
    (effects.enter tables request)

-- whether a look hits
abbrev pub looked : Option Cell → Looked
looked None = looks.Miss
looked (Some cell) = looks.Hit

-- the phase after a look
abbrev pub phase_looked : Option Cell → Phase
phase_looked None = Reading
phase_looked (Some cell) = Moving

-- the engine looks into the line of its address
abbrev pub look : TableState → Progress → ℕ → Request → Step
look tables progress number request =
    let cell = hit tables.lines request.key request.index request.hi in
    walks (rows.Look (looked cell)) progress number (phase_looked cell) (effects.look tables request)

-- the engine reads the entry of the block
abbrev pub read_entry : TableState → Progress → ℕ → Request → Step
read_entry tables progress number request =
    let found = found_reading request.hi (lookup tables request.key request.index) in
    walks (rows.ReadEntry found) progress number (phase_after found Filling) (effects.read_entry tables request)

-- the translation is put into the line of its address
abbrev pub fill : TableState → Progress → ℕ → Request → Completion → Step
fill tables progress number request completion =
    walks rows.Fill progress number Moving (effects.fill tables request completion)

-- the bytes that a direct access of the piece moves: those of the block, or the call's
abbrev pub moved_bytes : Store → Place → Piece → ℕ → List ℕ
moved_bytes s p piece block =
    cond (does_write p.call) (bytes_for_piece p.call piece)
    (bytes_within s.bytes (Some block) piece.range piece.range.hi)

-- the direct access of the piece on the block of the translation
abbrev pub move_entry : Store → Place → ℕ → ℕ → Piece → ℕ → Descriptor → Entry
move_entry s p number fd piece block d =
    entries.Access p.at number fd d.file piece.index (Some block) piece.range (does_write p.call) ways.Direct
    (moved_bytes s p piece block)

-- the same by the descriptor of the call and the piece of this number
abbrev pub move_entry_of : Store → Place → ℕ → ℕ → Option Entry
move_entry_of s p number block =
    option_and_then
    (λ fd. option_and_then
    (λ piece. option_map (move_entry s p number fd piece block) (descriptor_at s p.at.process fd))
    (piece_of_call p.call number))
    (fd_of p)

-- the step adds this entry, after which the engine is in that phase with the piece
abbrev pub notes : Row → TableState → Progress → ℕ → Entry → Step
notes row tables progress number entry =
    record (walks row progress number Retiring tables) { entry = Some entry }

-- the bytes are moved
abbrev pub move : Store → TableState → Place → Progress → ℕ → Completion → Option Step
move s tables p progress number completion =
    option_map (notes rows.Move tables progress number) (move_entry_of s p number completion.block)

-- what the walk found is noted
abbrev pub miss : TableState → Place → Progress → ℕ → Found → Step
miss tables p progress number found =
    notes rows.Missed tables progress number (entries.Missed p.at number found)

-- the engine leaves its key
abbrev pub retire : TableState → Place → Progress → ℕ → Step
retire tables p progress number =
    walks rows.Retire progress number Completing (effects.retire tables p.at.process)

-- the completion is given back
abbrev pub complete : TableState → Place → Progress → ℕ → Step
complete tables p progress number =
    record {
      row = rows.Complete;
      tables = tables;
      progress =
          record progress {
            hand = None;
            completed = progress.completed ++ (record { piece = number; missed = has_missed number p.before }) ∷ [];
          };
      entry = None;
    }

-- the engine takes the oldest command, None where there is none
abbrev pub take_command : TableState → Place → Progress → List ℕ → Option Step
take_command tables p progress [] = None
take_command tables p progress (number ∷ rest) =
    option_map (enter tables progress number rest) (request_of_piece p number)

-- the engine goes on with the piece in its hand
abbrev pub go_on : State → Place → Progress → ℕ → Phase → Option Step
go_on m p progress number Looking =
    option_map (look m.tables progress number) (request_of_piece p number)
go_on m p progress number Reading =
    option_map (read_entry m.tables progress number) (request_of_piece p number)
go_on m p progress number Filling =
    option_and_then
    (λ request. option_map (fill m.tables progress number request) (told_of (walk_at m.tables.walks p.at.process)))
    (request_of_piece p number)
go_on m p progress number Moving =
    option_and_then (move m.store m.tables p progress number) (told_of (walk_at m.tables.walks p.at.process))
go_on m p progress number Missing =
    option_map (miss m.tables p progress number) (found_of (walk_at m.tables.walks p.at.process))
go_on m p progress number Retiring = Some (retire m.tables p progress number)
go_on m p progress number Completing = Some (complete m.tables p progress number)

-- the turn of an engine with this in its hand
abbrev pub engine_with : State → Place → Progress → Option InHand → Option Step
engine_with m p progress None = take_command m.tables p progress progress.submitted
engine_with m p progress (Some hand) = go_on m p progress hand.piece hand.phase

-- the turn of the engine of a process whose running call is at this place; None where it has nothing to do
abbrev pub engine_step : State → Place → Option Step
engine_step m p =
    let progress = progress_of m p.at.process in
    engine_with m p progress progress.hand

-- ---- the turns of the invalidation engine

-- what the turn of the invalidation engine does for the request at the front: it changes the tables, may end the
-- request by an entry, or waits
pub data Invalidation : Type 0 where
  Changes : (row : Row) (tables : TableState) → Invalidation
  Ends : (entry : Entry) (tables : TableState) → Invalidation
  WaitsFor : (wait : Wait) → Invalidation

-- a key in which no engine is is drained
abbrev pub drain : TableState → Key → Invalidation
drain tables key =
    let count = engines_in tables.walks key in
    cond (nat_eq count 0) (Changes rows.Drain (effects.drain tables key)) (WaitsFor (waits.InFlight key count))

-- the right of the key is detached
abbrev pub detach : TableState → Posted → Invalidation
detach tables post =
    Ends (entries.Detached post.by post.key.process post.key.fd post.key.part) (effects.detach tables post.key)

-- the next line that was not swept is, and after the last the key is detached
abbrev pub sweep_or_detach : TableState → Posted → List Bool → Invalidation
sweep_or_detach tables post swept =
    option_map_or
    (λ line. Changes (rows.Sweep line) (effects.sweep tables line post.key))
    (position not swept) (detach tables post)

-- the next step for a right in this state; a posted right is no longer on
abbrev pub invalidate : TableState → Posted → RightState → Option Invalidation
invalidate tables post states.On = None
invalidate tables post states.Cleared = Some (drain tables post.key)
invalidate tables post (states.Drained swept) = Some (sweep_or_detach tables post swept)

-- the turn of the invalidation engine for these posted requests; None where there is none
abbrev pub invalidation_of : TableState → List Posted → Option Invalidation
invalidation_of tables [] = None
invalidation_of tables (post ∷ rest) =
    option_and_then
    (λ (right : Right). invalidate tables post right.state) (fin.get tables.rights post.key)
