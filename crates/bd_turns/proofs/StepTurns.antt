-- Each step of a device engine leaves its commands fewer turns.
use Rattle.std.proofs.Common.{◌≡◌, ℕ, ◌+◌, ◌≤◌, List, [], ◌∷◌, ◌++◌, length, Option, None, Some, refl, ap, ◌∙◌, subst, arith, length-append}
use Rattle.std.specs.Option.{option_map, option_map_or}
use Rattle.std.proofs.lemmas.Option.{none-some, same_Some}
use Rattle.bd_base.specs.declared.journal.Found.{Found}
use Rattle.bd_base.specs.declared.key.Cell.{Cell}
use Rattle.std.specs.FinMap as fin
use Rattle.bd_entry.specs.Calls.{Place, has_missed}
use Rattle.bd_entry.proofs.NextActs.{map_from, then_from}
use Rattle.bd_lines.specs.Lines.{hit}
use Rattle.bd_tables.specs.declared.request.Request.{Request}
use Rattle.bd_tables.specs.State.{TableState, found_entering, found_of, found_reading, lookup, told_of, walk_at}
use Rattle.bd_turns.specs.Engines.{Step, complete, engine_step, engine_with, enter, fill, go_on, look, miss, move, move_entry_of, notes, phase_after, phase_looked, read_entry, request_of_piece, retire, take_command, walks}
use Rattle.bd_turns.specs.declared.turn.Row.{Row}
use Rattle.bd_turns.specs.declared.turn.Row.TheVariants as rows
use Rattle.bd_turns.specs.Rest.{command_turns, phase_turns}
use Rattle.bd_turns.specs.State.{Completed, InHand, Phase, Looking, Reading, Filling, Moving, Missing, Retiring, Completing, Progress, State, progress_of}

-- the step leaves how far its process is and what it holds, and its commands take fewer turns after it
pub record StepFalls (progress : Progress) (step : Step) : Type 0 where
  pub used : step.progress.used ≡ progress.used
  pub ended : step.progress.ended ≡ progress.ended
  pub held : step.progress.held ≡ progress.held
  pub falls : command_turns step.progress + 1 ≤ command_turns progress

-- the turns of the command in a hand
abbrev hand_turns : Option InHand → ℕ
hand_turns hand = option_map_or (λ (hand : InHand). phase_turns hand.phase) hand 0

-- a step that goes on with a piece that was in the hand
goes_on : (progress : Progress) (number : ℕ) (phase next : Phase) (row : Row) (tables : TableState) →
    progress.hand ≡ Some (record { piece = number; phase = phase }) → phase_turns next + 1 ≤ phase_turns phase →
    StepFalls progress (walks row progress number next tables)
goes_on progress number phase next row tables hand less =
    let old : hand_turns progress.hand ≡ phase_turns phase = ap hand_turns hand in
    record { used = refl; ended = refl; held = refl; falls = omega (arith, old, less) }

less_after : (found : Option Found) (next : Phase) (most : ℕ) → phase_turns next + 1 ≤ most → 5 ≤ most → phase_turns (phase_after found next) + 1 ≤ most
less_after None next most less missing = less
less_after (Some found) next most less missing = missing

less_looked : (cell : Option Cell) → phase_turns (phase_looked cell) + 1 ≤ 7
less_looked None = omega arith
less_looked (Some cell) = omega arith

takes : (m : State) (p : Place) (progress : Progress) (step : Step) (list : List ℕ) → progress.hand ≡ None → progress.submitted ≡ list →
    take_command m.tables p progress list ≡ Some step → StepFalls progress step
takes m p progress step [] hand is_list is = absurd (none-some step is)
takes m p progress step (number ∷ rest) hand is_list is =
    let found = map_from (enter m.tables progress number rest) (request_of_piece p number) step is in
    subst (StepFalls progress) found.2 (enters found.0)
  where
    enters : (request : Request) → StepFalls progress (enter m.tables progress number rest request)
    enters request =
        let what : Option Found = found_entering (fin.get m.tables.rights request.key) request.write in
        let more : phase_turns (phase_after what Looking) + 1 ≤ 8 = less_after what Looking 8 (omega arith) (omega arith) in
        let count : length progress.submitted ≡ 1 + length rest = ap (λ (l : List ℕ). length l) is_list ∙ omega arith in
        let old : hand_turns progress.hand ≡ 0 = ap hand_turns hand in
        record { used = refl; ended = refl; held = refl; falls = omega (arith, count, old, more) }

going : (m : State) (p : Place) (progress : Progress) (step : Step) (number : ℕ) (phase : Phase) →
    progress.hand ≡ Some (record { piece = number; phase = phase }) → go_on m p progress number phase ≡ Some step → StepFalls progress step
going m p progress step number Looking hand is =
    let found = map_from (look m.tables progress number) (request_of_piece p number) step is in
    let request : Request = found.0 in
    let cell : Option Cell = hit m.tables.lines request.key request.index request.hi in
    subst (StepFalls progress) found.2 (goes_on progress number Looking (phase_looked cell) _ _ hand (less_looked cell))
going m p progress step number Reading hand is =
    let found = map_from (read_entry m.tables progress number) (request_of_piece p number) step is in
    let request : Request = found.0 in
    let what : Option Found = found_reading request.hi (lookup m.tables request.key request.index) in
    subst (StepFalls progress) found.2
    (goes_on progress number Reading (phase_after what Filling) _ _ hand (less_after what Filling 6 (omega arith) (omega arith)))
going m p progress step number Filling hand is =
    let request =
    then_from (λ request. option_map (fill m.tables progress number request) (told_of (walk_at m.tables.walks p.at.process))) (request_of_piece p number) step
    is in
    let found = map_from (fill m.tables progress number request.0) (told_of (walk_at m.tables.walks p.at.process)) step request.2 in
    subst (StepFalls progress) found.2 (goes_on progress number Filling Moving _ _ hand (omega arith))
going m p progress step number Moving hand is =
    let told = then_from (move m.store m.tables p progress number) (told_of (walk_at m.tables.walks p.at.process)) step is in
    let found = map_from (notes rows.Move m.tables progress number) (move_entry_of m.store p number told.0.block) step told.2 in
    let falls = goes_on progress number Moving Retiring rows.Move m.tables hand (omega arith) in
    subst (StepFalls progress) found.2 (record { used = refl; ended = refl; held = refl; falls = falls.falls })
going m p progress step number Missing hand is =
    let found = map_from (miss m.tables p progress number) (found_of (walk_at m.tables.walks p.at.process)) step is in
    let falls = goes_on progress number Missing Retiring rows.Missed m.tables hand (omega arith) in
    subst (StepFalls progress) found.2 (record { used = refl; ended = refl; held = refl; falls = falls.falls })
going m p progress step number Retiring hand is =
    subst (StepFalls progress) (same_Some (retire m.tables p progress number) step is)
    (goes_on progress number Retiring Completing _ _ hand (omega arith))
going m p progress step number Completing hand is =
    let old : hand_turns progress.hand ≡ 2 = ap hand_turns hand in
    let done : Completed = record { piece = number; missed = has_missed number p.before } in
    let more : length (progress.completed ++ done ∷ []) ≡ length progress.completed + 1 = length-append progress.completed (done ∷ []) in
    subst (StepFalls progress) (same_Some (complete m.tables p progress number) step is)
    (record { used = refl; ended = refl; held = refl; falls = omega (arith, old, more) })

-- so does each step
pub steps_fall : (m : State) (p : Place) (step : Step) → engine_step m p ≡ Some step → StepFalls (progress_of m p.at.process) step
steps_fall m p step is = by (progress_of m p.at.process).hand refl is
  where
    by : (hand : Option InHand) → (progress_of m p.at.process).hand ≡ hand → engine_with m p (progress_of m p.at.process) hand ≡ Some step →
        StepFalls (progress_of m p.at.process) step
    by None none is = takes m p (progress_of m p.at.process) step (progress_of m p.at.process).submitted none refl is
    by (Some hand) held is = going m p (progress_of m p.at.process) step hand.piece hand.phase held is
