-- Which entries device engines add: the access of a piece that they move, and what a walk found in its place.
use Rattle.std.proofs.Common.{◌≡◌, ◌⊎◌, inl, inr, ℕ, List, [], ◌∷◌, Option, None, Some, refl, sym, ap, ◌∙◌}
use Rattle.std.specs.Option.{option_map}
use Rattle.std.proofs.lemmas.Option.{none-some, same_Some}
use Rattle.bd_base.specs.declared.journal.Found.{Found}
use Rattle.bd_entry.specs.declared.entry.Entry.{Entry}
use Rattle.bd_entry.specs.declared.entry.Entry.TheVariants as entries
use Rattle.bd_entry.specs.Calls.{Place}
use Rattle.bd_entry.proofs.NextActs.{map_from, then_from}
use Rattle.bd_tables.specs.declared.request.Completion.{Completion}
use Rattle.bd_tables.specs.State.{found_of, told_of, walk_at}
use Rattle.bd_turns.specs.declared.turn.Row.TheVariants as rows
use Rattle.bd_turns.specs.Engines.{Step, engine_step, engine_with, enter, fill, go_on, look, miss, move, move_entry_of, notes, read_entry, request_of_piece, take_command}
use Rattle.bd_turns.specs.State.{InHand, Looking, Reading, Filling, Moving, Missing, Retiring, Completing, Phase, Progress, State, progress_of}

-- the engine has this piece in its hand, in this phase
abbrev pub HasInHand : State → ℕ → ℕ → Phase → Type 0
HasInHand m process number phase = (progress_of m process).hand ≡ Some (record { piece = number; phase = phase })

-- the bytes of a piece are moved by the translation that the walk was told
pub record IsMove (m : State) (p : Place) (e : Entry) : Type 0 where
  pub number : ℕ
  pub in_hand : HasInHand m p.at.process number Moving
  pub completion : Completion
  pub told : told_of (walk_at m.tables.walks p.at.process) ≡ Some completion
  pub entry : move_entry_of m.store p number completion.block ≡ Some e

-- what the walk of a piece found is noted
pub record IsMiss (m : State) (p : Place) (e : Entry) : Type 0 where
  pub number : ℕ
  pub in_hand : HasInHand m p.at.process number Missing
  pub found : Found
  pub told : found_of (walk_at m.tables.walks p.at.process) ≡ Some found
  pub entry : entries.Missed p.at number found ≡ e

module _ (m : State) (p : Place) (step : Step) (e : Entry) (adds : step.entry ≡ Some e) where
  -- how far the process is
  abbrev progress : Progress
  progress = progress_of m p.at.process

  -- a step without an entry is none of those that add one
  silent : (other : Step) → other ≡ step → other.entry ≡ None → ⊥
  silent other same quiet = none-some e (sym quiet ∙ ap (λ (s : Step). s.entry) same ∙ adds)

  takes : (submitted : List ℕ) → take_command m.tables p progress submitted ≡ Some step → ⊥
  takes [] is = none-some step is
  takes (number ∷ rest) is =
      let found = map_from (enter m.tables progress number rest) (request_of_piece p number) step is in
      silent (enter m.tables progress number rest found.0) found.2 refl

  goes_on : (number : ℕ) (phase : Phase) → HasInHand m p.at.process number phase → go_on m p progress number phase ≡ Some step →
      IsMove m p e ⊎ IsMiss m p e
  goes_on number Looking in_hand is =
      let found = map_from (look m.tables progress number) (request_of_piece p number) step is in
      absurd (silent (look m.tables progress number found.0) found.2 refl)
  goes_on number Reading in_hand is =
      let found = map_from (read_entry m.tables progress number) (request_of_piece p number) step is in
      absurd (silent (read_entry m.tables progress number found.0) found.2 refl)
  goes_on number Filling in_hand is =
      let told = told_of (walk_at m.tables.walks p.at.process) in
      let by = then_from (λ request. option_map (fill m.tables progress number request) told) (request_of_piece p number) step is in
      let found = map_from (fill m.tables progress number by.0) told step by.2 in
      absurd (silent (fill m.tables progress number by.0 found.0) found.2 refl)
  goes_on number Moving in_hand is =
      let told = then_from (move m.store m.tables p progress number) (told_of (walk_at m.tables.walks p.at.process)) step is in
      let entry = map_from (notes rows.Move m.tables progress number) (move_entry_of m.store p number told.0.block) step told.2 in
      let same : Some entry.0 ≡ Some e = ap (λ (s : Step). s.entry) entry.2 ∙ adds in
      inl (record {
        number = number;
        in_hand = in_hand;
        completion = told.0;
        told = told.1;
        entry = entry.1 ∙ same;
      })
  goes_on number Missing in_hand is =
      let found = map_from (miss m.tables p progress number) (found_of (walk_at m.tables.walks p.at.process)) step is in
      let same : Some (entries.Missed p.at number found.0) ≡ Some e = ap (λ (s : Step). s.entry) found.2 ∙ adds in
      inr (record {
        number = number;
        in_hand = in_hand;
        found = found.0;
        told = found.1;
        entry = same_Some (entries.Missed p.at number found.0) e same;
      })
  goes_on number Retiring in_hand is =
      absurd (none-some e (ap (λ (s : Step). s.entry) (same_Some _ step is) ∙ adds))
  goes_on number Completing in_hand is =
      absurd (none-some e (ap (λ (s : Step). s.entry) (same_Some _ step is) ∙ adds))

  with_hand : (hand : Option InHand) → progress.hand ≡ hand → engine_with m p progress hand ≡ Some step → IsMove m p e ⊎ IsMiss m p e
  with_hand None is takes_one = absurd (takes progress.submitted takes_one)
  with_hand (Some hand) is going = goes_on hand.piece hand.phase is going

  pub step_adds : engine_step m p ≡ Some step → IsMove m p e ⊎ IsMiss m p e
  step_adds is = with_hand progress.hand refl is
