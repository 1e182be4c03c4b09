-- What turns do to the commands of a call: which are outstanding, and how many turns they take.
use Rattle.std.proofs.Common.{◌≡◌, ◌⊎◌, inl, inr, ℕ, ◌+◌, ◌≤◌, Bool, true, false, ◌||◌, cond, List, [], ◌∷◌, ◌++◌, length, map, Option, Some, refl, sym, ap, ◌∙◌, subst, arith, append_assoc, length-append, ⊎_elim}
use Rattle.std.specs.Prelude.{All, drop, nat_eq}
use Rattle.std.specs.Option.{option_map}
use Rattle.std.specs.List.{list_any}
use Rattle.std.proofs.lemmas.Bool.{eqb-true, false≢true, or_cases}
use Rattle.std.proofs.lemmas.List.{append-nil}
use Rattle.std.proofs.lemmas.List.Elements.{All-head}
use Rattle.std.proofs.lemmas.Option.{same_Some}
use Rattle.bd_entry.specs.declared.act.Act.{Act}
use Rattle.bd_entry.specs.declared.act.Act.TheVariants as acts
use Rattle.bd_entry.specs.declared.entry.Entry.{Entry}
use Rattle.bd_entry.specs.Actions.{entry_of_act, is_none_of, next_act}
use Rattle.bd_entry.specs.Calls.{Place, has_missed}
use Rattle.bd_entry.proofs.NextActs.{map_from, then_from}
use Rattle.bd_turns.specs.declared.turn.Wait.{Wait}
use Rattle.bd_turns.specs.declared.turn.Wait.TheVariants as waits
use Rattle.bd_turns.specs.Engines.{Step}
use Rattle.bd_turns.specs.Processors as processors
use Rattle.bd_turns.specs.Processors.{Action, action_for, least_outstanding, next_action, poll, post, revocation, row_of_entry, running_of}
use Rattle.bd_turns.specs.Rest.{command_turns}
use Rattle.bd_turns.specs.Sound.{AreCommands, is_told}
use Rattle.bd_turns.specs.State.{Completed, InHand, Progress, State, holder_of, outstanding, pieces_in_hand, progress_of}
use Rattle.bd_turns.proofs.CommandsOfSteps.{StepDoes}
use Rattle.bd_turns.proofs.Revocations.{Revokes, revokes}

-- the pieces of completions
abbrev done_pieces : List Completed → List ℕ
done_pieces done = map (λ (c : Completed). c.piece) done

-- ---- steps of engines

-- a step leaves the commands that are outstanding
pub step_outstanding : (p : Place) (progress : Progress) (step : Step) → StepDoes p progress step → outstanding step.progress ≡ outstanding progress
step_outstanding p progress step (StepDoes.takes number rest phase free list silent after none) =
    let done : List ℕ = done_pieces progress.completed in
    ap outstanding after ∙ append_assoc done (number ∷ []) rest
    ∙ ap (λ (l : List ℕ). done ++ l) (sym list)
    ∙ ap (λ (l : List ℕ). l ++ progress.submitted) (sym (append-nil done))
    ∙ ap (λ (h : Option InHand). done ++ pieces_in_hand h ++ progress.submitted) (sym free)
step_outstanding p progress step (StepDoes.goes_on number phase next in_hand same after none) =
    let done : List ℕ = done_pieces progress.completed in
    ap outstanding after ∙ ap (λ (h : Option InHand). done ++ pieces_in_hand h ++ progress.submitted) (sym in_hand)
step_outstanding p progress step (StepDoes.tells number phase e in_hand after adds alone access) =
    let done : List ℕ = done_pieces progress.completed in
    ap outstanding after ∙ ap (λ (h : Option InHand). done ++ pieces_in_hand h ++ progress.submitted) (sym in_hand)
step_outstanding p progress step (StepDoes.gives number in_hand after none) =
    let done : List ℕ = done_pieces progress.completed in
    let back : Completed = record { piece = number; missed = has_missed number p.before } in
    ap outstanding after
    ∙ ap (λ (l : List ℕ). l ++ [] ++ progress.submitted) (map_push progress.completed back)
    ∙ ap (λ (l : List ℕ). l ++ progress.submitted) (append-nil (done ++ number ∷ []))
    ∙ ap (λ (h : Option InHand). done ++ pieces_in_hand h ++ progress.submitted) (sym in_hand)
  where
    map_push : (list : List Completed) (c : Completed) → done_pieces (list ++ c ∷ []) ≡ done_pieces list ++ c.piece ∷ []
    map_push [] c = refl
    map_push (x ∷ list) c = ap (λ (l : List ℕ). x.piece ∷ l) (map_push list c)

-- ---- submissions

pub submission_outstanding : (progress : Progress) (piece : ℕ) →
    outstanding (record progress { submitted = progress.submitted ++ piece ∷ [] }) ≡ outstanding progress ++ piece ∷ []
submission_outstanding progress piece =
    sym (append_assoc (done_pieces progress.completed ++ pieces_in_hand progress.hand) progress.submitted (piece ∷ []))

pub submission_turns : (progress : Progress) (piece : ℕ) →
    command_turns (record progress { submitted = progress.submitted ++ piece ∷ [] }) ≡ command_turns progress + 8
submission_turns progress piece =
    let count : length (progress.submitted ++ piece ∷ []) ≡ length progress.submitted + 1 = length-append progress.submitted (piece ∷ []) in
    omega (arith, count)

-- ---- polls

-- whether the action takes a completion
abbrev is_polls : Action → Bool
is_polls processors.Polls = true
is_polls action = false

-- a completion is taken where there is one
pub polls_some : (m : State) (p : Place) → next_action m p ≡ Some processors.Polls → is_none_of (progress_of m p.at.process).completed ≡ false
polls_some m p acting =
    let found = then_from (action_for m p) (next_act m.store (holder_of m) (running_of m p)) processors.Polls acting in
    by found.0 found.2
  where
    of_entry : (o : Option Entry) → option_map (λ (entry : Entry). processors.Adds (row_of_entry entry) entry) o ≡ Some processors.Polls → ⊥
    of_entry o is =
        let found = map_from (λ (entry : Entry). processors.Adds (row_of_entry entry) entry) o processors.Polls is in
        false≢true (ap is_polls found.2)

    of_revocation : (keys : List _) (action : Action) → Revokes m p keys action → is_polls action ≡ true → ⊥
    of_revocation keys action (Revokes.posts key unposted) is = false≢true is
    of_revocation keys action (Revokes.clears key none next) is = false≢true is
    of_revocation keys action (Revokes.waits wait) is = false≢true is

    of_poll : (b : Bool) (wait : Wait) → cond b (processors.WaitsFor wait) processors.Polls ≡ processors.Polls → b ≡ false
    of_poll true wait is = absurd (false≢true (ap is_polls is))
    of_poll false wait is = refl

    by : (act : Act) → action_for m p act ≡ Some processors.Polls → is_none_of (progress_of m p.at.process).completed ≡ false
    by (acts.Busy file holder) is = absurd (false≢true (ap is_polls (same_Some _ processors.Polls is)))
    by (acts.Revoke keys) is =
        absurd
        (of_revocation keys (revocation m p keys) (revokes m p keys)
        (ap is_polls (same_Some (revocation m p keys) processors.Polls is)))
    by (acts.Submit piece) is = absurd (false≢true (ap is_polls (same_Some (processors.Submits piece) processors.Polls is)))
    by acts.Poll is =
        let progress = progress_of m p.at.process in
        of_poll (is_none_of progress.completed) (waits.Completion (least_outstanding (outstanding progress)))
        (same_Some (poll progress) processors.Polls is)
    by act is = absurd (of_entry (entry_of_act m.store p act) is)

-- its turn is one of those of the commands
pub poll_turns : (progress : Progress) → is_none_of progress.completed ≡ false →
    command_turns (record progress { completed = drop 1 progress.completed }) + 1 ≤ command_turns progress
poll_turns progress some = by progress.completed refl some
  where
    by : (done : List Completed) → progress.completed ≡ done → is_none_of done ≡ false →
        command_turns (record progress { completed = drop 1 progress.completed }) + 1 ≤ command_turns progress
    by [] is none = absurd (false≢true (sym none))
    by (c ∷ rest) is none =
        let old : length progress.completed ≡ 1 + length rest = ap (λ (l : List Completed). length l) is ∙ omega arith in
        let new : length (drop 1 progress.completed) ≡ length rest = ap (λ (l : List Completed). length (drop 1 l)) is in
        omega (arith, old, new)

-- a piece that is outstanding no more is one of which the journal tells
pub poll_outstanding : (p : Place) (progress : Progress) → AreCommands p progress → (number : ℕ) →
    list_any (nat_eq number) (outstanding progress) ≡ true →
    (list_any (nat_eq number) (outstanding (record progress { completed = drop 1 progress.completed })) ≡ true) ⊎ (is_told p number ≡ true)
poll_outstanding p progress are number out = by progress.completed refl
  where
    by : (done : List Completed) → progress.completed ≡ done →
        (list_any (nat_eq number) (outstanding (record progress { completed = drop 1 progress.completed })) ≡ true) ⊎ (is_told p number ≡ true)
    by [] is =
        inl
        (ap (λ (l : List Completed). list_any (nat_eq number) (done_pieces (drop 1 l) ++ pieces_in_hand progress.hand ++ progress.submitted)) is
        ∙ sym (ap (λ (l : List Completed). list_any (nat_eq number) (done_pieces l ++ pieces_in_hand progress.hand ++ progress.submitted)) is) ∙ out)
    by (c ∷ rest) is =
        let here : (nat_eq number c.piece || list_any (nat_eq number) (done_pieces rest ++ pieces_in_hand progress.hand ++ progress.submitted)) ≡ true =
        sym (ap (λ (l : List Completed). list_any (nat_eq number) (done_pieces l ++ pieces_in_hand progress.hand ++ progress.submitted)) is) ∙ out in
        ⊎_elim
        (λ same.
        let tells = All-head (λ (done : Completed). (is_told p done.piece ≡ true) × (done.missed ≡ has_missed done.piece p.before)) c rest
        (subst (All (λ (done : Completed). (is_told p done.piece ≡ true) × (done.missed ≡ has_missed done.piece p.before))) is are.completed) in
        inr (subst (λ (n : ℕ). is_told p n ≡ true) (sym (eqb-true number c.piece same)) tells.0))
        (λ later.
        inl
        (ap (λ (l : List Completed). list_any (nat_eq number) (done_pieces (drop 1 l) ++ pieces_in_hand progress.hand ++ progress.submitted)) is ∙ later))
        (or_cases (nat_eq number c.piece) (list_any (nat_eq number) (done_pieces rest ++ pieces_in_hand progress.hand ++ progress.submitted)) here)
