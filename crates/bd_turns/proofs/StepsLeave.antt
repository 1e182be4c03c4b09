-- What the step of a device engine leaves: the rights, and how far its process is; it adds a device's entry at most.
use Rattle.std.proofs.Common.{◌≡◌, ◌≢◌, ℕ, true, List, [], ◌∷◌, ◌++◌, map, Some, refl, sym, ap, ◌∙◌}
use Rattle.bd_entry.specs.declared.entry.Entry.{Entry}
use Rattle.bd_entry.specs.Calls.{Place}
use Rattle.bd_entry.specs.Promises.{is_access_or_miss}
use Rattle.bd_tables.specs.State.{TableState}
use Rattle.bd_turns.specs.Engines.{Step, engine_step}
use Rattle.bd_turns.specs.State.{Completed, InHand, Progress, State, outstanding, pieces_in_hand, progress_of}
use Rattle.bd_turns.proofs.CommandsOfSteps.{StepDoes, step_access, step_ended, step_held, step_is}
use Rattle.bd_turns.proofs.EngineCommands.{hand_of}
use Rattle.bd_turns.proofs.EngineSteps.{IsStep, completes, engine_steps, enters, fills, looks, misses, moves, reads, retires}

-- ---- commands

-- lists with an element are not empty
both_nil : {X : Type 0} (xs ys : List X) → xs ++ ys ≡ [] → (xs ≡ []) × (ys ≡ [])
both_nil [] ys none = (refl, none)
both_nil (x ∷ xs) ys none = absurd (let no : x ∷ (xs ++ ys) ≡ [] = none in cc)

-- a process with a command in its engine's hand has one outstanding
pub hand_outstanding : (progress : Progress) (hand : InHand) → progress.hand ≡ Some hand → outstanding progress ≢ []
hand_outstanding progress hand in_hand none =
    let done : List ℕ = map (λ (done : Completed). done.piece) progress.completed in
    let front = (both_nil (done ++ pieces_in_hand progress.hand) progress.submitted none).0 in
    let piece : hand.piece ∷ [] ≡ [] = ap pieces_in_hand (sym in_hand) ∙ (both_nil done (pieces_in_hand progress.hand) front).1 in
    cc

-- and one with a command submitted, too
submitted_outstanding : (progress : Progress) (number : ℕ) (rest : List ℕ) → progress.submitted ≡ number ∷ rest → outstanding progress ≢ []
submitted_outstanding progress number rest waiting none =
    let done : List ℕ = map (λ (done : Completed). done.piece) progress.completed in
    let no : number ∷ rest ≡ [] = sym waiting ∙ (both_nil (done ++ pieces_in_hand progress.hand) progress.submitted none).1 in
    cc

does_outstanding : (p : Place) (progress : Progress) (step : Step) → StepDoes p progress step → outstanding progress ≢ []
does_outstanding p progress step (StepDoes.takes number rest phase free list silent after none) =
    submitted_outstanding progress number rest list
does_outstanding p progress step (StepDoes.goes_on number phase next in_hand same after none) =
    hand_outstanding progress (hand_of number phase) in_hand
does_outstanding p progress step (StepDoes.tells number phase e in_hand after adds alone access) =
    hand_outstanding progress (hand_of number phase) in_hand
does_outstanding p progress step (StepDoes.gives number in_hand after none) = hand_outstanding progress _ in_hand

-- ---- what a step leaves

-- the step leaves the rights, which calls of the process have ended and what it holds
pub record StepKeeps (tables : TableState) (progress : Progress) (step : Step) : Type 0 where
  pub rights : step.tables.rights ≡ tables.rights
  pub ended : step.progress.ended ≡ progress.ended
  pub held : step.progress.held ≡ progress.held
  pub device : (e : Entry) → step.entry ≡ Some e → is_access_or_miss e ≡ true

step_rights : (m : State) (p : Place) (step : Step) → IsStep m p step → step.tables.rights ≡ m.tables.rights
step_rights m p step (enters number rest request none waiting of_piece is) = ap (λ (x : Step). x.tables.rights) is
step_rights m p step (looks hand request in_hand phase of_piece is) = ap (λ (x : Step). x.tables.rights) is
step_rights m p step (reads hand request in_hand phase of_piece is) = ap (λ (x : Step). x.tables.rights) is
step_rights m p step (fills hand request completion in_hand phase of_piece told is) = ap (λ (x : Step). x.tables.rights) is
step_rights m p step (moves hand completion entry in_hand phase told entry_is is) = ap (λ (x : Step). x.tables.rights) is
step_rights m p step (misses hand found in_hand phase found_is is) = ap (λ (x : Step). x.tables.rights) is
step_rights m p step (retires hand in_hand phase is) = ap (λ (x : Step). x.tables.rights) is
step_rights m p step (completes hand in_hand phase is) = ap (λ (x : Step). x.tables.rights) is

pub step_keeps : (m : State) (p : Place) (step : Step) → engine_step m p ≡ Some step →
    StepKeeps m.tables (progress_of m p.at.process) step × (outstanding (progress_of m p.at.process) ≢ [])
step_keeps m p step is =
    let progress : Progress = progress_of m p.at.process in
    let does = (step_is m p step is).does in (
      record {
        rights = step_rights m p step (engine_steps m p step is);
        ended = step_ended p progress step does;
        held = step_held p progress step does;
        device = λ e added. step_access p progress step e does added;
      },
      does_outstanding p progress step does,
    )
