use Rattle.std.proofs.Common.{◌≡◌, ℕ, false, List, ◌∷◌, ◌++◌, refl, sym, ap, ◌∙◌, arith}
use Rattle.bd_blocks.specs.Texts.{has_byte, number_text}
use Rattle.bd_blocks.proofs.FieldTexts.{no_split, unique_split}
use Rattle.bd_blocks.proofs.NumberTexts.{number-has_no}
use Rattle.bd_script.specs.Texts.{Alone, Times, Written, written_text}
use Rattle.bd_script.proofs.schedules.read_item.Goals as goal

-- an item with turns
record IsStarred (first second : List ℕ) : Type 0 where
  actor : ℕ
  turns : ℕ
  first_is : first ≡ number_text actor
  second_is : second ≡ number_text turns

-- a text that is split at its first star is that of an actor with turns alone
starred : (text first second : List ℕ) → text ≡ first ++ 42 ∷ second → has_byte 42 first ≡ false → (w : Written) → text ≡ written_text w
    → IsStarred first second
starred text first second split none (Alone actor) same =
    absurd (no_split 42 (number_text actor) first second (number-has_no 42 (omega arith) actor) (sym same ∙ split))
starred text first second split none (Times actor turns) same =
    let parts = unique_split 42 first (number_text actor) second (number_text turns) none (number-has_no 42 (omega arith) actor) (sym split ∙ same) in
    record { actor = actor; turns = turns; first_is = parts.0; second_is = parts.1 }

pub returns-in_default-clause-some : goal.returns-in_default-clause-some
returns-in_default-clause-some c = let actor = c.in_ok-read_actor.ensures.some in (Alone actor.0, actor.2, actor.1, (tt, refl))

pub returns-in_err-actor-clause-none : goal.returns-in_err-actor-clause-none
returns-in_err-actor-clause-none c =
    rw c.from_residual-in_err-actor.ensures
    (λ w same.
    let parts = starred c.args.text.now c.in-Some.first.now c.in-Some.second.now c.in-Some.ensures.split c.in-Some.ensures.first w same in
    c.in_err-actor.ensures.none parts.actor parts.first_is)

pub returns-in_err-turns-clause-none : goal.returns-in_err-turns-clause-none
returns-in_err-turns-clause-none c =
    rw c.from_residual-in_err-turns.ensures
    (λ w same.
    let parts = starred c.args.text.now c.in-Some.first.now c.in-Some.second.now c.in-Some.ensures.split c.in-Some.ensures.first w same in
    c.in_err-turns.ensures.none parts.turns parts.second_is)

pub returns-clause-some : goal.returns-clause-some
returns-clause-some c =
    let actor = c.in_ok-actor.ensures.some in
    let turns = c.in_ok-turns.ensures.some in (
      Times actor.0 turns.0,
      c.in-Some.ensures.split ∙ ap (λ (l : List ℕ). l ++ 42 ∷ c.in-Some.second.now) actor.2
          ∙ ap (λ (l : List ℕ). number_text actor.0 ++ 42 ∷ l) turns.2,
      actor.1,
      c.turns_within.ensures actor.0 turns.0 turns.1,
    )
