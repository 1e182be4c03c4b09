-- A process of which no command is outstanding.
use Rattle.std.proofs.Common.{◌≡◌, ℕ, List, [], ◌∷◌, ◌++◌, map, length, Option, None, Some, refl, sym, ap, ◌∙◌, arith}
use Rattle.std.specs.Prelude.{nat_eq}
use Rattle.std.proofs.lemmas.Bool.{both_ways, ne_eqb}
use Rattle.bd_entry.specs.Actions.{is_none_of}
use Rattle.bd_machine.specs.declared.process.Hand.{Hand}
use Rattle.bd_machine.specs.declared.process.Process.{Process}
use Rattle.bd_machine.specs.Shows.{completed_of, pieces_of_commands, progress_shown}
use Rattle.bd_machine.proofs.ShowingHands.{outstanding_shown, pieces_held}
use Rattle.bd_queue_pair.specs.declared.command.Command.{Command}
use Rattle.bd_turns.specs.State.{Completed, Phase, outstanding}

-- a list has no element exactly where its length is zero
pub none_is_empty : (xs : List ℕ) → nat_eq (length xs) 0 ≡ is_none_of xs
none_is_empty [] = refl
none_is_empty (x ∷ xs) = ne_eqb (length (x ∷ xs)) 0 (λ same. omega (same, arith))

-- no element is left
cons-nil : {X : Type 0} (x : X) (xs : List X) → x ∷ xs ≡ [] → ⊥
cons-nil x xs is = both_ways (is_none_of (x ∷ xs)) refl (ap is_none_of is)

parts_empty : (front middle back : List ℕ) → front ++ middle ++ back ≡ [] → (middle ≡ []) × (back ≡ [])
parts_empty [] [] back is = (refl, is)
parts_empty [] (x ∷ xs) back is = absurd (cons-nil x (xs ++ back) is)
parts_empty (x ∷ xs) middle back is = absurd (cons-nil x (xs ++ middle ++ back) is)

no_command : (commands : List Command) → pieces_of_commands commands ≡ [] → commands ≡ []
no_command [] is = refl
no_command (c ∷ cs) is = absurd (cons-nil c.piece (pieces_of_commands cs) is)

no_hand : (hand : Option Hand) → pieces_held hand ≡ [] → hand ≡ None
no_hand None is = refl
no_hand (Some hand) is = absurd (cons-nil hand.command.piece [] is)

-- nothing is submitted, and nothing in the hand
pub record HasNothing {P : Type 0} (z : Process P) : Type 0 where
  pub hand : z.hand ≡ None
  pub submitted : z.queue.submitted ≡ []

pub nothing_left : {P : Type 0} (held : Option ℕ) (phase : Option Phase) (z : Process P) →
    outstanding (progress_shown held phase z) ≡ [] → HasNothing z
nothing_left held phase z is =
    let front = map (λ (done : Completed). done.piece) (map completed_of z.queue.completed) in
    let parts =
    parts_empty front (pieces_held z.hand) (pieces_of_commands z.queue.submitted) (sym (outstanding_shown held phase z) ∙ is) in
    record { hand = no_hand z.hand parts.0; submitted = no_command z.queue.submitted parts.1 }
