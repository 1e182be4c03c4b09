-- Outstanding commands stay few and apart.
use Rattle.std.proofs.Common.{◌≡◌, ℕ, ◌+◌, ◌<◌, ◌≤◌, Bool, true, false, not, cond, List, [], ◌∷◌, ◌++◌, length, refl, ap, ◌∙◌, subst, arith, length-append}
use Rattle.std.specs.Prelude.{◌==◌, count_by, filter, Option}
use Rattle.std.specs.Option.{option_to_list}
use Rattle.std.proofs.lemmas.List.Sums.{sum_by-append}
use Rattle.std.proofs.lemmas.List.Filters.{sum_by-filter_both, length-filter_both}
use Rattle.std.proofs.lemmas.List.Sums.{length-filter}
use Rattle.std.proofs.lemmas.Bool.{eqb-true}
use Rattle.bd_queue_pair.specs.declared.command.Command.{Command}
use Rattle.bd_queue_pair.specs.declared.command.Done.{Done}
use Rattle.bd_queue_pair.specs.declared.queue_pair.TheConstants.{DEPTH}
use Rattle.bd_queue_pair.specs.Queues.{Queues, outstanding, outstanding_of, in_hand_of, others_in_hand, AreApart}

module _ {X : Type 0} where
  -- of those that fail a test, none passes it
  pub count_by-others : (test : X → Bool) (xs : List X) → count_by test (filter (λ x. not (test x)) xs) ≡ 0
  count_by-others test [] = refl
  count_by-others test (x ∷ xs) = grind (arith, count_by-others test xs)

  pub count_by-append : (test : X → Bool) (xs ys : List X) → count_by test (xs ++ ys) ≡ count_by test xs + count_by test ys
  count_by-append test xs ys = sum_by-append (λ x. cond (test x) 1 0) xs ys

  pub count_by-push : (test : X → Bool) (xs : List X) (x : X) → count_by test (xs ++ x ∷ []) ≡ count_by test xs + cond (test x) 1 0
  count_by-push test xs x = omega (arith, sum_by-append (λ y. cond (test y) 1 0) xs (x ∷ []))

  -- no more of some pass a test than of all
  pub count_by-filter-le : (test other : X → Bool) (xs : List X) → count_by test (filter (λ x. not (other x)) xs) ≤ count_by test xs
  count_by-filter-le test other xs = omega (arith, sum_by-filter_both other (λ x. not (other x)) (λ x. refl) (λ x. cond (test x) 1 0) xs)

  -- where one passes a test, there is one fewer of those that fail it
  pub length-others : (test : X → Bool) (xs : List X) → count_by test xs ≡ 1 → length (filter (λ x. not (test x)) xs) + 1 ≡ length xs
  length-others test xs one =
      omega (arith, one, length-filter test xs, length-filter_both test (λ x. not (test x)) (λ x. refl) xs)

at_most_one : (b : Bool) → cond b 1 0 ≤ 1
at_most_one true = omega arith
at_most_one false = omega arith

-- how many have the piece number after a command whose own is not in use was submitted
different-submitted :
    (q r : Queues) (c : Command) (piece : ℕ) → r.submitted ≡ q.submitted ++ c ∷ [] → r.in_hand ≡ q.in_hand →
    r.completed ≡ q.completed → outstanding_of q c.piece ≡ 0 → AreApart q →
    (b : Bool) → (c.piece == piece) ≡ b → outstanding_of r piece ≤ 1
different-submitted q r c piece submitted in_hand completed unused apart true same =
    let own : c.piece ≡ piece = eqb-true c.piece piece same in
    let Unused : ℕ → Type 0 = λ n. outstanding_of q n ≡ 0 in
    let test : Command → Bool = λ x. x.piece == piece in
    let done : Done → Bool = λ x. x.piece == piece in
    omega (
      arith,
      ap (count_by test) submitted ∙ count_by-push test q.submitted c,
      ap (count_by test) in_hand,
      ap (count_by done) completed,
      at_most_one (test c),
      subst Unused own unused,
    )
different-submitted q r c piece submitted in_hand completed unused apart false other =
    let test : Command → Bool = λ x. x.piece == piece in
    let done : Done → Bool = λ x. x.piece == piece in
    let count : Bool → ℕ = λ b. cond b 1 0 in
    let not_it : count (test c) ≡ 0 = ap count other in
    omega (
      arith,
      ap (count_by test) submitted ∙ count_by-push test q.submitted c,
      ap (count_by test) in_hand,
      ap (count_by done) completed,
      not_it,
      apart.different piece,
    )

-- a command whose piece number is not in use joins the submitted ones
pub apart-submitted :
    (q r : Queues) (c : Command) → r.submitted ≡ q.submitted ++ c ∷ [] → r.in_hand ≡ q.in_hand → r.completed ≡ q.completed →
    outstanding q < DEPTH → outstanding_of q c.piece ≡ 0 → AreApart q → AreApart r
apart-submitted q r c submitted in_hand completed room unused apart = record {
  few =
      omega (arith, ap length submitted ∙ length-append q.submitted (c ∷ []), ap length in_hand, ap length completed, room);
  different = λ piece. different-submitted q r c piece submitted in_hand completed unused apart (c.piece == piece) refl;
}

-- the oldest submitted command goes into hand, if there is one
pub apart-taken :
    (q r : Queues) (taken : Option Command) → q.submitted ≡ option_to_list taken ++ r.submitted →
    r.in_hand ≡ q.in_hand ++ option_to_list taken → r.completed ≡ q.completed → AreApart q → AreApart r
apart-taken q r taken submitted in_hand completed apart = record {
  few =
      omega (
        arith,
        ap length submitted ∙ length-append (option_to_list taken) r.submitted,
        ap length in_hand ∙ length-append q.in_hand (option_to_list taken),
        ap length completed,
        apart.few,
      );
  different = λ piece.
      let test : Command → Bool = λ c. c.piece == piece in
      let done : Done → Bool = λ d. d.piece == piece in
      omega (
        arith,
        ap (count_by test) submitted ∙ count_by-append test (option_to_list taken) r.submitted,
        ap (count_by test) in_hand ∙ count_by-append test q.in_hand (option_to_list taken),
        ap (count_by done) completed,
        apart.different piece,
      );
}

-- the oldest completion is polled, if there is one
pub apart-polled :
    (q r : Queues) (polled : Option Done) → r.submitted ≡ q.submitted → r.in_hand ≡ q.in_hand →
    q.completed ≡ option_to_list polled ++ r.completed → AreApart q → AreApart r
apart-polled q r polled submitted in_hand completed apart = record {
  few =
      omega (arith, ap length submitted, ap length in_hand, ap length completed ∙ length-append (option_to_list polled) r.completed, apart.few);
  different = λ piece.
      let test : Command → Bool = λ c. c.piece == piece in
      let done : Done → Bool = λ d. d.piece == piece in
      omega (
        arith,
        ap (count_by test) submitted,
        ap (count_by test) in_hand,
        ap (count_by done) completed ∙ count_by-append done (option_to_list polled) r.completed,
        apart.different piece,
      );
}

-- how many have the piece number after a command in hand was completed
different-completed :
    (q r : Queues) (d : Done) (piece : ℕ) → r.submitted ≡ q.submitted → r.in_hand ≡ others_in_hand q d.piece →
    r.completed ≡ q.completed ++ d ∷ [] → in_hand_of q d.piece ≡ 1 → AreApart q →
    (b : Bool) → (d.piece == piece) ≡ b → outstanding_of r piece ≤ 1
different-completed q r d piece submitted in_hand completed once apart true same =
    let own : d.piece ≡ piece = eqb-true d.piece piece same in
    let Once : ℕ → Type 0 = λ n. in_hand_of q n ≡ 1 in
    let test : Command → Bool = λ c. c.piece == piece in
    let done : Done → Bool = λ x. x.piece == piece in
    let none_left : count_by test (others_in_hand q d.piece) ≡ 0 =
    let NoneLeft : ℕ → Type 0 = λ n. count_by (λ c. c.piece == n) (others_in_hand q d.piece) ≡ 0 in
    subst NoneLeft own (count_by-others (λ c. c.piece == d.piece) q.in_hand) in
    omega (
      arith,
      ap (count_by test) submitted,
      ap (count_by test) in_hand,
      none_left,
      ap (count_by done) completed ∙ count_by-push done q.completed d,
      at_most_one (done d),
      subst Once own once,
      apart.different piece,
    )
different-completed q r d piece submitted in_hand completed once apart false other =
    let of_done : Command → Bool = λ c. c.piece == d.piece in
    let test : Command → Bool = λ c. c.piece == piece in
    let done : Done → Bool = λ x. x.piece == piece in
    let count : Bool → ℕ = λ b. cond b 1 0 in
    let not_it : count (done d) ≡ 0 = ap count other in
    omega (
      arith,
      ap (count_by test) submitted,
      ap (count_by test) in_hand,
      count_by-filter-le test of_done q.in_hand,
      ap (count_by done) completed ∙ count_by-push done q.completed d,
      not_it,
      apart.different piece,
    )

-- a command in hand is completed
pub apart-completed :
    (q r : Queues) (d : Done) → r.submitted ≡ q.submitted → r.in_hand ≡ others_in_hand q d.piece →
    r.completed ≡ q.completed ++ d ∷ [] → in_hand_of q d.piece ≡ 1 → AreApart q → AreApart r
apart-completed q r d submitted in_hand completed once apart = record {
  few =
      omega (
        arith,
        ap length submitted,
        ap length in_hand,
        length-others (λ (c : Command). c.piece == d.piece) q.in_hand once,
        ap length completed ∙ length-append q.completed (d ∷ []),
        apart.few,
      );
  different = λ piece. different-completed q r d piece submitted in_hand completed once apart (d.piece == piece) refl;
}
