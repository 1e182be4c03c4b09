-- The commands of a call after a submission, a poll, and each turn of its device engine.
use Rattle.std.proofs.Common.{◌≡◌, ℕ, ◌+◌, ◌<◌, ◌≤◌, Bool, false, List, [], ◌∷◌, ◌++◌, map, drop, length, refl, ap, ◌∙◌, arith, ⊎_elim}
use Rattle.std.specs.Prelude.{nat_eq, All, count_by}
use Rattle.std.specs.List.{list_any}
use Rattle.std.proofs.lemmas.Bool.{cases_Bool, cases_eq, or_parts}
use Rattle.std.proofs.lemmas.List.Elements.{All-append, All-cons, All-drop, All-head, All-nil, All-push, All-tail}
use Rattle.std.proofs.lemmas.List.Sums.{sum_by-append, sum_by-cons}
use Rattle.bd_base.proofs.Counts.{count_by-push, one_if, one_if-le, one_if-other}
use Rattle.bd_entry.specs.Calls.{Place, pieces_of_call}
use Rattle.bd_turns.proofs.KeptCommands.{TellsNone, TellsOf}
use Rattle.bd_turns.specs.Sound.{AreCommands, is_told}
use Rattle.bd_turns.specs.State.{Completed, Progress, outstanding, pieces_in_hand}

-- ---- lists in parts

-- what holds of all elements of two lists together holds of all of each
pub All-parts : {X : Type 0} (P : X → Type 0) (xs ys : List X) → All P (xs ++ ys) → All P xs × All P ys
All-parts P [] ys all = (All-nil P, all)
All-parts P (x ∷ xs) ys all =
    let rest = All-parts P xs ys (All-tail P x (xs ++ ys) all) in
    (All-cons P x xs (All-head P x (xs ++ ys) all) rest.0, rest.1)

-- what holds of all that a function gives holds of what it gives of each
pub All-unmap : {X Y : Type 0} (P : Y → Type 0) (f : X → Y) (xs : List X) → All P (map f xs) → All (λ x. P (f x)) xs
All-unmap P f [] all = All-nil (λ x. P (f x))
All-unmap P f (x ∷ xs) all =
    All-cons (λ x. P (f x)) x xs (All-head P (f x) (map f xs) all) (All-unmap P f xs (All-tail P (f x) (map f xs) all))

-- one more element at the front
pub count-cons : {X : Type 0} (test : X → Bool) (x : X) (xs : List X) → count_by test (x ∷ xs) ≡ one_if (test x) + count_by test xs
count-cons test x xs = sum_by-cons (λ x. one_if (test x)) x xs

-- where no element passes, none is counted
count-none : {X : Type 0} (test : X → Bool) (xs : List X) → list_any test xs ≡ false → count_by test xs ≡ 0
count-none test [] none = refl
count-none test (x ∷ xs) none =
    let parts = or_parts (test x) (list_any test xs) none in
    let rest = count-none test xs parts.1 in
    let first : one_if (test x) ≡ 0 = ap one_if parts.0 in
    omega (first, rest, count-cons test x xs, arith)

-- and where none is counted, none passes
pub none-count : {X : Type 0} (test : X → Bool) (xs : List X) → count_by test xs ≡ 0 → All (λ x. test x ≡ false) xs
none-count test [] zero_is = All-nil (λ x. test x ≡ false)
none-count test (x ∷ xs) zero_is =
    ⊎_elim {C = All (λ x. test x ≡ false) (x ∷ xs)}
    (λ passes. let one : one_if (test x) ≡ 1 = ap one_if passes in absurd (omega (one, zero_is, count-cons test x xs, arith)))
    (λ fails.
    let none : one_if (test x) ≡ 0 = ap one_if fails in
    All-cons (λ x. test x ≡ false) x xs fails (none-count test xs (omega (none, zero_is, count-cons test x xs, arith))))
    (cases_Bool (test x))

-- ---- the pieces of commands

abbrev pub completed_pieces : List Completed → List ℕ
completed_pieces done = map (λ (c : Completed). c.piece) done

-- the count of a piece among the commands
pub count_outstanding : (test : ℕ → Bool) (progress : Progress) →
    count_by test (outstanding progress)
    ≡ count_by test (completed_pieces progress.completed) + count_by test (pieces_in_hand progress.hand) + count_by test progress.submitted
count_outstanding test progress =
    sum_by-append (λ x. one_if (test x)) (completed_pieces progress.completed ++ pieces_in_hand progress.hand) progress.submitted
    ∙ ap (λ (n : ℕ). n + count_by test progress.submitted)
    (sum_by-append (λ x. one_if (test x)) (completed_pieces progress.completed) (pieces_in_hand progress.hand))

-- what holds of all commands holds of those completed, in the hand and submitted
pub record EachPart (P : ℕ → Type 0) (progress : Progress) : Type 0 where
  pub completed : All P (completed_pieces progress.completed)
  pub in_hand : All P (pieces_in_hand progress.hand)
  pub submitted : All P progress.submitted

pub each_part : (P : ℕ → Type 0) (progress : Progress) → All P (outstanding progress) → EachPart P progress
each_part P progress all =
    let outer = All-parts P (completed_pieces progress.completed ++ pieces_in_hand progress.hand) progress.submitted all in
    let inner = All-parts P (completed_pieces progress.completed) (pieces_in_hand progress.hand) outer.0 in
    record { completed = inner.0; in_hand = inner.1; submitted = outer.1 }

pub all_parts : (P : ℕ → Type 0) (progress : Progress) → EachPart P progress → All P (outstanding progress)
all_parts P progress each =
    All-append P (completed_pieces progress.completed ++ pieces_in_hand progress.hand) progress.submitted
    (All-append P (completed_pieces progress.completed) (pieces_in_hand progress.hand) each.completed each.in_hand) each.submitted

-- ---- submissions

abbrev pub with_submitted : Progress → ℕ → Progress
with_submitted progress number = record progress { submitted = progress.submitted ++ number ∷ [] }

pub submitted_all : (P : ℕ → Type 0) (progress : Progress) (number : ℕ) → P number → All P (outstanding progress) →
    All P (outstanding (with_submitted progress number))
submitted_all P progress number new all =
    let each = each_part P progress all in
    all_parts P (with_submitted progress number)
    (record {
      completed = each.completed;
      in_hand = each.in_hand;
      submitted = All-push P progress.submitted number each.submitted new;
    })

pub submitted_commands : (q : Place) (progress : Progress) (number : ℕ) → AreCommands q progress → number < length (pieces_of_call q.call) →
    is_told q number ≡ false → list_any (nat_eq number) (outstanding progress) ≡ false → AreCommands q (with_submitted progress number)
submitted_commands q progress number are within untold fresh = record {
  differ = differ;
  pieces = submitted_all (λ piece. piece < length (pieces_of_call q.call)) progress number within are.pieces;
  submitted = All-push (TellsNone q) progress.submitted number are.submitted untold;
  in_hand = are.in_hand;
  completed = are.completed;
}
  where
    differ : (piece : ℕ) → count_by (nat_eq piece) (outstanding (with_submitted progress number)) ≤ 1
    differ piece =
        let all = count_outstanding (nat_eq piece) (with_submitted progress number) in
        let was = count_outstanding (nat_eq piece) progress in
        let more = count_by-push piece progress.submitted number in
        ⊎_elim {C = count_by (nat_eq piece) (outstanding (with_submitted progress number)) ≤ 1}
        (λ same.
        let none : count_by (nat_eq piece) (outstanding progress) ≡ 0 =
        count-none (nat_eq piece) (outstanding progress) (ap (λ (n : ℕ). list_any (nat_eq n) (outstanding progress)) same ∙ fresh) in
        omega (all, was, more, none, one_if-le (nat_eq piece number), arith))
        (λ other. omega (all, was, more, one_if-other piece number other, are.differ piece, arith))
        (cases_eq piece number)

-- ---- polls

abbrev pub polled : Progress → Progress
polled progress = record progress { completed = drop 1 progress.completed }

pub polled_all : (P : ℕ → Type 0) (progress : Progress) → All P (outstanding progress) → All P (outstanding (polled progress))
polled_all P progress all =
    let each = each_part P progress all in
    all_parts P (polled progress)
    (record { completed = rest progress.completed each.completed; in_hand = each.in_hand; submitted = each.submitted })
  where
    rest : (done : List Completed) → All P (completed_pieces done) → All P (completed_pieces (drop 1 done))
    rest [] all = all
    rest (c ∷ done) all = All-tail P c.piece (completed_pieces done) all

pub polled_commands : (q : Place) (progress : Progress) → AreCommands q progress → AreCommands q (polled progress)
polled_commands q progress are = record {
  differ = differ;
  pieces = polled_all (λ piece. piece < length (pieces_of_call q.call)) progress are.pieces;
  submitted = are.submitted;
  in_hand = are.in_hand;
  completed = All-drop (TellsOf q) 1 progress.completed are.completed;
}
  where
    fewer : (test : ℕ → Bool) (done : List Completed) →
        count_by test (completed_pieces (drop 1 done)) ≤ count_by test (completed_pieces done)
    fewer test [] = omega arith
    fewer test (c ∷ done) = omega (count-cons test c.piece (completed_pieces done), arith)

    differ : (piece : ℕ) → count_by (nat_eq piece) (outstanding (polled progress)) ≤ 1
    differ piece =
        omega (
          count_outstanding (nat_eq piece) (polled progress),
          count_outstanding (nat_eq piece) progress,
          fewer (nat_eq piece) progress.completed,
          are.differ piece,
          arith,
        )
