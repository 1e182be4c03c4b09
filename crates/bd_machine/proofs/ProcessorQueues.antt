-- The commands of a process: its queues, its running call and its progress count the same ones.
use Rattle.std.proofs.Common.{◌≡◌, ℕ, zero, suc, ◌+◌, ◌<◌, ◌≤◌, Bool, false, ◌||◌, List, [], ◌∷◌, ◌++◌, length, map, Option, None, Some, refl, sym, ap, ◌∙◌, arith}
use Rattle.std.specs.Prelude.{◌==◌, nat_eq, count_by, All}
use Rattle.std.specs.Option.{option_map, option_to_list}
use Rattle.std.specs.List.{list_any}
use Rattle.std.proofs.lemmas.Bool.{both_ways, eq-eqb, eqb-true, false_from_ne_true, or_parts}
use Rattle.std.proofs.lemmas.List.{length-append, length-map}
use Rattle.std.proofs.lemmas.List.Elements.{All-head, All-tail}
use Rattle.bd_base.proofs.Counts.{one_if}
use Rattle.bd_queue_pair.specs.declared.command.Command.{Command}
use Rattle.bd_queue_pair.specs.declared.command.Done.{Done}
use Rattle.bd_queue_pair.specs.Queues as queues
use Rattle.bd_queue_pair.specs.Queues.{outstanding_of}
use Rattle.bd_machine.specs.declared.process.Hand.{Hand}
use Rattle.bd_machine.specs.declared.process.Process.{Process}
use Rattle.bd_machine.specs.Shows.{completed_of, pieces_of_commands, progress_shown}
use Rattle.bd_machine.proofs.ShowingHands.{outstanding_shown, pieces_held}
use Rattle.bd_turns.specs.State.{Completed, Phase, outstanding}
use Rattle.bd_turns.proofs.CommandSteps.{count-cons}

-- ---- few commands

-- a number below five is one of these
one_of_five : (x : ℕ) → x < 5 →
    1 ≤ one_if (nat_eq 0 x) + one_if (nat_eq 1 x) + one_if (nat_eq 2 x) + one_if (nat_eq 3 x) + one_if (nat_eq 4 x)
one_of_five zero below = omega arith
one_of_five (suc zero) below = omega arith
one_of_five (suc (suc zero)) below = omega arith
one_of_five (suc (suc (suc zero))) below = omega arith
one_of_five (suc (suc (suc (suc zero)))) below = omega arith
one_of_five (suc (suc (suc (suc (suc x))))) below = absurd (omega arith)

counted : (xs : List ℕ) → All (λ x. x < 5) xs →
    length xs ≤ count_by (nat_eq 0) xs + count_by (nat_eq 1) xs + count_by (nat_eq 2) xs + count_by (nat_eq 3) xs + count_by (nat_eq 4) xs
counted [] all = omega arith
counted (x ∷ xs) all =
    let first = one_of_five x (All-head (λ x. x < 5) x xs all) in
    let rest = counted xs (All-tail (λ x. x < 5) x xs all) in
    let a = count-cons (nat_eq 0) x xs in
    let b = count-cons (nat_eq 1) x xs in
    let c = count-cons (nat_eq 2) x xs in
    let d = count-cons (nat_eq 3) x xs in
    let e = count-cons (nat_eq 4) x xs in
    omega (arith, first, rest, a, b, c, d, e)

-- different numbers below five are at most five
pub at_most_five : (xs : List ℕ) → All (λ x. x < 5) xs → ((x : ℕ) → count_by (nat_eq x) xs ≤ 1) → length xs ≤ 5
at_most_five xs all differ = omega (arith, counted xs all, differ 0, differ 1, differ 2, differ 3, differ 4)

-- ---- the queues

-- the pieces of commands that are not polled yet, in a queue pair
length_outstanding : {P : Type 0} (x : Process P) (held : Option ℕ) (phase : Option Phase) →
    x.queue.in_hand ≡ option_to_list (option_map (λ (h : Hand). h.command) x.hand) →
    length (outstanding (progress_shown held phase x)) ≡ queues.outstanding x.queue
length_outstanding x held phase taken =
    let done : List ℕ = map (λ (c : Completed). c.piece) (map completed_of x.queue.completed) in
    let hand : List ℕ = pieces_held x.hand in
    let rest : List ℕ = pieces_of_commands x.queue.submitted in
    let all : length (outstanding (progress_shown held phase x)) ≡ length (done ++ hand ++ rest) =
    ap (λ (l : List ℕ). length l) (outstanding_shown held phase x) in
    let outer = length-append (done ++ hand) rest in
    let inner = length-append done hand in
    let first : length done ≡ length x.queue.completed =
    length-map (map completed_of x.queue.completed) (λ (c : Completed). c.piece) ∙ length-map x.queue.completed completed_of in
    let last : length rest ≡ length x.queue.submitted = length-map x.queue.submitted (λ (c : Command). c.piece) in
    let in_hand : length hand ≡ length x.queue.in_hand = of_hand x.hand ∙ ap (λ (l : List Command). length l) (sym taken) in
    omega (arith, all, outer, inner, first, last, in_hand)
  where
    of_hand : (o : Option Hand) → length (pieces_held o) ≡ length (option_to_list (option_map (λ (h : Hand). h.command) o))
    of_hand None = refl
    of_hand (Some hand) = refl

eq_turned : (a b : ℕ) → nat_eq a b ≡ false → (b == a) ≡ false
eq_turned a b differ =
    false_from_ne_true (b == a) (λ same. both_ways (nat_eq a b) differ (eq-eqb a b (sym (eqb-true b a same))))

none_counted : {X : Type 0} (f : X → ℕ) (piece : ℕ) (xs : List X) → list_any (nat_eq piece) (map f xs) ≡ false →
    count_by (λ x. f x == piece) xs ≡ 0
none_counted f piece [] none = refl
none_counted f piece (x ∷ xs) none =
    let parts = or_parts (nat_eq piece (f x)) (list_any (nat_eq piece) (map f xs)) none in
    let first : one_if (f x == piece) ≡ 0 = ap one_if (eq_turned piece (f x) parts.0) in
    let rest = none_counted f piece xs parts.1 in
    omega (arith, first, rest, count-cons (λ x. f x == piece) x xs)

any_parts : (test : ℕ → Bool) (xs ys : List ℕ) → list_any test (xs ++ ys) ≡ false → (list_any test xs ≡ false) × (list_any test ys ≡ false)
any_parts test [] ys none = (refl, none)
any_parts test (x ∷ xs) ys none =
    let parts = or_parts (test x) (list_any test (xs ++ ys)) none in
    let rest = any_parts test xs ys parts.1 in
    (ap (λ (b : Bool). b || list_any test xs) parts.0 ∙ rest.0, rest.1)

-- a piece that is not outstanding is none of a command of the queues
pub none_in_queue : {P : Type 0} (x : Process P) (held : Option ℕ) (phase : Option Phase) (piece : ℕ) →
    x.queue.in_hand ≡ option_to_list (option_map (λ (h : Hand). h.command) x.hand) →
    list_any (nat_eq piece) (outstanding (progress_shown held phase x)) ≡ false → outstanding_of x.queue piece ≡ 0
none_in_queue x held phase piece taken none =
    let done : List ℕ = map (λ (c : Completed). c.piece) (map completed_of x.queue.completed) in
    let hand : List ℕ = pieces_held x.hand in
    let rest : List ℕ = pieces_of_commands x.queue.submitted in
    let outer = any_parts (nat_eq piece) (done ++ hand) rest
    (ap (λ (l : List ℕ). list_any (nat_eq piece) l) (sym (outstanding_shown held phase x)) ∙ none) in
    let inner = any_parts (nat_eq piece) done hand outer.0 in
    let last = none_counted (λ (c : Command). c.piece) piece x.queue.submitted outer.1 in
    let first = none_counted (λ (d : Done). d.piece) piece x.queue.completed (done_pieces x.queue.completed inner.0) in
    let middle = of_hand x.hand x.queue.in_hand taken inner.1 in
    omega (arith, last, first, middle)
  where
    done_pieces : (done : List Done) → list_any (nat_eq piece) (map (λ (c : Completed). c.piece) (map completed_of done)) ≡ false →
        list_any (nat_eq piece) (map (λ (d : Done). d.piece) done) ≡ false
    done_pieces [] none = refl
    done_pieces (d ∷ done) none =
        let parts = or_parts (nat_eq piece d.piece) (list_any (nat_eq piece) (map (λ (c : Completed). c.piece) (map completed_of done))) none in
        ap (λ (b : Bool). b || list_any (nat_eq piece) (map (λ (d : Done). d.piece) done)) parts.0 ∙ done_pieces done parts.1

    of_hand : (o : Option Hand) (commands : List Command) → commands ≡ option_to_list (option_map (λ (h : Hand). h.command) o) →
        list_any (nat_eq piece) (pieces_held o) ≡ false →
        count_by (λ (c : Command). c.piece == piece) commands ≡ 0
    of_hand None commands is none = ap (λ (l : List Command). count_by (λ (c : Command). c.piece == piece) l) is
    of_hand (Some hand) commands is none =
        ap (λ (l : List Command). count_by (λ (c : Command). c.piece == piece) l) is
        ∙ none_counted (λ (c : Command). c.piece) piece (hand.command ∷ []) none

-- as many commands are outstanding there
pub queue_count : {P : Type 0} (x : Process P) (held : Option ℕ) (phase : Option Phase) →
    x.queue.in_hand ≡ option_to_list (option_map (λ (h : Hand). h.command) x.hand) →
    queues.outstanding x.queue ≡ length (outstanding (progress_shown held phase x))
queue_count x held phase taken = sym (length_outstanding x held phase taken)
