-- Each turn for the pieces of a call leaves it fewer turns.
use Rattle.std.proofs.Common.{◌≡◌, ◌⊎◌, inl, ℕ, ◌+◌, ◌<◌, ◌≤◌, Bool, true, false, not, ◌||◌, cond, List, [], ◌∷◌, ◌++◌, length, Option, None, Some, refl, sym, ap, ◌∙◌, arith, ⊎_elim}
use Rattle.std.specs.Prelude.{count_by, nat_eq}
use Rattle.std.specs.List.{list_any, range_with_len}
use Rattle.std.proofs.lemmas.Bool.{both_ways, cond-false, cond-true, eq-eqb, false_from_ne_true, false≢true, or_from, or_left, or_parts, or_right}
use Rattle.std.proofs.lemmas.List.Folds.{list_any-append}
use Rattle.std.proofs.lemmas.List.Sums.{count_by-le-length, sum-map}
use Rattle.std.proofs.lemmas.List.FromFn.{length-range_with_len}
use Rattle.bd_entry.specs.declared.entry.Entry.{Entry}
use Rattle.bd_entry.specs.Actions.{is_untouched, piece_numbers}
use Rattle.bd_entry.specs.Calls.{Place, has_missed, is_answer_of, is_answered, is_miss_of, pieces_of_call}
use Rattle.bd_entry.specs.Store.{Store, size_in}
use Rattle.bd_turns.specs.Rest.{end_of_call, growth_turns, kernel_turns, unanswered}
use Rattle.bd_turns.proofs.Sums.{sum_below_by, sum_from, sum_less}

-- ---- counts

-- the numbers below a bound that pass a test
abbrev count_below : (ℕ → Bool) → ℕ → ℕ
count_below test n = count_by test (range_with_len 0 n)

abbrev one_for : (ℕ → Bool) → ℕ → ℕ
one_for test i = cond (test i) 1 0

count-is : (test : ℕ → Bool) (n : ℕ) → count_below test n ≡ sum_from (one_for test) 0 n
count-is test n = sym (sum-map (one_for test) (range_with_len 0 n))

one_less : (a b : Bool) → (b ≡ true → a ≡ true) → cond b 1 0 ≤ cond a 1 0
one_less true true keeps = omega arith
one_less true false keeps = omega arith
one_less false true keeps = absurd (false≢true (keeps refl))
one_less false false keeps = omega arith

count_less : (test other : ℕ → Bool) (n : ℕ) → ((i : ℕ) → other i ≡ true → test i ≡ true) → count_below other n ≤ count_below test n
count_less test other n keeps =
    let less = sum_less (one_for other) (one_for test) 0 n (λ i. one_less (test i) (other i) (keeps i)) in
    omega (arith, count-is test n, count-is other n, less)

count_falls : (test other : ℕ → Bool) (n q : ℕ) → q < n → ((i : ℕ) → other i ≡ true → test i ≡ true) → test q ≡ true → other q ≡ false →
    count_below other n + 1 ≤ count_below test n
count_falls test other n q below keeps was fails =
    let here : one_for test q ≡ 1 = cond-true (test q) 1 0 was in
    let gone : one_for other q ≡ 0 = cond-false (other q) 1 0 fails in
    let start : q < 0 + n = omega arith in
    let less =
    sum_below_by (one_for other) (one_for test) 0 n q (omega arith) start (λ i. one_less (test i) (other i) (keeps i)) (omega (arith, here, gone)) in
    omega (arith, count-is test n, count-is other n, less)

-- ---- pieces that are not answered, or not touched

-- the place after these entries
abbrev pub after : Place → List Entry → Place
after p added = record p { before = p.before ++ added }

any_before : (test : Entry → Bool) (before added : List Entry) → list_any test before ≡ true → list_any test (before ++ added) ≡ true
any_before test before added is = list_any-append test before added ∙ or_left (list_any test before) (list_any test added) is

not_before : (test : Entry → Bool) (before added : List Entry) → not (list_any test (before ++ added)) ≡ true → not (list_any test before) ≡ true
not_before test before added is =
    ap not
    (false_from_ne_true (list_any test before)
    (λ some. false≢true (sym (ap not (any_before test before added some)) ∙ is)))

pub unanswered_less : (p : Place) (added : List Entry) → unanswered (after p added) ≤ unanswered p
unanswered_less p added =
    count_less (λ number. not (is_answered number p.before)) (λ number. not (is_answered number (p.before ++ added))) (length (pieces_of_call p.call))
    (λ number is. not_before (is_answer_of number) p.before added is)

-- a piece that is answered by the entry is one fewer
pub unanswered_falls : (p : Place) (e : Entry) (number : ℕ) → number < length (pieces_of_call p.call) → is_answered number p.before ≡ false →
    is_answer_of number e ≡ true → unanswered (after p (e ∷ [])) + 1 ≤ unanswered p
unanswered_falls p e number within unmet answers =
    count_falls (λ number. not (is_answered number p.before)) (λ number. not (is_answered number (p.before ++ e ∷ []))) (length (pieces_of_call p.call))
    number within (λ number is. not_before (is_answer_of number) p.before (e ∷ []) is) (ap not unmet)
    (ap not
    (list_any-append (is_answer_of number) p.before (e ∷ [])
    ∙ or_right (is_answered number p.before) (is_answer_of number e || false) (or_left (is_answer_of number e) false answers)))

-- some piece is not answered
pub some_unanswered : (p : Place) (number : ℕ) → number < length (pieces_of_call p.call) → is_answered number p.before ≡ false → 1 ≤ unanswered p
some_unanswered p number within unmet =
    let falls =
    count_falls (λ number. not (is_answered number p.before)) (λ number. false) (length (pieces_of_call p.call)) number within (λ i is. absurd (false≢true is))
    (ap not unmet) refl in
    omega (arith, falls)

pub unanswered_bound : (p : Place) → unanswered p ≤ length (pieces_of_call p.call)
unanswered_bound p = bound (λ number. not (is_answered number p.before)) 0 (length (pieces_of_call p.call))
  where
    bound : (test : ℕ → Bool) (a n : ℕ) → count_by test (range_with_len a n) ≤ n
    bound test a n =
        let most : count_by test (range_with_len a n) ≤ length (range_with_len a n) = count_by-le-length test (range_with_len a n) in
        let count : length (range_with_len a n) ≡ n = length-range_with_len a n in
        omega arith

-- how many pieces are untouched, where these commands are outstanding
abbrev pub untouched_with : Place → List ℕ → ℕ
untouched_with p outs = count_by (is_untouched (record { place = p; outstanding = outs })) (piece_numbers p.call)

pub untouched_bound : (p : Place) (outs : List ℕ) → untouched_with p outs ≤ length (pieces_of_call p.call)
untouched_bound p outs =
    let test : ℕ → Bool = is_untouched (record { place = p; outstanding = outs }) in
    let most : count_by test (piece_numbers p.call) ≤ length (piece_numbers p.call) = count_by-le-length test (piece_numbers p.call) in
    let count : length (piece_numbers p.call) ≡ length (pieces_of_call p.call) = length-range_with_len 0 (length (pieces_of_call p.call)) in
    omega arith

-- a piece is told of, or its command is outstanding
untouched_kept : (p : Place) (added : List Entry) (outs new : List ℕ) (number : ℕ) →
    (list_any (nat_eq number) outs ≡ true → (list_any (nat_eq number) new ≡ true) ⊎ ((is_answered number p.before || has_missed number p.before) ≡ true)) →
    is_untouched (record { place = after p added; outstanding = new }) number ≡ true → is_untouched (record { place = p; outstanding = outs }) number ≡ true
untouched_kept p added outs new number keeps is =
    let now : Bool = is_answered number (p.before ++ added) || has_missed number (p.before ++ added) in
    let none : (now || list_any (nat_eq number) new) ≡ false = not_true (now || list_any (nat_eq number) new) is in
    let parts = or_parts now (list_any (nat_eq number) new) none in
    let told = or_parts (is_answered number (p.before ++ added)) (has_missed number (p.before ++ added)) parts.0 in
    let unanswered : is_answered number p.before ≡ false =
    false_from_ne_true (is_answered number p.before)
    (λ some. both_ways (is_answered number (p.before ++ added)) told.0 (any_before (is_answer_of number) p.before added some)) in
    let unmissed : has_missed number p.before ≡ false =
    false_from_ne_true (has_missed number p.before)
    (λ some. both_ways (has_missed number (p.before ++ added)) told.1 (any_before (is_miss_of number) p.before added some)) in
    let both : (is_answered number p.before || has_missed number p.before) ≡ false =
    or_from (is_answered number p.before) (has_missed number p.before) unanswered unmissed in
    ap not
    (or_from (is_answered number p.before || has_missed number p.before) (list_any (nat_eq number) outs) both
    (false_from_ne_true (list_any (nat_eq number) outs)
    (λ out.
    ⊎_elim
    (λ still. both_ways (list_any (nat_eq number) new) parts.1 still)
    (λ tells. both_ways (is_answered number p.before || has_missed number p.before) both tells)
    (keeps out))))
  where
    not_true : (b : Bool) → not b ≡ true → b ≡ false
    not_true true is = absurd (false≢true is)
    not_true false is = refl

pub untouched_less : (p : Place) (added : List Entry) (outs new : List ℕ) →
    ((number : ℕ) → list_any (nat_eq number) outs ≡ true →
    (list_any (nat_eq number) new ≡ true) ⊎ ((is_answered number p.before || has_missed number p.before) ≡ true)) →
    untouched_with (after p added) new ≤ untouched_with p outs
untouched_less p added outs new keeps =
    count_less (is_untouched (record { place = p; outstanding = outs })) (is_untouched (record { place = after p added; outstanding = new }))
    (length (pieces_of_call p.call)) (λ number is. untouched_kept p added outs new number (keeps number) is)

-- a piece that is submitted is untouched no more
pub untouched_falls : (p : Place) (outs : List ℕ) (number : ℕ) → number < length (pieces_of_call p.call) →
    is_untouched (record { place = p; outstanding = outs }) number ≡ true →
    untouched_with (after p []) (outs ++ number ∷ []) + 1 ≤ untouched_with p outs
untouched_falls p outs number within is =
    let new : List ℕ = outs ++ number ∷ [] in
    let joined : (i : ℕ) → list_any (nat_eq i) new ≡ (list_any (nat_eq i) outs || (nat_eq i number || false)) =
    λ i. list_any-append (nat_eq i) outs (number ∷ []) in
    count_falls (is_untouched (record { place = p; outstanding = outs })) (is_untouched (record { place = after p []; outstanding = new }))
    (length (pieces_of_call p.call)) number within
    (λ i. untouched_kept p [] outs new i (λ out. inl (joined i ∙ or_left (list_any (nat_eq i) outs) (nat_eq i number || false) out))) is
    (ap not
    (or_right (is_answered number (p.before ++ []) || has_missed number (p.before ++ [])) (list_any (nat_eq number) new)
    (joined number
    ∙ or_right (list_any (nat_eq number) outs) (nat_eq number number || false) (or_left (nat_eq number number) false (eq-eqb number number refl)))))

-- ---- the turns of the kernel

-- they rise not as entries are added, where the size of the file stays
pub kernel_less : (s t : Store) (p : Place) (added : List Entry) (held : Option ℕ) → ((file : ℕ) → held ≡ Some file → size_in t file ≡ size_in s file) →
    kernel_turns t (after p added) held ≤ kernel_turns s p held
kernel_less s t p added None same = let less = unanswered_less p added in omega (arith, less)
kernel_less s t p added (Some file) same =
    let less = unanswered_less p added in
    let size : growth_turns (size_in t file) (end_of_call p.call) ≡ growth_turns (size_in s file) (end_of_call p.call) =
    ap (λ (n : ℕ). growth_turns n (end_of_call p.call)) (same file refl) in
    omega (arith, less, size)

-- a piece that is answered, after which the file is not held
pub kernel_falls : (s t : Store) (p : Place) (e : Entry) (number : ℕ) (held : Option ℕ) → number < length (pieces_of_call p.call) →
    is_answered number p.before ≡ false → is_answer_of number e ≡ true → kernel_turns t (after p (e ∷ [])) None + 1 ≤ kernel_turns s p held
kernel_falls s t p e number held within unmet answers =
    let falls : unanswered (after p (e ∷ [])) + 1 ≤ unanswered p = unanswered_falls p e number within unmet answers in
    by held falls
  where
    by : (held : Option ℕ) → unanswered (after p (e ∷ [])) + 1 ≤ unanswered p → kernel_turns t (after p (e ∷ [])) None + 1 ≤ kernel_turns s p held
    by None falls = omega (arith, falls)
    by (Some file) falls = omega (arith, falls)

-- a growth of the file, which is then held
pub kernel_grows : (s t : Store) (p : Place) (added : List Entry) (file : ℕ) (held : Option ℕ) → 1 ≤ unanswered p →
    ((other : ℕ) → held ≡ Some other → other ≡ file) →
    growth_turns (size_in t file) (end_of_call p.call) + 1 ≤ growth_turns (size_in s file) (end_of_call p.call) →
    growth_turns (size_in s file) (end_of_call p.call) ≤ 4101 → kernel_turns t (after p added) (Some file) + 1 ≤ kernel_turns s p held
kernel_grows s t p added file held some same falls few =
    let less : unanswered (after p added) ≤ unanswered p = unanswered_less p added in
    by held same less
  where
    by : (held : Option ℕ) → ((other : ℕ) → held ≡ Some other → other ≡ file) → unanswered (after p added) ≤ unanswered p →
        kernel_turns t (after p added) (Some file) + 1 ≤ kernel_turns s p held
    by None same less = omega (arith, some, falls, few, less)
    by (Some other) same less =
        let is : growth_turns (size_in s other) (end_of_call p.call) ≡ growth_turns (size_in s file) (end_of_call p.call) =
        ap (λ (f : ℕ). growth_turns (size_in s f) (end_of_call p.call)) (same other refl) in
        omega (arith, some, falls, few, less, is)
