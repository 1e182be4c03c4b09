-- A pair for which a right can be given has a fragment, or fewer are in use than there are.
use Rattle.std.proofs.Common.{◌≡◌, ℕ, suc, ◌-◌, ◌<◌, ◌≤◌, Bool, true, false, cond, List, [], ◌∷◌, map, length, Option, None, Some, is_some, refl, sym, ap, ◌∙◌, subst, arith, ⊎_elim}
use Rattle.std.specs.Prelude.{nat_eq, nat_lt}
use Rattle.std.specs.Option.{option_map}
use Rattle.std.specs.List.{flat_map, list_any}
use Rattle.std.specs.FinMap as fin
use Rattle.std.proofs.lemmas.Bool.{and_from, and_parts, both_ways, cases_Bool, cond-false, cond-true, eq-eqb, eqb-true, false≢true, ltb-true, or_cases, or_left, or_right}
use Rattle.std.proofs.lemmas.Option.{none-some}
use Rattle.bd_base.specs.declared.key.Key.{Key}
use Rattle.bd_base.specs.declared.limits.TheConstants.{FRAGMENTS}
use Rattle.bd_base.specs.Keys.{Pair, pair_cmp, pair_cmp-IsAntisymmetric, pair_cmp_total}
use Rattle.bd_base.specs.Keys as keys
use Rattle.bd_entry.specs.Store.{Descriptor, Store, has_fragment, has_part, in_slot, pairs_in_use, pairs_of_slot, same_pair}
use Rattle.bd_entry.proofs.Descriptors.{Rows, none_at, slot_at}
use Rattle.bd_entry.proofs.PairsInUse.{distinct-has, distinct-within, has_pair, pairs-of_slots}
use Rattle.bd_tables.specs.declared.state.Right.{Right}
use Rattle.bd_tables.specs.Kernel.{IsFullFor, KernelState}
use Rattle.bd_tables.specs.Plain.{cells_of, its_cells}
use Rattle.bd_tables.specs.State.{Rights}
use Rattle.bd_tables.proofs.Places.{get-cells_of}
use Rattle.bd_turns.proofs.CellsOfPairs.{AreCells, IsUsed, tied_pair}
use Rattle.bd_turns.proofs.FilesOfRights.{of_right}
use Rattle.bd_turns.proofs.RightsFit.{AllFit, Fits, key_at}

-- ---- the pairs of a descriptor

pair-from : (file part other : ℕ) (parts : List ℕ) → nat_eq file other ≡ true → has_part part parts ≡ true →
    list_any (same_pair (file, part)) (map (λ p. (other, p)) parts) ≡ true
pair-from file part other [] same has = absurd (false≢true has)
pair-from file part other (x ∷ xs) same has =
    let first : Bool = same_pair (file, part) (other, x) in
    let rest : Bool = list_any (same_pair (file, part)) (map (λ p. (other, p)) xs) in
    ⊎_elim
    (λ here. or_left first rest (and_from (nat_eq file other) (nat_eq part x) same here))
    (λ later. or_right first rest (pair-from file part other xs same later))
    (or_cases (nat_eq part x) (has_part part xs) has)

pair-to : (file part other : ℕ) (parts : List ℕ) → list_any (same_pair (file, part)) (map (λ p. (other, p)) parts) ≡ true →
    (nat_eq file other ≡ true) × (has_part part parts ≡ true)
pair-to file part other [] has = absurd (false≢true has)
pair-to file part other (x ∷ xs) has =
    let first : Bool = same_pair (file, part) (other, x) in
    let rest : Bool = list_any (same_pair (file, part)) (map (λ p. (other, p)) xs) in
    ⊎_elim {C = (nat_eq file other ≡ true) × (has_part part (x ∷ xs) ≡ true)}
    (λ here. let both = and_parts (nat_eq file other) (nat_eq part x) here in (both.0, or_left (nat_eq part x) (has_part part xs) both.1))
    (λ later. let both = pair-to file part other xs later in (both.0, or_right (nat_eq part x) (has_part part xs) both.1))
    (or_cases first rest has)

-- ---- a slot that passes a test

-- the descriptor of a slot that passes a test which an empty slot fails
record Found (slots : List (Option Descriptor)) (test : Option Descriptor → Bool) : Type 0 where
  fd : ℕ
  d : Descriptor
  there : in_slot slots fd ≡ Some d
  passes : test (Some d) ≡ true

found_here : (slot : Option Descriptor) (slots : List (Option Descriptor)) (test : Option Descriptor → Bool) → test None ≡ false →
    test slot ≡ true → Found (slot ∷ slots) test
found_here None slots test none passes = absurd (both_ways (test None) none passes)
found_here (Some d) slots test none passes = record { fd = 0; d = d; there = refl; passes = passes }

found_in : (slots : List (Option Descriptor)) (test : Option Descriptor → Bool) → test None ≡ false → list_any test slots ≡ true → Found slots test
found_in [] test none some = absurd (false≢true some)
found_in (slot ∷ slots) test none some =
    ⊎_elim
    (λ here. found_here slot slots test none here)
    (λ later.
    let found = found_in slots test none later in
    record { fd = suc found.fd; d = found.d; there = found.there; passes = found.passes })
    (or_cases (test slot) (list_any test slots) some)

-- the same in some row
record FoundAt (rows : Rows) (test : Option Descriptor → Bool) : Type 0 where
  process : ℕ
  fd : ℕ
  d : Descriptor
  there : slot_at rows process fd ≡ Some d
  passes : test (Some d) ≡ true

found_at : (rows : Rows) (test : Option Descriptor → Bool) → test None ≡ false → list_any (list_any test) rows ≡ true → FoundAt rows test
found_at [] test none some = absurd (false≢true some)
found_at (row ∷ rows) test none some =
    ⊎_elim
    (λ here.
    let found = found_in row test none here in
    record { process = 0; fd = found.fd; d = found.d; there = found.there; passes = found.passes })
    (λ later.
    let found = found_at rows test none later in
    record { process = suc found.process; fd = found.fd; d = found.d; there = found.there; passes = found.passes })
    (or_cases (list_any test row) (list_any (list_any test) rows) some)

-- ---- the pairs in use

-- a pair that a right is about is in use
pub used-in_use : (rights : Rights) (s : Store) (pair : Pair) → AllFit rights s → IsUsed rights pair →
    list_any (same_pair (pair.file, pair.part)) (pairs_in_use s) ≡ true
used-in_use rights s pair all user =
    let key : Key = user.0 in
    let right : Right = user.1 in
    let of = of_right rights s all key right user.2 in
    let q : ℕ × ℕ = (right.file, key.part) in
    let has : has_pair q (Some of.d) ≡ true =
    pair-from right.file key.part of.d.file of.d.attached (eq-eqb right.file of.d.file of.is_right.file) of.is_right.attached in
    let some : list_any (list_any (has_pair q)) s.opens ≡ true =
    ⊎_elim (λ some. some)
    (λ none. absurd (both_ways (has_pair q (Some of.d)) (none_at (has_pair q) s.opens key.process key.fd of.d none of.there) has))
    (cases_Bool (list_any (list_any (has_pair q)) s.opens)) in
    subst (λ (p : Pair). list_any (same_pair (p.file, p.part)) (pairs_in_use s) ≡ true) user.3
    (distinct-has q (flat_map (flat_map pairs_of_slot) s.opens) (pairs-of_slots q s.opens ∙ some))

-- some right is about a pair in use
pub in_use-used : (rights : Rights) (s : Store) (file part : ℕ) → AllFit rights s → list_any (same_pair (file, part)) (pairs_in_use s) ≡ true →
    IsUsed rights (record { file = file; part = part })
in_use-used rights s file part all some =
    let q : ℕ × ℕ = (file, part) in
    let found =
    found_at s.opens (has_pair q) refl (sym (pairs-of_slots q s.opens) ∙ distinct-within q (flat_map (flat_map pairs_of_slot) s.opens) some) in
    let has = pair-to file part found.d.file found.d.attached found.passes in
    let key = key_at found.process found.fd part in
    by found.d (eqb-true file found.d.file has.0) has.1 key refl (fin.get rights key) refl
    (subst (Fits key (fin.get rights key)) found.there (all key))
  where
    by : (d : Descriptor) → file ≡ d.file → has_part part d.attached ≡ true → (key : Key) → key.part ≡ part → (right : Option Right) →
        fin.get rights key ≡ right → Fits key (fin.get rights key) (Some d) → IsUsed rights (record { file = file; part = part })
    by d of_file has key of_part None is fits =
        let free : has_part key.part d.attached ≡ false = subst (λ (r : Option Right). Fits key r (Some d)) is fits in
        absurd (both_ways (has_part part d.attached) (ap (λ (n : ℕ). has_part n d.attached) (sym of_part) ∙ free) has)
    by d of_file has key of_part (Some right) is fits =
        let right_is = subst (λ (r : Option Right). Fits key r (Some d)) is fits in
        let same : right.file ≡ file = right_is.file ∙ sym of_file in
        (key, right, is, λ i. record { file = same i; part = of_part i })

-- a book whose pairs are all among these has no more than these
book_fits : {X : Type 0} (book : fin.FinMap pair_cmp X) (pairs : List (ℕ × ℕ)) →
    ((q : Pair) → fin.contains_key book q ≡ true → list_any (same_pair (q.file, q.part)) pairs ≡ true) → fin.len book ≤ length pairs
book_fits {X = X} book [] among =
    let nothing : book ≡ fin.empty =
    fin.same_map pair_cmp_total pair_cmp-IsAntisymmetric book fin.empty (λ q. none q (fin.get book q) refl ∙ sym (fin.get-empty pair_cmp q)) in
    let count : fin.len book ≡ 0 = ap (λ (m : fin.FinMap pair_cmp X). fin.len m) nothing ∙ fin.len-empty pair_cmp X in
    omega arith
  where
    none : (q : Pair) (o : Option X) → fin.get book q ≡ o → fin.get book q ≡ None
    none q None is = is
    none q (Some x) is = absurd (false≢true (among q (ap is_some is)))
book_fits {X = X} book (p ∷ pairs) among =
    let pair : Pair = record { file = p.0; part = p.1 } in
    let fewer : fin.len (fin.remove book pair) ≤ length pairs =
    book_fits (fin.remove book pair) pairs (λ q has. later q (fin.get-remove pair_cmp_total book pair q) has) in
    let counts : fin.len (fin.remove book pair) ≡ cond (fin.contains_key book pair) (fin.len book - 1) (fin.len book) =
    fin.len-remove pair_cmp_total book pair in
    ⊎_elim
    (λ has. let one_less : fin.len (fin.remove book pair) ≡ fin.len book - 1 = counts ∙ cond-true _ _ _ has in omega arith)
    (λ lacks. let same : fin.len (fin.remove book pair) ≡ fin.len book = counts ∙ cond-false _ _ _ lacks in omega arith)
    (cases_Bool (fin.contains_key book pair))
  where
    later : (q : Pair) →
        fin.get (fin.remove book (record { file = p.0; part = p.1 })) q
        ≡ cond (keys.same_pair q (record { file = p.0; part = p.1 })) None (fin.get book q) →
        fin.contains_key (fin.remove book (record { file = p.0; part = p.1 })) q ≡ true →
        list_any (same_pair (q.file, q.part)) pairs ≡ true
    later q left has =
        let pair : Pair = record { file = p.0; part = p.1 } in
        let some : is_some (cond (keys.same_pair q pair) None (fin.get book q)) ≡ true = ap is_some (sym left) ∙ has in
        ⊎_elim
        (λ same. absurd (false≢true (ap is_some (sym (cond-true (keys.same_pair q pair) None (fin.get book q) same)) ∙ some)))
        (λ differ.
        let in_book : fin.contains_key book q ≡ true =
        ap is_some (sym (cond-false (keys.same_pair q pair) None (fin.get book q) differ)) ∙ some in
        ⊎_elim
        (λ here.
        let both = and_parts (nat_eq q.file p.0) (nat_eq q.part p.1) here in
        let is : q ≡ pair =
        (let f : q.file ≡ p.0 = eqb-true q.file p.0 both.0 in let k : q.part ≡ p.1 = eqb-true q.part p.1 both.1 in
        λ i. record { file = f i; part = k i }) in
        absurd (both_ways (keys.same_pair q pair) differ (ap (λ (x : Pair). keys.same_pair x pair) is ∙ tied_pair pair)))
        (λ others. others)
        (or_cases (same_pair (q.file, q.part) p) (list_any (same_pair (q.file, q.part)) pairs) (among q in_book)))
        (cases_Bool (keys.same_pair q pair))

-- a pair that can be given a fragment finds one
pub not_full : (rights : Rights) (kernel : KernelState) (s : Store) (file part : ℕ) → AllFit rights s → AreCells rights (cells_of kernel.book) s →
    has_fragment s file part ≡ true → IsFullFor kernel.book (record { file = file; part = part }) → ⊥
not_full rights kernel s file part all cells has full =
    let pair : Pair = record { file = file; part = part } in
    ⊎_elim {C = ⊥}
    (λ in_use.
    let user = in_use-used rights s file part all in_use in
    let its = cells.all user.0 user.1 user.2 in
    none-some its.its
    (sym (ap (option_map its_cells) full.not_in_use) ∙ sym (get-cells_of kernel.book pair) ∙ ap (fin.get (cells_of kernel.book)) (sym user.3) ∙ its.there))
    (λ few.
    let below : length (pairs_in_use s) < FRAGMENTS = ltb-true (length (pairs_in_use s)) FRAGMENTS few in
    let fits : fin.len kernel.book ≤ length (pairs_in_use s) =
    book_fits kernel.book (pairs_in_use s)
    (λ q has.
    used-in_use rights s q all
    (cells.used q (ap is_some (get-cells_of kernel.book q) ∙ kept (fin.get kernel.book q) ∙ has))) in
    let all_used : fin.len kernel.book ≡ FRAGMENTS = full.all_in_use in
    absurd (omega arith))
    (or_cases (list_any (same_pair (file, part)) (pairs_in_use s)) (nat_lt (length (pairs_in_use s)) FRAGMENTS) has)
  where
    kept : (o : Option _) → is_some (option_map its_cells o) ≡ is_some o
    kept None = refl
    kept (Some x) = refl
