-- Marks in words after a change of one bit, and marked numbers as a set.
use Rattle.std.proofs.Common.{◌≡◌, ℕ, zero, suc, ◌+◌, ◌-◌, ◌*◌, ◌/◌, ◌%◌, ◌^◌, ◌<◌, ◌≤◌, Bool, true, false}
use Rattle.std.proofs.Common.{cond, not, ◌&&◌, ◌||◌, nat_eq, nat_lt, nat_le, List, [], ◌∷◌, length, filter}
use Rattle.std.proofs.Common.{arith, refl, sym, ap, ◌∙◌, inl, inr, subst, slice_index, slice_set, bit_and}
use Rattle.std.proofs.Common.{bit_or, replicate, IsNone, IfSome, ◌↔◌, Option, Some, None, w64, zero-add}
use Rattle.std.proofs.Common.{get_or-set_same, get_or-set_other}
use Rattle.std.specs.Int.{bit_at, bit_not}
use Rattle.std.specs.List.{range_with_len, list_any}
use Rattle.std.specs.Ordering.{nat_cmp}
use Rattle.std.specs.FinSet as set
use Rattle.std.proofs.lemmas.Bool.{cases_eq, cases_lt, cases_Bool, both_ways, false≢true, and_right, cond-true, cond-false}
use Rattle.std.proofs.lemmas.Bool.{eq-eqb, ne_eqb, lt-ltb, le-ltb}
use Rattle.std.proofs.lemmas.Option.{none-some}
use Rattle.std.proofs.lemmas.List.{get_or_past, get_or-replicate, length-replicate}
use Rattle.std.specs.Int.{trailing_zeros}
use Rattle.std.specs.Cmp.{nat_cmp_total, unsigned_tied}
use Rattle.bd_base.specs.Allocation.{lowest_free, free_block_after, allocated_block}
use Rattle.bd_base.proofs.Ranges.{find-range, find-range_none, find-range_fails, find-range_lowest, IsLowest}
use Rattle.std.proofs.lemmas.Nat.Bits.{bit_at-zero, bit_at-trailing_zeros, bit_at_set_same, bit_at_set_other, bit_at_clear_same, bit_at_clear_other}
use Rattle.std.specs.Option.{option_or}
use Rattle.bd_extents.specs.FreeBlocks.{FreeBlocks, TakesLowest, TakesNext}
use Rattle.bd_extents.specs.Bitmap.{is_marked, marked_below, IsBitmap, IsLowestMark, NoneMarked, NoneMarkedBefore}

-- the word that a set bit leaves
abbrev pub with_bit : ℕ → ℕ → ℕ
with_bit word k = bit_or word (1 * 2 ^ k % 18446744073709551616)

-- the word that a cleared bit leaves
abbrev pub without_bit : ℕ → ℕ → ℕ
without_bit word k = bit_and word (18446744073709551615 - 1 * 2 ^ k % 18446744073709551616)

pub is_marked-set : (words : List ℕ) (b : ℕ) → b < 64 * length words → (n : ℕ)
    → is_marked (slice_set words (b / 64) (with_bit (slice_index words (b / 64)) (b % 64))) n
    ≡ (nat_eq n b || is_marked words n)
is_marked-set words b inside n =
    let within : b / 64 < length words = omega arith in
    elim (cases_eq (n / 64) (b / 64)) [
      | inl word ↦
          rw (word, get_or-set_same)
          (elim (cases_eq (n % 64) (b % 64)) [
            | inl place ↦
                let same : n ≡ b = omega arith in
                rw (place, bit_at_set_same w64 _ (b % 64) (omega arith), eq-eqb n b same) refl
            | inr place ↦
                let other : n ≡ b → ⊥ = λ e. place (ap (λ k. k % 64) e) in
                rw (bit_at_set_other w64 _ (b % 64) (omega arith) (n % 64) place, ne_eqb n b other) refl
          ])
      | inr word ↦
          let other : n ≡ b → ⊥ = λ e. word (ap (λ k. k / 64) e) in
          rw (get_or-set_other words (b / 64) (n / 64) _ 0 word, ne_eqb n b other) refl
    ]

pub is_marked-clear : (words : List ℕ) (b : ℕ) → b < 64 * length words → (n : ℕ)
    → is_marked (slice_set words (b / 64) (without_bit (slice_index words (b / 64)) (b % 64))) n
    ≡ (not (nat_eq n b) && is_marked words n)
is_marked-clear words b inside n =
    let within : b / 64 < length words = omega arith in
    elim (cases_eq (n / 64) (b / 64)) [
      | inl word ↦
          rw (word, get_or-set_same)
          (elim (cases_eq (n % 64) (b % 64)) [
            | inl place ↦
                let same : n ≡ b = omega arith in
                rw (place, bit_at_clear_same w64 _ (b % 64) (omega arith), eq-eqb n b same) refl
            | inr place ↦
                let other : n ≡ b → ⊥ = λ e. place (ap (λ k. k % 64) e) in
                rw (bit_at_clear_other w64 _ (b % 64) (omega arith) (n % 64) (omega arith) place, ne_eqb n b other) refl
          ])
      | inr word ↦
          let other : n ≡ b → ⊥ = λ e. word (ap (λ k. k / 64) e) in
          rw (get_or-set_other words (b / 64) (n / 64) _ 0 word, ne_eqb n b other) refl
    ]

-- no number of a range is below its start
list_any-filter-below : (p : ℕ → Bool) (a n q : ℕ) → q < a → list_any (λ y. nat_eq y q) (filter p (range_with_len a n)) ≡ false
list_any-filter-below p a zero q below = refl
list_any-filter-below p a (suc n) q below =
    let rest : list_any (λ y. nat_eq y q) (filter p (range_with_len (a + 1) n)) ≡ false = list_any-filter-below p (a + 1) n q (omega arith) in
    let other : nat_eq a q ≡ false = ne_eqb a q (λ e. omega arith) in
    elim (cases_Bool (p a)) [
      | inl holds ↦ rw (holds, other) rest
      | inr fails_here ↦ rw fails_here rest
    ]

-- a number from the start of a range on is among those that pass a test where it is in the range and passes
list_any-filter-from : (p : ℕ → Bool) (a n q : ℕ) → a ≤ q
    → list_any (λ y. nat_eq y q) (filter p (range_with_len a n)) ≡ (nat_lt q (a + n) && p q)
list_any-filter-from p a zero q from = rw (le-ltb q (a + 0) (omega arith)) refl
list_any-filter-from p a (suc n) q from =
    elim (cases_eq a q) [
      | inl same ↦
          let same_below : false ≡ list_any (λ y. nat_eq y q) (filter p (range_with_len (q + 1) n)) =
          sym (list_any-filter-below p (q + 1) n q (omega arith)) in
          rw (lt-ltb q (a + suc n) (omega arith))
          (elim (cases_Bool (p q)) [
            | inl holds ↦ rw (same, holds, eq-eqb q q refl) refl
            | inr fails_here ↦ rw (same, fails_here) (sym same_below)
          ])
      | inr other ↦
          let rest : list_any (λ y. nat_eq y q) (filter p (range_with_len (a + 1) n))
          ≡ (nat_lt q (a + 1 + n) && p q) = list_any-filter-from p (a + 1) n q (omega arith) in
          let sum : a + suc n ≡ a + 1 + n = omega arith in
          elim (cases_Bool (p a)) [
            | inl holds ↦ rw (holds, ne_eqb a q other, sum) rest
            | inr fails_here ↦ rw (fails_here, sum) rest
          ]
    ]

pub contains-marked_below : (total : ℕ) (words : List ℕ) (q : ℕ) → set.contains (marked_below total words) q ≡ (nat_lt q total && is_marked words q)
contains-marked_below total words q =
    set.contains-from_list_nat _ q
    ∙ list_any-filter-from (is_marked words) 0 total q (omega arith)
    ∙ ap (λ n. nat_lt q n && is_marked words q) (zero-add total)

-- ---- the lowest mark, word by word

-- a word of zeros has no mark
pub no_mark_more : (words : List ℕ) (index : ℕ) → slice_index words index ≡ 0 → NoneMarkedBefore words index
    → NoneMarkedBefore words (index + 1)
no_mark_more words index empty before n to =
    elim (cases_lt n (64 * index)) [
      | inl lower ↦ before n lower
      | inr inside ↦
          let word : n / 64 ≡ index = omega arith in
          rw (word, empty, bit_at-zero (n % 64)) refl
    ]

-- past the last word no number is marked
pub no_mark_at_end : (words : List ℕ) (index : ℕ) → length words ≤ index → NoneMarkedBefore words index → NoneMarked words
no_mark_at_end words index end before n =
    elim (cases_lt n (64 * index)) [
      | inl lower ↦ before n lower
      | inr past ↦ rw (get_or_past words (n / 64) 0 (omega arith), bit_at-zero (n % 64)) refl
    ]

-- the lowest mark of the first word that has one
pub record IsLowestOfWord (words : List ℕ) (index number : ℕ) : Type 0 where
  pub within : number < 64 * (index + 1)
  pub lowest : IsLowestMark words number

pub lowest_mark-found : (words : List ℕ) (index : ℕ) → 0 < slice_index words index → slice_index words index < 2 ^ 64
    → NoneMarkedBefore words index → IsLowestOfWord words index (64 * index + trailing_zeros w64 (slice_index words index))
lowest_mark-found words index some fits before =
    let word : ℕ = slice_index words index in
    let zeros : ℕ = trailing_zeros w64 word in
    let lowest : (zeros < 64) × (bit_at word zeros ≡ 1) × ((i : ℕ) → i < zeros → bit_at word i ≡ 0) =
    bit_at-trailing_zeros w64 word some fits in
    let few : zeros < 64 = lowest.0 in
    let at_word : (64 * index + zeros) / 64 ≡ index = omega arith in
    let at_bit : (64 * index + zeros) % 64 ≡ zeros = omega arith in
    record {
      within = omega arith;
      lowest = record {
        marked = rw (at_word, at_bit, lowest.1) refl;
        before = λ n to. elim (cases_lt n (64 * index)) [
          | inl lower ↦ before n lower
          | inr inside ↦
              let here : n / 64 ≡ index = omega arith in
              rw (here, lowest.2 (n % 64) (omega arith)) refl
        ];
      };
    }

-- ---- marks as a set

pub contains-bitmap : (total : ℕ) (words : List ℕ) (first_word : ℕ) → IsBitmap total words first_word → (q : ℕ)
    → set.contains (marked_below total words) q ≡ is_marked words q
contains-bitmap total words first_word bitmap q =
    contains-marked_below total words q
    ∙ elim (cases_lt q total) [
      | inl lower ↦ rw (lt-ltb q total lower) refl
      | inr past ↦ rw (bitmap.below_total q past, le-ltb q total past) refl
    ]

set_from_members : (s t : set.FinSet nat_cmp) → ((q : ℕ) → set.contains s q ≡ set.contains t q) → s ≡ t
set_from_members = set.same_set nat_cmp_total set.nat_cmp-IsAntisymmetric

pub contains-insert_nat : (s : set.FinSet nat_cmp) (k q : ℕ) → set.contains (set.insert s k) q ≡ (nat_eq q k || set.contains s q)
contains-insert_nat s k q = set.contains-insert nat_cmp_total s k q ∙ ap (λ b. b || set.contains s q) (unsigned_tied q k)

pub contains-remove_nat : (s : set.FinSet nat_cmp) (k q : ℕ) → set.contains (set.remove s k) q ≡ (not (nat_eq q k) && set.contains s q)
contains-remove_nat s k q = set.contains-remove nat_cmp_total s k q ∙ ap (λ b. not b && set.contains s q) (unsigned_tied q k)

-- no number is marked
pub marked_below-none : (total : ℕ) (words : List ℕ) → ((n : ℕ) → is_marked words n ≡ false) → marked_below total words ≡ set.empty
marked_below-none total words none =
    set_from_members (marked_below total words) set.empty
    (λ q. contains-marked_below total words q ∙ rw (none q) (and_right (nat_lt q total) false refl) ∙ sym (set.contains-empty nat_cmp q))

-- one more mark
pub marked_below-insert : (total b : ℕ) (words marked : List ℕ) → b < total
    → ((n : ℕ) → is_marked marked n ≡ (nat_eq n b || is_marked words n))
    → marked_below total marked ≡ set.insert (marked_below total words) b
marked_below-insert total b words marked below changed =
    set_from_members (marked_below total marked) (set.insert (marked_below total words) b)
    (λ q. contains-marked_below total marked q ∙ rw (changed q) (one q) ∙ sym (contains-insert_nat (marked_below total words) b q))
  where
    one : (q : ℕ) → (nat_lt q total && (nat_eq q b || is_marked words q)) ≡ (nat_eq q b || set.contains (marked_below total words) q)
    one q =
        elim (cases_eq q b) [
          | inl same ↦ rw (eq-eqb q b same, lt-ltb q total (omega arith)) refl
          | inr other ↦ rw (ne_eqb q b other) (sym (contains-marked_below total words q))
        ]

-- one mark less
pub marked_below-remove : (total b : ℕ) (words marked : List ℕ)
    → ((n : ℕ) → is_marked marked n ≡ (not (nat_eq n b) && is_marked words n))
    → marked_below total marked ≡ set.remove (marked_below total words) b
marked_below-remove total b words marked changed =
    set_from_members (marked_below total marked) (set.remove (marked_below total words) b)
    (λ q. contains-marked_below total marked q ∙ rw (changed q) (one q) ∙ sym (contains-remove_nat (marked_below total words) b q))
  where
    one : (q : ℕ) → (nat_lt q total && (not (nat_eq q b) && is_marked words q)) ≡ (not (nat_eq q b) && set.contains (marked_below total words) q)
    one q =
        elim (cases_eq q b) [
          | inl same ↦ rw (eq-eqb q b same) (and_right (nat_lt q total) false refl)
          | inr other ↦ rw (ne_eqb q b other) (sym (contains-marked_below total words q))
        ]

-- ---- what an allocation takes

pub lowest_free-found : (total : ℕ) (words : List ℕ) (first_word b : ℕ) → IsBitmap total words first_word
    → is_marked words b ≡ true → ((n : ℕ) → n < b → is_marked words n ≡ false)
    → lowest_free (set.contains (marked_below total words)) total ≡ Some b
lowest_free-found total words first_word b bitmap marked before =
    elim (cases_lt b total) [
      | inl lower ↦
          find-range (set.contains (marked_below total words)) 0 total b (omega arith) (omega arith)
          (contains-bitmap total words first_word bitmap b ∙ marked)
          (λ k _ to. contains-bitmap total words first_word bitmap k ∙ before k to)
      | inr past ↦ absurd (both_ways (is_marked words b) (bitmap.below_total b past) marked)
    ]

pub lowest_free-none : (total : ℕ) (words : List ℕ) (first_word : ℕ) → IsBitmap total words first_word
    → ((n : ℕ) → is_marked words n ≡ false) → lowest_free (set.contains (marked_below total words)) total ≡ None
lowest_free-none total words first_word bitmap none =
    find-range_none (set.contains (marked_below total words)) 0 total (λ k _ _. contains-bitmap total words first_word bitmap k ∙ none k)

-- words of zeros mark nothing
pub is_marked-replicate : (k n : ℕ) → is_marked (replicate k 0) n ≡ false
is_marked-replicate k n =
    let zero_word : slice_index (replicate k 0) (n / 64) ≡ 0 = elim (cases_lt (n / 64) k) [
      | inl inside ↦ get_or-replicate k (n / 64) 0 0 inside
      | inr past ↦ get_or_past (replicate k 0) (n / 64) 0 (rw length-replicate past)
    ] in
    rw (zero_word, bit_at-zero (n % 64)) refl

-- ---- the set before and after a call

-- the set that a bitmap is seen as
abbrev pub free_in : ℕ → List ℕ → FreeBlocks
free_in total words = record { total = total; free = marked_below total words }

-- a block below the total has a bit
pub below-within : (v : FreeBlocks) (total : ℕ) (words : List ℕ) (first_word b : ℕ) → free_in total words ≡ v
    → IsBitmap total words first_word → b < v.total → b < 64 * length words
below-within v total words first_word b is bitmap below =
    let lower : b < total = rw (← is) at below in
    omega (arith, bitmap.room)

pub free_in-insert : (v : FreeBlocks) (total b : ℕ) (words marked : List ℕ) → free_in total words ≡ v
    → b < v.total → ((n : ℕ) → is_marked marked n ≡ (nat_eq n b || is_marked words n))
    → free_in total marked ≡ record { total = v.total; free = set.insert v.free b }
free_in-insert v total b words marked is below changed =
    let lower : b < total = rw (← is) at below in
    rw (← is) (ap (λ (s : set.FinSet nat_cmp). record { total = total; free = s }) (marked_below-insert total b words marked lower changed))

pub free_in-remove : (v : FreeBlocks) (total b : ℕ) (words marked : List ℕ) → free_in total words ≡ v
    → ((n : ℕ) → is_marked marked n ≡ (not (nat_eq n b) && is_marked words n))
    → free_in total marked ≡ record { total = v.total; free = set.remove v.free b }
free_in-remove v total b words marked is changed =
    rw (← is) (ap (λ (s : set.FinSet nat_cmp). record { total = total; free = s }) (marked_below-remove total b words marked changed))

-- searches may begin at any word before which no number is marked
pub IsBitmap-from : (total : ℕ) (words : List ℕ) (first_word later : ℕ) → IsBitmap total words first_word
    → NoneMarkedBefore words later → IsBitmap total words later
IsBitmap-from total words first_word later bitmap none = record {
  in_range = bitmap.in_range;
  few_words = bitmap.few_words;
  room = bitmap.room;
  below_total = bitmap.below_total;
  none_before = none;
}

-- what a search for the lowest block gives
pub record GivesLowest (v : FreeBlocks) (result : Option ℕ) : Type 0 where
  pub value : result ≡ lowest_free (set.contains v.free) v.total
  pub none : IsNone result ↔ (v.free ≡ set.empty)

some_not_empty : (s : set.FinSet nat_cmp) (b : ℕ) → set.contains s b ≡ true → s ≡ set.empty → ⊥
some_not_empty s b marked empty = false≢true (sym (set.contains-empty nat_cmp b) ∙ sym (ap (λ t. set.contains t b) empty) ∙ marked)

pub GivesLowest-found : (v : FreeBlocks) (total : ℕ) (words : List ℕ) (first_word b : ℕ)
    → free_in total words ≡ v → IsBitmap total words first_word → IsLowestMark words b → GivesLowest v (Some b)
GivesLowest-found v total words first_word b is bitmap mark = rw (← is) (record {
  value = sym (lowest_free-found total words first_word b bitmap mark.marked mark.before);
  none = (
    λ none. absurd (false≢true (sym none)),
    λ empty.
        absurd (some_not_empty (marked_below total words) b
        (contains-bitmap total words first_word bitmap b ∙ mark.marked) empty),
  );
})

pub GivesLowest-none : (v : FreeBlocks) (total : ℕ) (words : List ℕ) (first_word : ℕ) → free_in total words ≡ v
    → IsBitmap total words first_word → NoneMarked words → GivesLowest v None
GivesLowest-none v total words first_word is bitmap none = rw (← is) (record {
  value = sym (lowest_free-none total words first_word bitmap none);
  none = (λ _. marked_below-none total words none, λ _. refl);
})

-- what a look at the next block gives
pub record GivesNext (v : FreeBlocks) (after result : Option ℕ) : Type 0 where
  pub value : result ≡ free_block_after (set.contains v.free) after
  pub free : IfSome result (λ b. set.contains v.free b ≡ true)
  pub below_total : IfSome result (λ b. b < v.total)

pub GivesNext-found : (v : FreeBlocks) (total : ℕ) (words : List ℕ) (first_word a : ℕ) → free_in total words ≡ v
    → IsBitmap total words first_word → a + 1 < total → is_marked words (a + 1) ≡ true → GivesNext v (Some a) (Some (a + 1))
GivesNext-found v total words first_word a is bitmap below marked = rw (← is) (record {
  value = rw (contains-bitmap total words first_word bitmap (a + 1), marked) refl;
  free = contains-bitmap total words first_word bitmap (a + 1) ∙ marked;
  below_total = below;
})

pub GivesNext-none : (v : FreeBlocks) (total : ℕ) (words : List ℕ) (first_word a : ℕ) → free_in total words ≡ v
    → IsBitmap total words first_word → is_marked words (a + 1) ≡ false → GivesNext v (Some a) None
GivesNext-none v total words first_word a is bitmap unmarked = rw (← is) (record {
  value = rw (contains-bitmap total words first_word bitmap (a + 1), unmarked) refl;
  free = tt;
  below_total = tt;
})

-- what an allocation gives
pub record Allocates (v : FreeBlocks) (after result : Option ℕ) : Type 0 where
  pub block : result ≡ allocated_block (set.contains v.free) v.total after
  pub next : TakesNext v after result
  pub lowest : TakesLowest v after result
  pub none : IsNone result ↔ (v.free ≡ set.empty)
  pub free : IfSome result (λ b. set.contains v.free b ≡ true)
  pub below_total : IfSome result (λ b. b < v.total)

-- the block after another where that is free
pub Allocates-next : (v : FreeBlocks) (after : Option ℕ) (b : ℕ) → GivesNext v after (Some b) → Allocates v after (Some b)
Allocates-next v after b gives = record {
  block = ap (λ r. option_or r (lowest_free (set.contains v.free) v.total)) gives.value;
  next = is_next after gives.value;
  lowest = λ taken. absurd (not_taken after gives.value taken);
  none = (λ none. absurd (false≢true (sym none)), λ empty. absurd (some_not_empty v.free b gives.free empty));
  free = gives.free;
  below_total = gives.below_total;
}
  where
    is_next : (before : Option ℕ) → Some b ≡ free_block_after (set.contains v.free) before → TakesNext v before (Some b)
    is_next None is = tt
    is_next (Some a) is = λ free. is ∙ cond-true (set.contains v.free (a + 1)) (Some (a + 1)) None free

    not_taken : (before : Option ℕ) → Some b ≡ free_block_after (set.contains v.free) before
        → IfSome before (λ a. set.contains v.free (a + 1) ≡ false) → ⊥
    not_taken None is taken = none-some b (sym is)
    not_taken (Some a) is taken = none-some b (sym (is ∙ cond-false (set.contains v.free (a + 1)) (Some (a + 1)) None taken))

-- else the lowest
pub Allocates-lowest : (v : FreeBlocks) (after result : Option ℕ) → GivesNext v after None → GivesLowest v result
    → Allocates v after result
Allocates-lowest v after result gives lowest = record {
  block = lowest.value ∙ ap (λ r. option_or r (lowest_free (set.contains v.free) v.total)) gives.value;
  next = no_next after gives.value;
  lowest = λ _. none_below result lowest.value;
  none = lowest.none;
  free = passes result lowest.value;
  below_total = within result lowest.value;
}
  where
    found : (b : ℕ) → Some b ≡ lowest_free (set.contains v.free) v.total → IsLowest (set.contains v.free) 0 v.total b
    found b is = find-range_lowest (set.contains v.free) 0 v.total b (sym is)

    no_next : (before : Option ℕ) → None ≡ free_block_after (set.contains v.free) before → TakesNext v before result
    no_next None is = tt
    no_next (Some a) is = λ free. absurd (none-some (a + 1) (is ∙ cond-true (set.contains v.free (a + 1)) (Some (a + 1)) None free))

    none_below : (r : Option ℕ) → r ≡ lowest_free (set.contains v.free) v.total
        → IfSome r (λ block. (b : ℕ) → b < block → set.contains v.free b ≡ false)
    none_below None is = tt
    none_below (Some block) is = λ b below. (found block is).before b (omega arith) below

    passes : (r : Option ℕ) → r ≡ lowest_free (set.contains v.free) v.total → IfSome r (λ b. set.contains v.free b ≡ true)
    passes None is = tt
    passes (Some b) is = (found b is).passes

    within : (r : Option ℕ) → r ≡ lowest_free (set.contains v.free) v.total → IfSome r (λ b. b < v.total)
    within None is = tt
    within (Some b) is = omega (arith, (found b is).to)
