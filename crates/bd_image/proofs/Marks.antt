-- Maps of all taken blocks, and the bitmap beside them.
use Rattle.std.proofs.Common.{◌≡◌, ℕ, ◌+◌, ◌-◌, ◌/◌, ◌<◌, ◌≤◌, ◌↔◌, ◌⊎◌, Bool, true, false, List, length}
use Rattle.std.proofs.Common.{get_or, IsTrue, refl, sym, ◌∙◌, subst, inl, inr, arith}
use Rattle.std.specs.List.{Contains, range_with_len}
use mathlib.Core.Bool.{beq, not}
use Rattle.std.proofs.lemmas.Bool.{cases_lt, false≢true}
use Rattle.std.proofs.lemmas.List.Elements.{Contains-append_cases, Contains-append_left, Contains-append_right}
use Rattle.std.proofs.lemmas.List.FromFn.{get_or-range_with_len, length-range_with_len}
use Rattle.bd_base.proofs.Ranges.{range-of, range-to}
use Rattle.bd_base.specs.declared.volume.Extent.{Extent}
use Rattle.bd_base.specs.Files.{data_start}
use Rattle.bd_image.specs.Layout.{blocks_in_image, extent_at, inode_count, is_marked, used_mark}
use Rattle.bd_image.specs.Checks.{blocks_before}
use Rattle.bd_image.specs.Rules.{Bitmap, IsLeastBreak, IsInUse}
use Rattle.bd_image.specs.Sharing.{IsInExtent, IsTakenIn, MarksFiles, MarksTaken}
use Rattle.bd_image.proofs.Blocks.{blocks_before-more}

-- one extent more of a file
pub extent_marked : (b : List ℕ) (j e x : ℕ) (old now after : Type 0)
    → (after ↔ (now ⊎ IsInExtent (extent_at b j e) x)) → (now ↔ (old ⊎ Contains (blocks_before b j e) x))
    → after ↔ (old ⊎ Contains (blocks_before b j (e + 1)) x)
extent_marked b j e x old now after step before =
    let g = extent_at b j e in
    let more = blocks_before-more b j e in
    let Has : List ℕ → Type 0 = λ xs. Contains xs x in (
      λ t. elim (step.0 t) [
        | inl n ↦ elim (before.0 n) [
          | inl o ↦ inl o
          | inr h ↦ inr
              (subst Has (sym more) (Contains-append_left (blocks_before b j e) (range_with_len g.start g.length)
              x h))
        ]
        | inr i ↦ inr (subst Has (sym more) (Contains-append_right (blocks_before b j e) (range_with_len g.start g.length) x (range-of g.start g.length x i)))
      ],
      λ w. step.1 (elim w [
        | inl o ↦ inl (before.1 (inl o))
        | inr h ↦ elim (Contains-append_cases (blocks_before b j e) (range_with_len g.start g.length) x
            (subst Has more h)) [ inl k ↦ inl (before.1 (inr k)) | inr k ↦ inr (range-to g.start g.length x k) ]
      ]),
    )

same : (i j : ℕ) → i < j + 1 → j ≤ i → i ≡ j
same i j l m = omega arith

-- one file more
pub file_marked : (b : List ℕ) (taken after : List Bool) (j : ℕ) → MarksFiles b taken j → used_mark b j ≡ 1
    → length after ≡ length taken
    → ((x : ℕ) → x < 32768 → IsTakenIn after x ↔ (IsTakenIn taken x ⊎ Contains (blocks_in_image b j) x))
    → MarksFiles b after (j + 1)
file_marked b taken after j h used long step = record {
  long = long ∙ h.long;
  marks = λ x l. (
    λ t. elim ((step x l).0 t) [
      | inl n ↦ elim ((h.marks x l).0 n) [ inl m ↦ inl m | inr w ↦ inr (w.0, omega (arith, w.1), w.2, w.3) ]
      | inr c ↦ inr (j, omega arith, used, c)
    ],
    λ w. (step x l).1 (elim w [
      | inl m ↦ inl ((h.marks x l).1 (inl m))
      | inr f ↦ elim (cases_lt f.0 j) [
        | inl m ↦ inl ((h.marks x l).1 (inr (f.0, m, f.2, f.3)))
        | inr m ↦ let Has : ℕ → Type 0 =
            λ i. Contains (blocks_in_image b i) x in inr (subst Has (same f.0 j f.1 m) f.3)
      ]
    ]),
  );
}

pub free_marked : (b : List ℕ) (taken : List Bool) (j : ℕ) → MarksFiles b taken j → ¬ (used_mark b j ≡ 1) → MarksFiles b taken (j + 1)
free_marked b taken j h free = record {
  long = h.long;
  marks = λ x l. (
    λ t. elim ((h.marks x l).0 t) [ inl m ↦ inl m | inr w ↦ inr (w.0, omega (arith, w.1), w.2, w.3) ],
    λ w. (h.marks x l).1 (elim w [
      | inl m ↦ inl m
      | inr f ↦ inr (
        f.0,
        elim (cases_lt f.0 j)
            [ inl m ↦ m | inr m ↦ absurd (free (subst (λ i. used_mark b i ≡ 1) (same f.0 j f.1 m) f.2)) ],
        f.2,
        f.3,
      )
    ]),
  );
}

-- the metadata alone
pub metadata_marked : (b : List ℕ) (taken after : List Bool) (metadata : Extent) → length taken ≡ 32768
    → ((x : ℕ) → ¬ IsTakenIn taken x) → metadata.start ≡ 0 → metadata.length ≡ data_start (inode_count b)
    → length after ≡ length taken
    → ((x : ℕ) → x < length taken → IsTakenIn after x ↔ (IsTakenIn taken x ⊎ IsInExtent metadata x))
    → MarksFiles b after 0
metadata_marked b taken after metadata full clear start long keeps step = record {
  long = keeps ∙ full;
  marks = λ x l.
      let at = step x (omega arith) in (
        λ t. elim (at.0 t) [ inl n ↦ absurd (clear x n) | inr i ↦ inl (omega (arith, i.1)) ],
        λ w. at.1 (elim w [ inl m ↦ inr (omega arith, omega arith) | inr f ↦ absurd (omega (arith, f.1)) ]),
      );
}

-- all files
pub all_marked : (b : List ℕ) (taken : List Bool) (j : ℕ) → MarksFiles b taken j → j ≡ inode_count b → MarksTaken b taken
all_marked b taken j h all = record {
  long = h.long;
  marks = λ x l. (
    λ t. elim ((h.marks x l).0 t) [ inl m ↦ inl m | inr f ↦ inr (f.0, (omega (arith, f.1), f.2), f.3) ],
    λ w. (h.marks x l).1 (elim w [ inl m ↦ inl m | inr f ↦ inr (f.0, omega (arith, f.1.0), f.1.1, f.2) ]),
  );
}

-- a bit that is that of the map is right
pub bit_right : (b : List ℕ) (taken : List Bool) (x : ℕ) → MarksTaken b taken → x < 32768
    → is_marked b x ≡ get_or taken x false → IsTrue (is_marked b x) ↔ IsInUse b x
bit_right b taken x h l e = (λ t. (h.marks x l).0 (sym e ∙ t), λ w. e ∙ (h.marks x l).1 w)

same_bits : (x y : Bool) → (IsTrue x → IsTrue y) → (IsTrue y → IsTrue x) → x ≡ y
same_bits true y to of = sym (to refl)
same_bits false true to of = of refl
same_bits false false to of = refl

-- the first bit that is not that of the map stands at the least place
pub least_bit : (b : List ℕ) (taken : List Bool) (x : ℕ) → MarksTaken b taken → x < 32768
    → ¬ (is_marked b x ≡ get_or taken x false) → ((k : ℕ) → k < x → IsTrue (is_marked b k) ↔ IsInUse b k)
    → IsLeastBreak b Bitmap (4096 + x / 8)
least_bit b taken x h l differs before = record {
  breaks = (
    x,
    l,
    λ right. differs
        (same_bits (is_marked b x) (get_or taken x false) (λ t. (h.marks x l).1 (right.0 t))
        (λ t. right.1 ((h.marks x l).0 t))),
    refl,
  );
  least = λ q m w. w.2 (before w.0 (omega (arith, w.3)));
}

-- what `!=` says of two bits
pub bits_same : (x y : Bool) → not (beq x y) ≡ false → x ≡ y
bits_same true true h = refl
bits_same false false h = refl
bits_same true false h = absurd (false≢true (sym h))
bits_same false true h = absurd (false≢true (sym h))

pub bits_differ : (x y : Bool) → not (beq x y) ≡ true → ¬ (x ≡ y)
bits_differ true true h e = false≢true h
bits_differ false false h e = false≢true h
bits_differ true false h e = false≢true (sym e)
bits_differ false true h e = false≢true e
