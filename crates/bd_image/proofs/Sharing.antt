-- Maps of taken blocks: what one more extent adds, and when an extent meets an earlier one.
use Rattle.std.proofs.Common.{◌≡◌, ℕ, ◌+◌, ◌<◌, ◌≤◌, ◌↔◌, ◌⊎◌, Bool, List, length, refl, sym, ◌∙◌, subst, inl}
use Rattle.std.proofs.Common.{inr, arith}
use Rattle.std.proofs.lemmas.Bool.{cases_lt}
use Rattle.bd_base.specs.declared.volume.Extent.{Extent}
use Rattle.bd_image.specs.Layout.{IsUsed, block_count, extent_at, extent_count, extent_place, inode_count, used_mark}
use Rattle.bd_image.specs.Rules.{ExtentCount, ExtentShares, IsEarlier, IsExtent, IsLeastBreak, Obeys, ShareBlock}
use Rattle.bd_image.specs.Sharing.{IsFirstShare, IsInExtent, IsTakenBefore, IsTakenIn, MarksBefore, SharesEarlier, SharesNoneAndMarks}

same : (i j : ℕ) → i < j + 1 → j ≤ i → i ≡ j
same i j l m = omega arith

-- what stands before the next extent is this one or stands before it
earlier_more : (i d j e : ℕ) → IsEarlier i d j (e + 1) → IsEarlier i d j e ⊎ ((i ≡ j) × (d ≡ e))
earlier_more i d j e h = elim h [ inl l ↦ inl (inl l) | inr w ↦ elim (cases_lt d e) [ inl l ↦ inl (inr (w.0, l)) | inr m ↦ inr (w.0, same d e w.1 m) ] ]

earlier_still : (i d j e : ℕ) → IsEarlier i d j e → IsEarlier i d j (e + 1)
earlier_still i d j e h = elim h [ inl l ↦ inl l | inr w ↦ inr (w.0, omega (arith, w.1)) ]

before_more : (b : List ℕ) (j e x : ℕ) → IsExtent b j e → IsTakenBefore b j (e + 1) x ↔ (IsTakenBefore b j e x ⊎ IsInExtent (extent_at b j e) x)
before_more b j e x here = (
  λ w. elim (earlier_more w.0 w.1 j e w.3) [
    | inl l ↦ inl (w.0, w.1, w.2, l, w.4)
    | inr s ↦ inr (subst (λ i. IsInExtent (extent_at b i e) x) s.0 (subst (λ d. IsInExtent (extent_at b w.0 d) x) s.1 w.4))
  ],
  λ h. elim h [ inl w ↦ (w.0, w.1, w.2, earlier_still w.0 w.1 j e w.3, w.4) | inr i ↦ (j, e, here, inr (refl, omega arith), i) ],
)

-- the map after extent e of record j is marked too
pub marks_more : (b : List ℕ) (taken after : List Bool) (j e : ℕ) → MarksBefore b taken j e → IsExtent b j e
    → length after ≡ length taken
    → ((x : ℕ) → x < length taken → IsTakenIn after x ↔ (IsTakenIn taken x ⊎ IsInExtent (extent_at b j e) x))
    → MarksBefore b after j (e + 1)
marks_more b taken after j e before here long step = record {
  long = long ∙ before.long;
  marks = λ x l.
      let more = before_more b j e x here in
      let marked = step x (omega (arith, before.long, l)) in (
        λ t. more.1 (elim (marked.0 t) [ inl u ↦ inl ((before.marks x l).0 u) | inr i ↦ inr i ]),
        λ w. marked.1 (elim (more.0 w) [ inl u ↦ inl ((before.marks x l).1 u) | inr i ↦ inr i ]),
      );
}

earlier_within : (b : List ℕ) (j n : ℕ) → ((d : ℕ) → IsExtent b j d → d < n) → (i d : ℕ) → IsExtent b i d
    → IsEarlier i d (j + 1) 0 → IsEarlier i d j n
earlier_within b j n all i d x h = elim h [
  | inl l ↦ elim (cases_lt i j) [ inl m ↦ inl m | inr m ↦ let e = same i j l m in inr (e, all d (subst (λ k. IsExtent b k d) e x)) ]
  | inr w ↦ absurd (omega (arith, w.1))
]

-- the map before the next record, where all extents of this one are below n
pub marks_end : (b : List ℕ) (taken : List Bool) (j n : ℕ) → MarksBefore b taken j n
    → ((d : ℕ) → IsExtent b j d → d < n) → MarksBefore b taken (j + 1) 0
marks_end b taken j n before all = record {
  long = before.long;
  marks = λ x l. (
    λ t. let w = (before.marks x l).0 t in (w.0, w.1, w.2, inl (elim w.3 [ inl m ↦ omega arith | inr s ↦ omega (arith, s.0) ]), w.4),
    λ w. (before.marks x l).1 (w.0, w.1, w.2, earlier_within b j n all w.0 w.1 w.2 w.3, w.4),
  );
}

-- an extent none of whose blocks is marked shares none with an earlier one
pub shares_none : (b : List ℕ) (taken : List Bool) (j e : ℕ) → MarksBefore b taken j e
    → (extent_at b j e).start + (extent_at b j e).length ≤ block_count b
    → ¬ ((x : ℕ) × IsInExtent (extent_at b j e) x × IsTakenIn taken x) → ¬ SharesEarlier b j e
shares_none b taken j e before fits none s =
    let d : Extent = extent_at b s.0 s.1 in
    let g : Extent = extent_at b j e in
    let share : ShareBlock d g = s.4 in
    let at : (x : ℕ) → IsInExtent d x → IsInExtent g x → ⊥ = λ x u v. none (x, v, (before.marks x (omega (arith, v.1))).1 (s.0, s.1, s.2, s.3, u)) in
    elim (cases_lt d.start g.start) [
      | inl l ↦ at g.start (omega arith, omega (arith, share.1)) (omega arith, omega (arith, share.3))
      | inr
          m ↦ at d.start (omega arith, omega (arith, share.2)) (omega arith, omega (arith, share.0))
    ]

-- an extent with a marked block shares it with an earlier one
pub shares_some : (b : List ℕ) (taken : List Bool) (j e x : ℕ) → MarksBefore b taken j e
    → (extent_at b j e).start + (extent_at b j e).length ≤ block_count b → IsInExtent (extent_at b j e) x
    → IsTakenIn taken x → SharesEarlier b j e
shares_some b taken j e x before fits here marked =
    let w = (before.marks x (omega (arith, here.1))).0 marked in
    (w.0, w.1, w.2, w.3, (omega (arith, w.4.0, here.1), omega (arith, w.4.1, here.0), omega (arith, w.4.0, w.4.1), omega (arith, here.0, here.1)))

-- no extent of the first j records shares a block with an earlier one
abbrev pub NoneBefore : List ℕ → ℕ → Type 0
NoneBefore b j = (i e : ℕ) → i < j → IsExtent b i e → ¬ SharesEarlier b i e

-- what a walk over the first j records knows
pub record WalkedTo (b : List ℕ) (taken : List Bool) (j : ℕ) : Type 0 where
  pub marks : MarksBefore b taken j 0
  pub none : NoneBefore b j

walked_past : (b : List ℕ) (j : ℕ) → NoneBefore b j → ((e : ℕ) → IsExtent b j e → ¬ SharesEarlier b j e) → NoneBefore b (j + 1)
walked_past b j none here i e l x =
    elim (cases_lt i j) [
      | inl m ↦ none i e m x
      | inr m ↦ let P : ℕ → Type 0 =
          λ k. IsExtent b k e → ¬ SharesEarlier b k e in subst P (sym (same i j l m)) (here e) x
    ]

pub walked_used : (b : List ℕ) (taken after : List Bool) (j : ℕ) → WalkedTo b taken j → SharesNoneAndMarks b after j → WalkedTo b after (j + 1)
walked_used b taken after j walked here = record { marks = here.marks; none = walked_past b j walked.none (λ e x. here.shares e x.1) }

pub walked_free : (b : List ℕ) (taken : List Bool) (j : ℕ) → WalkedTo b taken j → ¬ (used_mark b j ≡ 1) → WalkedTo b taken (j + 1)
walked_free b taken j walked free = record {
  marks = marks_end b taken j 0 walked.marks (λ d x. absurd (free x.0.1));
  none = walked_past b j walked.none (λ e x. absurd (free x.0.1));
}

pub walked_all : (b : List ℕ) (taken : List Bool) (j : ℕ) → WalkedTo b taken j → inode_count b ≤ j → Obeys b ExtentShares
walked_all b taken j walked end i d k e x y l s = walked.none k e (omega (arith, y.0.0)) y (i, d, x, l, s)

-- the first extent that shares a block stands at the least place
pub least_share : (b : List ℕ) (taken : List Bool) (j e : ℕ) → WalkedTo b taken j → IsUsed b j
    → Obeys b ExtentCount → IsFirstShare b j e → IsLeastBreak b ExtentShares (extent_place j e)
least_share b taken j e walked used counts first = record {
  breaks = (first.shares.0, first.shares.1, j, e, first.shares.2, (used, first.within), first.shares.3, first.shares.4, refl);
  least = λ q l (i, d, k, f, x, y, earlier, share, place).
      let few : extent_count b k ≤ 24 = counts k y.0 in
      let many : extent_count b j ≤ 24 = counts j used in
      elim (cases_lt k j) [
        | inl m ↦ walked.none k f m y (i, d, x, earlier, share)
        | inr m ↦
            let s : k ≡ j = omega (arith, y.1, first.within) in
            let P : ℕ → Type 0 = λ n. SharesEarlier b n f in
            first.before f (omega (arith, first.within)) (subst P s (i, d, x, earlier, share))
      ];
}
