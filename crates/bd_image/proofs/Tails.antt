-- Where the tail of a file stands: in the last block of its last extent.
use Rattle.std.proofs.Common.{◌≡◌, ℕ, ◌+◌, ◌-◌, ◌*◌, ◌<◌, ◌≤◌, List, [], ◌∷◌, ◌++◌, length, get_or, sym, ap}
use Rattle.std.proofs.Common.{◌∙◌, append_assoc, arith, inl, inr, subst, min, Option, None, Some, MatchOption}
use Rattle.std.specs.List.{range_with_len}
use Rattle.std.proofs.lemmas.Grind.{common_steps, elements}
use Rattle.std.proofs.lemmas.Bool.{cases_lt}
use Rattle.bd_base.specs.Files.{blocks_for}
use Rattle.bd_image.specs.Layout.{IsUsed, blocks_in_image, extent_at, extent_count, inode_count, size_in_image}
use Rattle.bd_image.specs.Checks.{AreZero, IsFirstNonzero, blocks_before}
use Rattle.bd_image.specs.Rules.{IsInTail, IsLeastBreak, Obeys, TailZero}
use Rattle.bd_image.specs.Tails.{AreTailsZero, IsFirstInTail, IsLeastInTails, IsTailZero}
use Rattle.bd_base.proofs.Ranges.{range_with_len-push}
use Rattle.bd_image.proofs.Blocks.{blocks_before-more}

pub length-last : (xs : List ℕ) (x : ℕ) → length (xs ++ x ∷ []) ≡ length xs + 1
length-last xs x = grind (arith, common_steps)

at_last : (xs : List ℕ) (x : ℕ) → get_or (xs ++ x ∷ []) (length xs) 0 ≡ x
at_last xs x = grind (arith, elements)

-- lists with the same items have the same last one, after as many others
same_length : (xs ys : List ℕ) (x y : ℕ) → xs ++ x ∷ [] ≡ ys ++ y ∷ [] → length xs ≡ length ys
same_length xs ys x y e = let long = ap length e in omega (arith, long, length-last xs x, length-last ys y)

same_last : (xs ys : List ℕ) (x y : ℕ) → xs ++ x ∷ [] ≡ ys ++ y ∷ [] → x ≡ y
same_last xs ys x y e =
    sym (at_last xs x) ∙ ap (λ l. get_or l (length xs) 0) e ∙ ap (λ n. get_or (ys ++ y ∷ []) n 0) (same_length xs ys x y e) ∙ at_last ys y

-- the blocks of a file whose last extent is number n
pub record HasLast (b : List ℕ) (j n : ℕ) : Type 0 where
  pub front : List ℕ
  pub blocks : blocks_in_image b j ≡ front ++ ((extent_at b j n).start + ((extent_at b j n).length - 1)) ∷ []

pub last_of : (b : List ℕ) (j n : ℕ) → extent_count b j ≡ n + 1 → 0 < (extent_at b j n).length → HasLast b j n
last_of b j n count some =
    let s = (extent_at b j n).start in
    let l = (extent_at b j n).length in
    let more : l ≡ (l - 1) + 1 = omega arith in
    record {
      front = blocks_before b j n ++ range_with_len s (l - 1);
      blocks =
          ap (blocks_before b j) count ∙ blocks_before-more b j n
          ∙ ap (λ k. blocks_before b j n ++ range_with_len s k) more
          ∙ ap (λ xs. blocks_before b j n ++ xs) (range_with_len-push s (l - 1))
          ∙ sym (append_assoc (blocks_before b j n) (range_with_len s (l - 1)) ((s + (l - 1)) ∷ []));
    }

-- the place is in the tail of a file whose last block ends at this place
abbrev pub IsPast : ℕ → ℕ → ℕ → Type 0
IsPast end size place = (end - (4096 * blocks_for size - size) ≤ place) × (place < end)

past_to : (start length size last front place : ℕ) → 0 < length → last ≡ start + (length - 1)
    → front + 1 ≡ blocks_for size → 4096 * last + (size - 4096 * front) ≤ place → place < 4096 * (last + 1)
    → IsPast (4096 * (start + length)) size place
past_to start length size last front place some same long past within = (omega arith, omega arith)

past_of : (start length size front place : ℕ) → 0 < length → front + 1 ≡ blocks_for size
    → 4096 * (start + length) - (4096 * blocks_for size - size) ≤ place → place < 4096 * (start + length)
    → (4096 * (start + (length - 1)) + (size - 4096 * front) ≤ place)
    × (place < 4096 * (start + (length - 1) + 1))
past_of start length size front place some long past within = (omega arith, omega arith)

pub in_tail-to : (b : List ℕ) (j n place : ℕ) → extent_count b j ≡ n + 1 → 0 < (extent_at b j n).length
    → length (blocks_in_image b j) ≡ blocks_for (size_in_image b j) → IsInTail b j place
    → IsPast (4096 * ((extent_at b j n).start + (extent_at b j n).length)) (size_in_image b j) place
in_tail-to b j n place count some size h =
    let last = last_of b j n count some in
    let block = (extent_at b j n).start + ((extent_at b j n).length - 1) in
    let e : h.front ++ h.last ∷ [] ≡ last.front ++ block ∷ [] = sym h.blocks ∙ last.blocks in
    let same : h.last ≡ block = same_last h.front last.front h.last block e in
    let long : length h.front + 1 ≡ blocks_for (size_in_image b j) = sym (length-last h.front h.last) ∙ sym (ap length h.blocks) ∙ size in
    past_to (extent_at b j n).start (extent_at b j n).length (size_in_image b j) h.last (length h.front) place some same long h.past h.within

pub in_tail-of : (b : List ℕ) (j n place : ℕ) → extent_count b j ≡ n + 1 → 0 < (extent_at b j n).length
    → length (blocks_in_image b j) ≡ blocks_for (size_in_image b j)
    → IsPast (4096 * ((extent_at b j n).start + (extent_at b j n).length)) (size_in_image b j) place
    → IsInTail b j place
in_tail-of b j n place count some size h =
    let last = last_of b j n count some in
    let block = (extent_at b j n).start + ((extent_at b j n).length - 1) in
    let long : length last.front + 1 ≡ blocks_for (size_in_image b j) = sym (length-last last.front block) ∙ sym (ap length last.blocks) ∙ size in
    let at = past_of (extent_at b j n).start (extent_at b j n).length (size_in_image b j) (length last.front) place some long h.0 h.1 in
    record { front = last.front; last = block; blocks = last.blocks; past = at.0; within = at.1 }

-- a search of the tail's bytes is one of the tail
pub tail_searched : (b : List ℕ) (j low high : ℕ) (found : Option ℕ)
    → ((place : ℕ) → IsInTail b j place → (low ≤ place) × (place < high))
    → ((place : ℕ) → low ≤ place → place < high → IsInTail b j place)
    → MatchOption found (AreZero b low high) (IsFirstNonzero b low high)
    → MatchOption found (IsTailZero b j) (IsFirstInTail b j)
tail_searched b j low high None to of h = λ place t. h place (to place t).0 (to place t).1
tail_searched b j low high (Some found) to of h =
    record {
      in_tail = of found h.low_enough h.within;
      not_zero = h.not_zero;
      before =
          λ q l t. h.before q (to q t).0 l;
    }

same : (i j : ℕ) → i < j + 1 → j ≤ i → i ≡ j
same i j l m = omega arith

-- one record more, free or with a tail of zeros
pub tails_zero-more : (b : List ℕ) (j : ℕ) → (IsUsed b j → IsTailZero b j) → AreTailsZero b j → AreTailsZero b (j + 1)
tails_zero-more b j here h i l used =
    elim (cases_lt i j) [
      | inl m ↦ h i m used
      | inr m ↦ let P : ℕ → Type 0 =
          λ k. IsUsed b k → IsTailZero b k in subst P (sym (same i j l m)) here used
    ]

pub least_in_tails-more : (b : List ℕ) (j found : ℕ) → (IsUsed b j → IsTailZero b j) → IsLeastInTails b j found → IsLeastInTails b (j + 1) found
least_in_tails-more b j found here h = record {
  record_of = h.record_of;
  within = omega (arith, h.within);
  used = h.used;
  in_tail = h.in_tail;
  not_zero = h.not_zero;
  below = λ i q l used m t. elim (cases_lt i j) [
    | inl k ↦ h.below i q k used m t
    | inr k ↦ let P : ℕ → Type 0 =
        λ n. IsUsed b n → IsTailZero b n in subst P (sym (same i j l k)) here used q t
  ];
}

-- one record more whose tail has a byte that is not zero
pub least_in_tails-first : (b : List ℕ) (j place : ℕ) → IsUsed b j → IsFirstInTail b j place → AreTailsZero b j → IsLeastInTails b (j + 1) place
least_in_tails-first b j place used first h = record {
  record_of = j;
  within = omega arith;
  used = used;
  in_tail = first.in_tail;
  not_zero = first.not_zero;
  below = λ i q l u m t. elim (cases_lt i j) [
    | inl k ↦ h i k u q t
    | inr k ↦ first.before q m (let P : ℕ → Type 0 =
        λ n. IsInTail b n q in subst P (same i j l k) t)
  ];
}

pub least_in_tails-least : (b : List ℕ) (j other place : ℕ) → IsUsed b j → IsFirstInTail b j place
    → IsLeastInTails b j other → IsLeastInTails b (j + 1) (min other place)
least_in_tails-least b j other place used first h =
    elim (cases_lt other place) [
      | inl lt ↦ let e : min other place ≡ other = omega arith in rw e (record {
        record_of = h.record_of;
        within = omega (arith, h.within);
        used = h.used;
        in_tail = h.in_tail;
        not_zero = h.not_zero;
        below = λ i q l u m t. elim (cases_lt i j) [
          | inl k ↦ h.below i q k u m t
          | inr k ↦ first.before q (omega arith) (let P : ℕ → Type 0 =
              λ n. IsInTail b n q in subst P (same i j l k) t)
        ];
      })
      | inr ge ↦ let e : min other place ≡ place = omega arith in rw e (record {
        record_of = j;
        within = omega arith;
        used = used;
        in_tail = first.in_tail;
        not_zero = first.not_zero;
        below = λ i q l u m t. elim (cases_lt i j) [
          | inl k ↦ h.below i q k u (omega arith) t
          | inr k ↦ first.before q m (let P : ℕ → Type 0 =
              λ n. IsInTail b n q in subst P (same i j l k) t)
        ];
      })
    ]

-- what a walk over all records found
pub tails_walked : (b : List ℕ) (j : ℕ) (found : Option ℕ) → inode_count b ≤ j
    → MatchOption found (AreTailsZero b j) (IsLeastInTails b j)
    → MatchOption found (Obeys b TailZero) (λ place. IsLeastBreak b TailZero place)
tails_walked b j None end h = λ i place used t. h i (omega (arith, used.0)) used place t
tails_walked b j (Some found) end h = record {
  breaks = (h.record_of, h.used, h.in_tail, h.not_zero);
  least = λ q l w. w.3 (h.below w.0 q (omega (arith, w.1.0)) w.1 l w.2);
}

-- what the walk has found so far
abbrev pub TailsFound : List ℕ → ℕ → Option ℕ → Type 0
TailsFound b j found = MatchOption found (AreTailsZero b j) (IsLeastInTails b j)

pub found_none : (b : List ℕ) (j : ℕ) (found : Option ℕ) → (IsUsed b j → IsTailZero b j) → TailsFound b j found → TailsFound b (j + 1) found
found_none b j None here h = tails_zero-more b j here h
found_none b j (Some found) here h = least_in_tails-more b j found here h

pub found_place : (b : List ℕ) (j place least : ℕ) (found : Option ℕ) → IsUsed b j → IsFirstInTail b j place
    → MatchOption found (least ≡ place) (λ other. least ≡ min other place) → TailsFound b j found
    → TailsFound b (j + 1) (Some least)
found_place b j place least None used first e h = rw e (least_in_tails-first b j place used first h)
found_place b j place least (Some other) used first e h = rw e (least_in_tails-least b j other place used first h)
