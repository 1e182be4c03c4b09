-- Why a file does not grow.
use Rattle.std.proofs.Common.{◌≡◌, ◌≢◌, ℕ, ◌+◌, ◌%◌, ◌<◌, ◌≤◌, Bool, true, false, nat_eq, nat_le}
use Rattle.std.proofs.Common.{nat_lt, List, []}
use Rattle.std.proofs.Common.{◌∷◌, ◌++◌, length, Option, None, Some, arith, refl, sym, ap, ◌∙◌, inl, inr, subst}
use Rattle.std.specs.Option.{option_or}
use Rattle.std.proofs.lemmas.Bool.{cases_eq, cases_lt, cases_Bool, cond-true, cond-false, eq-eqb, ne_eqb, lt-ltb, le-ltb}
use Rattle.std.proofs.lemmas.Bool.{lt-leb, le-leb, and_left, and_right, both_ways}
use Rattle.std.proofs.lemmas.Option.{none-some}
use Rattle.bd_base.specs.declared.limits.TheConstants.{BLOCK_SIZE, EXTENTS, FILE_SIZE}
use Rattle.bd_base.specs.declared.reason.Reason.TheVariants.{NoSpace, Extents, TooBig}
use Rattle.bd_base.specs.declared.volume.Inode.{Inode}
use Rattle.bd_base.specs.Allocation.{allocated_block, free_block_after, is_data_block, last_block, lowest_free, times_listed}
use Rattle.bd_base.specs.Extents.{extents_of}
use Rattle.bd_base.specs.Files.{data_start}
use Rattle.bd_base.specs.Growth.{NoneIsFree, RefusesGrowth}
use Rattle.bd_base.specs.Inodes.{block_lists, block_refusal, growth_refusal, is_free}
use Rattle.bd_base.proofs.Ranges.{find-range_fails, find-range_lowest}

-- ---- what an allocation takes

-- the block after another passes the test
free_block_after-free : (p : ℕ → Bool) (after : Option ℕ) (b : ℕ) → free_block_after p after ≡ Some b → p b ≡ true
free_block_after-free p None b is = absurd (none-some b is)
free_block_after-free p (Some a) b is =
    elim (cases_Bool (p (a + 1))) [
      | inl free ↦
          let same : a + 1 ≡ b = (let e : Some (a + 1) ≡ Some b = sym (cond-true (p (a + 1)) _ _ free) ∙ is in cc) in
          subst (λ k. p k ≡ true) same free
      | inr taken ↦ absurd (none-some b (sym (cond-false (p (a + 1)) _ _ taken) ∙ is))
    ]

-- what is taken was free
pub allocated_block-free : (p : ℕ → Bool) (total : ℕ) (after : Option ℕ) (b : ℕ) → allocated_block p total after ≡ Some b → p b ≡ true
allocated_block-free p total after b is = by (free_block_after p after) refl
  where
    by : (next : Option ℕ) → free_block_after p after ≡ next → p b ≡ true
    by None none =
        (find-range_lowest p 0 total b (sym (ap (λ o. option_or o (lowest_free p total)) none) ∙ is)).passes
    by (Some c) some =
        let same : c ≡ b = (let e : Some c ≡ Some b = sym (ap (λ o. option_or o (lowest_free p total)) some) ∙ is in cc) in
        free_block_after-free p after b (some ∙ ap Some same)

-- where nothing is taken nothing below the total is free
pub allocated_block-none : (p : ℕ → Bool) (total : ℕ) (after : Option ℕ) → allocated_block p total after ≡ None
    → (k : ℕ) → k < total → p k ≡ false
allocated_block-none p total after is = by (free_block_after p after) refl
  where
    by : (next : Option ℕ) → free_block_after p after ≡ next → (k : ℕ) → k < total → p k ≡ false
    by None none k below =
        find-range_fails p 0 total (sym (ap (λ o. option_or o (lowest_free p total)) none) ∙ is) k (omega arith) (omega arith)
    by (Some c) some k below =
        absurd (none-some c (sym is ∙ ap (λ o. option_or o (lowest_free p total)) some))

-- a block past the end is not free
is_free-past : (total : ℕ) (files : List (Option Inode)) (block : ℕ) → total ≤ block → is_free total files block ≡ false
is_free-past total files block past =
    and_left (is_data_block total (length files) block) (nat_eq (times_listed (block_lists files) block) 0)
    (and_right (nat_le (data_start (length files)) block) (nat_lt block total) (le-ltb block total past))

-- ---- the refusals in order

module _ (total : ℕ) (files : List (Option Inode)) (file : Inode) (to : ℕ) where
  -- it is too big
  too_big : FILE_SIZE < to → RefusesGrowth total files file to
  too_big above =
      let is : growth_refusal total files file to ≡ Some TooBig = cond-true (nat_lt FILE_SIZE to) _ _ (lt-ltb FILE_SIZE to above) in
      record {
        too_big = (λ _. above, λ _. is);
        no_space = (λ other. absurd (let no : Some TooBig ≡ Some NoSpace = sym is ∙ other in cc), λ why. absurd (omega (arith, why.0)));
        extents = (λ other. absurd (let no : Some TooBig ≡ Some Extents = sym is ∙ other in cc), λ why. absurd (omega (arith, why.0)));
      }

  -- it fits, and needs no block
  within : to ≤ FILE_SIZE → (file.size % BLOCK_SIZE ≢ 0) → RefusesGrowth total files file to
  within fits partly =
      let is : growth_refusal total files file to ≡ None =
      cond-false (nat_lt FILE_SIZE to) _ _ (le-ltb FILE_SIZE to fits)
      ∙ cond-false (nat_eq (file.size % BLOCK_SIZE) 0) _ _ (ne_eqb (file.size % BLOCK_SIZE) 0 partly) in
      record {
        too_big = (λ other. absurd (none-some TooBig (sym is ∙ other)), λ above. absurd (omega arith));
        no_space = (λ other. absurd (none-some NoSpace (sym is ∙ other)), λ why. absurd (partly why.1));
        extents = (λ other. absurd (none-some Extents (sym is ∙ other)), λ why. absurd (partly why.1));
      }

  -- it fits, and needs a block
  module _ (fits : to ≤ FILE_SIZE) (full : file.size % BLOCK_SIZE ≡ 0) where
    by_block : (block : Option ℕ) → allocated_block (is_free total files) total (last_block file.blocks) ≡ block
        → growth_refusal total files file to ≡ block_refusal file.blocks block
    by_block block is =
        cond-false (nat_lt FILE_SIZE to) _ _ (le-ltb FILE_SIZE to fits)
        ∙ cond-true (nat_eq (file.size % BLOCK_SIZE) 0) _ _ (eq-eqb (file.size % BLOCK_SIZE) 0 full)
        ∙ ap (block_refusal file.blocks) is

    -- none is free
    no_block : allocated_block (is_free total files) total (last_block file.blocks) ≡ None → RefusesGrowth total files file to
    no_block none =
        let is : growth_refusal total files file to ≡ Some NoSpace = by_block None none in
        let none_free : NoneIsFree total files = λ block. elim (cases_lt block total) [
          | inl below ↦ allocated_block-none (is_free total files) total (last_block file.blocks) none block below
          | inr past ↦ is_free-past total files block past
        ] in
        record {
          too_big = (λ other. absurd (let no : Some NoSpace ≡ Some TooBig = sym is ∙ other in cc), λ above. absurd (omega arith));
          no_space = (λ _. (fits, full, none_free), λ _. is);
          extents = (
            λ other. absurd (let no : Some NoSpace ≡ Some Extents = sym is ∙ other in cc),
            λ why. absurd (none-some why.2.block (sym none ∙ why.2.taken)),
          );
        }

    -- a block would be taken
    some_block : (block : ℕ) → allocated_block (is_free total files) total (last_block file.blocks) ≡ Some block
        → RefusesGrowth total files file to
    some_block block some =
        let free : is_free total files block ≡ true =
        allocated_block-free (is_free total files) total (last_block file.blocks) block some in
        let count : ℕ = length (extents_of (file.blocks ++ block ∷ [])) in
        elim (cases_lt EXTENTS count) [
          | inl many ↦
              let is : growth_refusal total files file to ≡ Some Extents =
              by_block (Some block) some ∙ cond-false (nat_le count EXTENTS) _ _ (lt-leb count EXTENTS many) in
              record {
                too_big = (λ other. absurd (let no : Some Extents ≡ Some TooBig = sym is ∙ other in cc), λ above. absurd (omega arith));
                no_space = (
                  λ other. absurd (let no : Some Extents ≡ Some NoSpace = sym is ∙ other in cc),
                  λ why. absurd (both_ways (is_free total files block) (why.2 block) free),
                );
                extents = (λ _. (fits, full, record { block = block; taken = some; many = many }), λ _. is);
              }
          | inr few ↦
              let is : growth_refusal total files file to ≡ None =
              by_block (Some block) some ∙ cond-true (nat_le count EXTENTS) _ _ (le-leb count EXTENTS few) in
              record {
                too_big = (λ other. absurd (none-some TooBig (sym is ∙ other)), λ above. absurd (omega arith));
                no_space = (
                  λ other. absurd (none-some NoSpace (sym is ∙ other)),
                  λ why. absurd (both_ways (is_free total files block) (why.2 block) free),
                );
                extents = (
                  λ other. absurd (none-some Extents (sym is ∙ other)),
                  λ why.
                      let same : why.2.block ≡ block = (let e : Some why.2.block ≡ Some block = sym why.2.taken ∙ some in cc) in
                      let many : EXTENTS < length (extents_of (file.blocks ++ block ∷ [])) =
                      subst (λ (b : ℕ). EXTENTS < length (extents_of (file.blocks ++ b ∷ []))) same why.2.many in
                      absurd (omega arith),
                );
              }
        ]

    by_taken : (block : Option ℕ) → allocated_block (is_free total files) total (last_block file.blocks) ≡ block
        → RefusesGrowth total files file to
    by_taken None none = no_block none
    by_taken (Some block) some = some_block block some

  pub refuses_growth : RefusesGrowth total files file to
  refuses_growth =
      elim (cases_lt FILE_SIZE to) [
        | inl above ↦ too_big above
        | inr fits ↦
            elim (cases_eq (file.size % BLOCK_SIZE) 0) [
              | inl full ↦ by_taken fits full (allocated_block (is_free total files) total (last_block file.blocks)) refl
              | inr partly ↦ within fits partly
            ]
      ]
