-- What a growth that is not refused takes, and how many blocks a file then has.
use Rattle.std.proofs.Common.{◌≡◌, ℕ, ◌+◌, ◌*◌, ◌/◌, ◌%◌, ◌<◌, ◌≤◌, nat_eq, nat_le, nat_lt, List, [], ◌∷◌, ◌++◌, length, Option, None, Some, arith, sym, ap, ◌∙◌, inl, inr}
use Rattle.std.proofs.lemmas.Bool.{cases_Bool, cond-true, cond-false, eqb-true, eqb-false, leb-true, ltb-false}
use Rattle.std.proofs.lemmas.Option.{none-some}
use Rattle.bd_base.specs.declared.limits.TheConstants.{BLOCK_SIZE, EXTENTS, FILE_SIZE}
use Rattle.bd_base.specs.declared.reason.Reason.TheVariants.{NoSpace, Extents, TooBig}
use Rattle.bd_base.specs.declared.volume.Inode.{Inode}
use Rattle.bd_base.specs.Allocation.{allocated_block, last_block}
use Rattle.bd_base.specs.Extents.{extents_of}
use Rattle.bd_base.specs.Files.{blocks_for}
use Rattle.bd_base.specs.Inodes.{block_refusal, growth_block, growth_refusal, is_free}

-- what a growth within the limits is
pub record Grows (total : ℕ) (files : List (Option Inode)) (file : Inode) (to block : ℕ) : Type 0 where
  pub in_range : to ≤ FILE_SIZE
  pub few : length (extents_of (file.blocks ++ block ∷ [])) ≤ EXTENTS
  pub takes : allocated_block (is_free total files) total (last_block file.blocks) ≡ Some block

few_of : (blocks : List ℕ) (block : ℕ) → block_refusal blocks (Some block) ≡ None → length (extents_of (blocks ++ block ∷ [])) ≤ EXTENTS
few_of blocks block refusal =
    elim (cases_Bool (nat_le (length (extents_of (blocks ++ block ∷ []))) EXTENTS)) [
      | inl few ↦ leb-true (length (extents_of (blocks ++ block ∷ []))) EXTENTS few
      | inr many ↦ absurd (none-some Extents (sym refusal ∙ cond-false _ _ _ many))
    ]

pub Grows-from : (total : ℕ) (files : List (Option Inode)) (file : Inode) (to block : ℕ) → growth_refusal total files file to ≡ None →
    growth_block total files file ≡ Some block → Grows total files file to block
Grows-from total files file to block allowed planned =
    elim (cases_Bool (nat_eq (file.size % BLOCK_SIZE) 0)) [
      | inr within ↦ absurd (none-some block (sym (cond-false _ _ _ within) ∙ planned))
      | inl full ↦
          elim (cases_Bool (nat_lt FILE_SIZE to)) [
            | inl big ↦ absurd (none-some TooBig (sym allowed ∙ cond-true _ _ _ big))
            | inr fits ↦
                let takes : allocated_block (is_free total files) total (last_block file.blocks) ≡ Some block = sym (cond-true _ _ _ full) ∙ planned in
                let refusal : block_refusal file.blocks (Some block) ≡ None =
                ap (block_refusal file.blocks) (sym takes) ∙ sym (cond-false _ _ _ fits ∙ cond-true _ _ _ full) ∙ allowed in
                record { in_range = ltb-false FILE_SIZE to fits; few = few_of file.blocks block refusal; takes = takes }
          ]
    ]

-- how many blocks a file has after a growth within its last block, towards a goal
pub enough_within : (total : ℕ) (files : List (Option Inode)) (file : Inode) (goal to : ℕ) → growth_refusal total files file goal ≡ None →
    growth_block total files file ≡ None → length file.blocks ≡ blocks_for file.size → file.size < to →
    to ≤ BLOCK_SIZE * (file.size / BLOCK_SIZE + 1) → length file.blocks ≡ blocks_for to
enough_within total files file goal to allowed planned enough larger near =
    elim (cases_Bool (nat_eq (file.size % BLOCK_SIZE) 0)) [
      | inr within ↦ enough ∙ same_blocks file.size to (eqb-false (file.size % BLOCK_SIZE) 0 within) larger near
      | inl full ↦
          elim (cases_Bool (nat_lt FILE_SIZE goal)) [
            | inl big ↦ absurd (none-some TooBig (sym allowed ∙ cond-true _ _ _ big))
            | inr fits ↦
                let none : allocated_block (is_free total files) total (last_block file.blocks) ≡ None = sym (cond-true _ _ _ full) ∙ planned in
                absurd (none-some NoSpace (sym allowed ∙ cond-false _ _ _ fits ∙ cond-true _ _ _ full ∙ ap (block_refusal file.blocks) none))
          ]
    ]
  where
    same_blocks : (size to : ℕ) → (size % BLOCK_SIZE ≡ 0 → ⊥) → size < to → to ≤ BLOCK_SIZE * (size / BLOCK_SIZE + 1) →
        blocks_for size ≡ blocks_for to
    same_blocks size to within larger near = omega arith

-- a growth by a block begins at the end of the blocks
pub full_before : (total : ℕ) (files : List (Option Inode)) (file : Inode) (block : ℕ) → growth_block total files file ≡ Some block →
    file.size % BLOCK_SIZE ≡ 0
full_before total files file block planned =
    elim (cases_Bool (nat_eq (file.size % BLOCK_SIZE) 0)) [
      | inr within ↦ absurd (none-some block (sym (cond-false _ _ _ within) ∙ planned))
      | inl full ↦ eqb-true (file.size % BLOCK_SIZE) 0 full
    ]

-- and how many after it
pub enough_grown : (total : ℕ) (files : List (Option Inode)) (file : Inode) (to block : ℕ) → growth_block total files file ≡ Some block →
    length file.blocks ≡ blocks_for file.size → file.size < to → to ≤ BLOCK_SIZE * (file.size / BLOCK_SIZE + 1) →
    length file.blocks + 1 ≡ blocks_for to
enough_grown total files file to block planned enough larger near =
    ap (λ n. n + 1) enough ∙ one_more file.size to (full_before total files file block planned) larger near
  where
    one_more : (size to : ℕ) → size % BLOCK_SIZE ≡ 0 → size < to → to ≤ BLOCK_SIZE * (size / BLOCK_SIZE + 1) →
        blocks_for size + 1 ≡ blocks_for to
    one_more size to full larger near = omega arith
