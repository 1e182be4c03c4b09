-- Free blocks as a finite set.
use Rattle.std.specs.Prelude.{◌≡◌, ℕ, ◌+◌, ◌<◌, true, false, Option, Some, IfSome, refl}
use Rattle.std.specs.Coded.{Coded, code_by, coded×, coded_ℕ}
use Rattle.std.specs.Ordering.{nat_cmp}
use Rattle.std.specs.FinSet as set

-- how many blocks there are, and which of them are free
pub record FreeBlocks : Type 0 where
  pub total : ℕ
  pub free : set.FinSet nat_cmp

-- free blocks are stored as the pair of their fields
abbrev pub free_blocks_code : Coded FreeBlocks
free_blocks_code =
    code_by (ℕ × set.FinSet nat_cmp) (coded× coded_ℕ (set.code coded_ℕ)) (λ s. (s.total, s.free))
    (λ p. record { total = p.0; free = p.1 }) (λ _. refl)

-- these blocks with one less that is free
abbrev pub without_block : FreeBlocks → ℕ → FreeBlocks
without_block s block = record s { free = set.remove s.free block }

-- where the block after the given one is free, it is the answer
abbrev pub TakesNext : FreeBlocks → Option ℕ → Option ℕ → Type 0
TakesNext s after result =
    IfSome after (λ before. set.contains s.free (before + 1) ≡ true → result ≡ Some (before + 1))

-- where the block after the given one, if any, is not free, nothing below the answer is free
abbrev pub TakesLowest : FreeBlocks → Option ℕ → Option ℕ → Type 0
TakesLowest s after result =
    IfSome after (λ before. set.contains s.free (before + 1) ≡ false) →
    IfSome result (λ block. (b : ℕ) → b < block → set.contains s.free b ≡ false)
