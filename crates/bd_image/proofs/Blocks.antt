-- The blocks of extents, one extent after the other.
use Rattle.std.proofs.Common.{◌≡◌, ℕ, ◌+◌, List, [], ◌∷◌, ◌++◌, length, map, refl, sym, ap, ◌∙◌, map-id, append_assoc, arith}
use Rattle.std.specs.List.{range_with_len}
use Rattle.std.proofs.lemmas.Grind.{common_steps}
use Rattle.std.proofs.lemmas.List.FromFn.{map-range_with_len_more, length-range_with_len}
use Rattle.bd_base.specs.declared.volume.Extent.{Extent}
use Rattle.bd_base.specs.Extents.{blocks_of}
use Rattle.bd_image.specs.Layout.{extent_at}
use Rattle.bd_image.specs.Checks.{blocks_before}

pub blocks_of-append : (xs ys : List Extent) → blocks_of (xs ++ ys) ≡ blocks_of xs ++ blocks_of ys
blocks_of-append [] ys = refl
blocks_of-append (x ∷ xs) ys = ap (λ l. range_with_len x.start x.length ++ l) (blocks_of-append xs ys)
    ∙ sym (append_assoc (range_with_len x.start x.length) (blocks_of xs) (blocks_of ys))

-- one more extent
pub blocks_before-more : (b : List ℕ) (j n : ℕ) → blocks_before b j (n + 1) ≡ blocks_before b j n
    ++ range_with_len (extent_at b j n).start (extent_at b j n).length
blocks_before-more b j n =
    ap blocks_of (map-range_with_len_more (extent_at b j) 0 n n (grind arith))
    ∙ blocks_of-append (map (extent_at b j) (range_with_len 0 n)) (extent_at b j n ∷ [])
    ∙ ap (λ l. blocks_before b j n ++ l) (grind (arith, common_steps))

pub length_blocks_before-more : (b : List ℕ) (j n : ℕ) → length (blocks_before b j (n + 1)) ≡ length (blocks_before b j n) + (extent_at b j n).length
length_blocks_before-more b j n =
    ap length (blocks_before-more b j n) ∙ grind (arith, common_steps, length-range_with_len)
