-- Lists of blocks, and the extents that say the same in fewer words.
use Rattle.std.specs.Prelude.{◌≢◌, ℕ, ◌+◌, ◌<◌, Bool, true, nat_eq, not, cond, Option, None, Some, List, [], ◌∷◌, ◌++◌}
use Rattle.std.specs.List.{range_with_len}
use Rattle.bd_base.specs.declared.volume.Extent.{Extent}

-- the blocks of extents, in order
abbrev pub blocks_of : List Extent → List ℕ
blocks_of [] = []
blocks_of (e ∷ es) = range_with_len e.start e.length ++ blocks_of es

-- these extents with one more block in front
abbrev pub with_front_block : ℕ → List Extent → List Extent
with_front_block b [] = record { start = b; length = 1 } ∷ []
with_front_block b (e ∷ es) =
    cond (nat_eq e.start (b + 1))
    (record { start = b; length = e.length + 1 } ∷ es)
    (record { start = b; length = 1 } ∷ e ∷ es)

-- the extents of these blocks in order, each as long as can be
abbrev pub extents_of : List ℕ → List Extent
extents_of [] = []
extents_of (b ∷ bs) = with_front_block b (extents_of bs)

-- the first of these extents, if any, does not begin at this block
abbrev pub NoneBeginsAt : ℕ → List Extent → Type 0
NoneBeginsAt b [] = Unit {0}
NoneBeginsAt b (e ∷ es) = e.start ≢ b

-- no extent is empty, and none begins where the one before it ends
abbrev pub AreMaximal : List Extent → Type 0
AreMaximal [] = Unit {0}
AreMaximal (e ∷ es) = (0 < e.length) × NoneBeginsAt (e.start + e.length) es × AreMaximal es

-- whether a block begins an extent after this one, the last before it
abbrev pub is_extent_start : Option ℕ → ℕ → Bool
is_extent_start None block = true
is_extent_start (Some last) block = not (nat_eq block (last + 1))
