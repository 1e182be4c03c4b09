-- Extents of data blocks lie in the data area.
use Rattle.std.proofs.Common.{◌≤◌, ◌<◌, ◌+◌, ◌-◌, ℕ, IsTrue, List, length, get_or, subst, arith}
use Rattle.std.proofs.lemmas.List.Elements.{All-contains}
use Rattle.std.specs.List.{All, Contains}
use Rattle.bd_base.specs.declared.volume.Extent.{Extent}
use Rattle.bd_base.specs.Allocation.{is_data_block}
use Rattle.bd_base.specs.Extents.{extents_of}
use Rattle.bd_base.specs.Files.{data_start}
use Rattle.bd_base.proofs.ValidFiles.{data_block-within}
use Rattle.bd_image.specs.Rules.{IsInDataArea}
use Rattle.bd_extents.proofs.ExtentLists.{AreMaximal-extents_of, blocks_of-extents_of}
use Rattle.bd_image.proofs.ExtentBlocks.{Contains-blocks_of, not_empty-at}

-- an extent of data blocks lies in the data area
pub in_data_area : (total capacity : ℕ) (blocks : List ℕ) (e : ℕ) (d : Extent) → All (λ block. IsTrue (is_data_block total capacity block)) blocks
    → e < length (extents_of blocks) → IsInDataArea total capacity (get_or (extents_of blocks) e d)
in_data_area total capacity blocks e d all low =
    let es : List Extent = extents_of blocks in
    let g : Extent = get_or es e d in
    let some : 0 < g.length = not_empty-at es e d (AreMaximal-extents_of blocks) low in
    let each : (x : ℕ) → g.start ≤ x → x < g.start + g.length → (data_start capacity ≤ x) × (x < total) =
    λ x from below.
    data_block-within total capacity x
    (All-contains (λ block. IsTrue (is_data_block total capacity block)) blocks x all
    (subst (λ (xs : List ℕ). Contains xs x) (blocks_of-extents_of blocks) (Contains-blocks_of es e d x low from below))) in
    let first : (data_start capacity ≤ g.start) × (g.start < total) = each g.start (omega arith) (omega arith) in
    let end : ℕ = g.start + (g.length - 1) in
    let last : (data_start capacity ≤ end) × (end < total) = each end (omega arith) (omega arith) in
    record { not_empty = omega arith; start = first.0; end = omega (arith, last.1) }
