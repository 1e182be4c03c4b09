use Rattle.std.proofs.Common.{◌≡◌, ◌+◌, ◌*◌, ◌<◌, ◌≤◌, ℕ, List, length, arith, ap, ◌∙◌, get_or}
use Rattle.std.proofs.lemmas.List.FromFn.{get_or-map-range_with_len, length-map-range_with_len}
use Rattle.bd_base.specs.declared.volume.Extent.{Extent}
use Rattle.bd_image.specs.Layout.{block_count, extent_at, extent_count, extents_at}
use Rattle.bd_image.proofs.reader.files.read_blocks.Goals as goal

pub blocks_of-requires : goal.blocks_of-requires
blocks_of-requires c k d low =
    let b : List ℕ = c.args.bytes.now in
    let j : ℕ = c.args.j in
    let all : c.as_slice.result.now ≡ extents_at b j = c.as_slice.ensures ∙ c.in_ok-extents.ensures in
    let within : k < extent_count b j = omega (arith, low, ap length all, length-map-range_with_len (extent_at b j) 0 (extent_count b j)) in
    let same : get_or c.as_slice.result.now k d ≡ extent_at b j k =
    ap (λ (extents : List Extent). get_or extents k d) all ∙ get_or-map-range_with_len (extent_at b j) 0 (extent_count b j) k k d within (omega arith) in
    let total : block_count b * 4096 ≡ length b = c.requires.total in
    let most : length b ≤ 67108864 = c.requires.image.length_fits.most in
    let end : (extent_at b j k).start + (extent_at b j k).length ≤ block_count b = (c.requires.inside k within).end in
    rw same (omega (arith, end, total, most))
