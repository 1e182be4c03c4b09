-- As many pieces as blocks that the range touches, which are five at most.
use Rattle.std.proofs.Common.{◌≡◌, ◌+◌, ◌-◌, ◌/◌, ap, arith, length}
use Rattle.std.proofs.lemmas.List.FromFn.{length-map-range_with_len, map-range_with_len_more}
use Rattle.bd_base.specs.declared.limits.TheConstants.{BLOCK_SIZE}
use Rattle.bd_base.specs.Pieces.{piece_at}
use Rattle.bd_pieces.proofs.cutting.pieces.Goals as goal

pub push-requires : goal.push-requires
push-requires c =
    let first = c.args.off / BLOCK_SIZE in
    omega (arith, ap length c.loop-index.invariant, length-map-range_with_len (piece_at c.args.off c.args.len) first (c.loop-index.index - first))

pub loop-index-preserved : goal.loop-index-preserved
loop-index-preserved c =
    let first = c.args.off / BLOCK_SIZE in
    let index = c.loop-index.index in
    let count : index + 1 - first ≡ index - first + 1 = omega arith in
    let here : first + (index - first) ≡ index = omega arith in
    let more = map-range_with_len_more (piece_at c.args.off c.args.len) first (index - first) index here in
    rw count (cc)

pub returns-clause-most : goal.returns-clause-most
returns-clause-most c =
    let first = c.args.off / BLOCK_SIZE in
    omega (arith, ap length c.loop-index.invariant, length-map-range_with_len (piece_at c.args.off c.args.len) first (c.loop-index.index - first))
