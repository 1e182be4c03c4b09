use Rattle.std.proofs.Common.{◌≡◌, ℕ, ◌+◌, ◌-◌, ◌*◌, ◌≤◌, List, length, ap, arith, rules}
use Rattle.bd_base.specs.Pieces.{Piece}
use Rattle.bd_kernel.proofs.KernelPieces.{write-part}
use Rattle.bd_kernel.proofs.calls.bytes_for_piece.Goals as goal

pub overflow_sub-start : goal.overflow_sub-start
overflow_sub-start c =
    let w = c.in-Write in
    let p = c.requires.piece in
    let part = write-part c.args.call.now w.fd w.off w.bytes p.0 c.args.piece w.is c.requires.call p.1 in
    let from : w.off ≤ 4096 * c.args.piece.index + c.args.piece.range.lo = part.from in
    let index : c.from.result ≡ c.args.piece.index = search rules in
    let lo : c.from-in-Write.result ≡ c.args.piece.range.lo = search rules in
    omega arith

pub slice_bounds-result-end : goal.slice_bounds-result-end
slice_bounds-result-end c =
    let w = c.in-Write in
    let p = c.requires.piece in
    let part = write-part c.args.call.now w.fd w.off w.bytes p.0 c.args.piece w.is c.requires.call p.1 in
    let from : w.off ≤ 4096 * c.args.piece.index + c.args.piece.range.lo = part.from in
    let to : 4096 * c.args.piece.index + c.args.piece.range.hi ≤ w.off + length w.bytes = part.to in
    let index : c.from.result ≡ c.args.piece.index = search rules in
    let lo : c.from-in-Write.result ≡ c.args.piece.range.lo = search rules in
    let low : c.piece.inside.range.lo ≡ c.args.piece.range.lo = ap (λ (x : Piece). x.range.lo) c.piece.view_is in
    let high : c.piece.inside.range.hi ≡ c.args.piece.range.hi = ap (λ (x : Piece). x.range.hi) c.piece.view_is in
    let all : length c.as_slice.result.now ≡ length w.bytes = ap (λ (xs : List ℕ). length xs) c.as_slice.ensures in
    let within : 4096 * c.from.result + c.from-in-Write.result - w.off + c.count.result ≤ length c.as_slice.result.now =
    omega (arith, c.count.ensures.count, c.count.ensures.ordered) in
    within
