use Rattle.std.proofs.Common.{◌≡◌, ℕ, ◌<◌, false, List, Some, length, refl, ap, ◌∙◌, arith, inl, inr, sym}
use Rattle.std.proofs.lemmas.Bool.{cases_eq}
use Rattle.bd_base.specs.Pieces.{Piece}
use Rattle.bd_entry.specs.Actions.{Running}
use Rattle.bd_entry.specs.Calls.{piece_of_call, pieces_of_call}
use Rattle.bd_kernel.specs.Sights.{place_of, store_of}
use Rattle.bd_kernel.specs.Turns.{may_submit}
use Rattle.bd_kernel.proofs.KernelPieces.{item-of, number-first, number-none}
use Rattle.bd_kernel.proofs.pieces.piece_to_submit.Goals as goal

pub returns-then-may_submit : goal.returns-then-may_submit
returns-then-may_submit c = λ fs uids bytes work call_number before opens marks.
    let s = store_of fs c.args.table.now uids bytes work in
    let p = place_of c.args.call.now c.args.process call_number before in
    let r : Running = record { place = p; outstanding = c.args.outstanding.now } in
    let number = c.loop-number.number in
    let piece = c.piece-item.result in
    let xs = c.as_slice-piece-items in
    let at : piece_of_call c.args.call.now number ≡ Some piece =
    item-of xs.result.now (pieces_of_call c.args.call.now) number piece (xs.ensures ∙ c.pieces_of-pieces.ensures) c.loop-number-test.true c.piece-item.is in
    let here = c.may_submit.ensures s p refl (c.descriptor_of-descriptor.ensures before opens) at marks in
    number-first (may_submit s r) c.args.call.now number piece at (sym here ∙ c.if-may_submit.true)
    (λ k below. c.loop-number.invariant k below fs uids bytes work call_number before opens marks)

pub loop-number-preserved : goal.loop-number-preserved
loop-number-preserved c = λ k below fs uids bytes work call_number before opens marks.
    let s = store_of fs c.args.table.now uids bytes work in
    let p = place_of c.args.call.now c.args.process call_number before in
    let r : Running = record { place = p; outstanding = c.args.outstanding.now } in
    let number = c.loop-number.number in
    let piece = c.piece-item.result in
    let xs = c.as_slice-piece-items in
    let at : piece_of_call c.args.call.now number ≡ Some piece =
    item-of xs.result.now (pieces_of_call c.args.call.now) number piece (xs.ensures ∙ c.pieces_of-pieces.ensures) c.loop-number-test.true c.piece-item.is in
    let here = c.may_submit.ensures s p refl (c.descriptor_of-descriptor.ensures before opens) at marks in
    elim (cases_eq k number) [
      | inl same ↦ ap (may_submit s r) same ∙ sym here ∙ c.if-may_submit.false
      | inr other ↦ c.loop-number.invariant k (omega arith) fs uids bytes work call_number before opens marks
    ]

pub returns : goal.returns
returns c = λ fs uids bytes work call_number before opens marks.
    let s = store_of fs c.args.table.now uids bytes work in
    let p = place_of c.args.call.now c.args.process call_number before in
    let xs = c.as_slice-piece-items in
    let all : length xs.result.now ≡ length (pieces_of_call c.args.call.now) =
    ap (λ (ys : List Piece). length ys) (xs.ensures ∙ c.pieces_of-pieces.ensures) in
    number-none (may_submit s (record { place = p; outstanding = c.args.outstanding.now })) c.args.call.now
    (λ k below. c.loop-number.invariant k (omega (arith, all, c.loop-number-test.false, below)) fs uids bytes work call_number before opens marks)
