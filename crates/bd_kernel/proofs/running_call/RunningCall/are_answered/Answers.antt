use Rattle.std.proofs.Common.{◌≡◌, false, ap, sym, ◌∙◌, arith}
use Rattle.bd_kernel.specs.Marks.{Marks, is_marked}
use Rattle.bd_kernel.proofs.MarkRanges.{all_pass, one_fails}
use Rattle.bd_kernel.proofs.running_call.RunningCall.are_answered.Goals as goal

pub returns-then-not-is_marked : goal.returns-then-not-is_marked
returns-then-not-is_marked c =
    let fails : is_marked c.args.self.now.answered c.loop-piece.piece ≡ false =
    ap (λ (m : Marks). is_marked m.answered c.loop-piece.piece) (sym c.self.view_is) ∙ sym c.is_marked.ensures ∙ c.if-not-is_marked.true in
    sym (one_fails (is_marked c.args.self.now.answered) 0 c.args.count c.loop-piece.piece (omega arith) (omega arith) fails)

pub returns : goal.returns
returns c =
    sym (all_pass (is_marked c.args.self.now.answered) 0 c.args.count (λ k low below. c.loop-piece.invariant k (omega arith)))
