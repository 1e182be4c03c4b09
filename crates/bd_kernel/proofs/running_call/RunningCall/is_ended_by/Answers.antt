use Rattle.std.proofs.Common.{◌≡◌, List, length, sym, ap, ◌∙◌}
use Rattle.std.specs.List.{list_all, range_with_len}
use Rattle.bd_base.specs.Pieces.{Piece}
use Rattle.bd_kernel.specs.Marks.{is_marked}
use Rattle.bd_kernel.proofs.CallEnds.{ended_by_answers, ended_by_last, not_ended}
use Rattle.bd_kernel.proofs.running_call.RunningCall.is_ended_by.Goals as goal

pub returns-then-is_end_of : goal.returns-then-is_end_of
returns-then-is_end_of c before marks unfinished =
    ended_by_last c.args.call.now before c.args.last.now c.args.self.now marks unfinished
    (sym c.is_end_of.ensures ∙ c.if-is_end_of.true)

pub returns-then-not-ends_by_pieces : goal.returns-then-not-ends_by_pieces
returns-then-not-ends_by_pieces c before marks unfinished =
    not_ended c.args.call.now before c.args.last.now c.args.self.now marks unfinished
    (sym c.is_end_of.ensures ∙ c.if-is_end_of.false) (sym c.ends_by_pieces.ensures ∙ c.if-not-ends_by_pieces.true)

pub returns : goal.returns
returns c before marks unfinished =
    c.are_answered.ensures
    ∙ ap (λ (pieces : List Piece). list_all (is_marked c.args.self.now.answered) (range_with_len 0 (length pieces)))
    (c.as_slice.ensures ∙ c.pieces_of.ensures)
    ∙ ended_by_answers c.args.call.now before c.args.last.now c.args.self.now marks unfinished
    (sym c.is_end_of.ensures ∙ c.if-is_end_of.false) (sym c.ends_by_pieces.ensures ∙ c.if-not-ends_by_pieces.false)
