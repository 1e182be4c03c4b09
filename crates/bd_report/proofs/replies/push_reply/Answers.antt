use Rattle.std.proofs.Common.{◌≡◌, ◌++◌, ℕ, List, None, ap, ◌∙◌}
use Rattle.std.specs.Prelude.{OnOk}
use Rattle.std.proofs.Common.{subst}
use Rattle.bd_report.specs.Replies.{answers_of, ended_text}
use Rattle.bd_report.proofs.Telling.{ended_by_pieces, noted_answers, ended_text-by_pieces}
use Rattle.bd_report.proofs.replies.push_reply.Goals as goal

pub push_pieces-requires-clause-by_pieces : goal.push_pieces-requires-clause-by_pieces
push_pieces-requires-clause-by_pieces c = ended_by_pieces c.args.call.now c.args.notes.now c.requires.ended c.in-None.is

pub returns-in-None : goal.returns-in-None
returns-in-None c = λ entries tells.
    let call = c.args.call.now in
    let notes = c.args.notes.now in
    subst (λ (t : List ℕ). OnOk c.push_pieces.result (c.push_pieces.new.text.items ≡ c.args.text.now.items ++ t))
    (ap (ended_text call None) (noted_answers call entries notes c.requires.limits tells)
    ∙ ended_text-by_pieces call entries notes tells c.in-None.is (answers_of call entries))
    c.push_pieces.ensures
