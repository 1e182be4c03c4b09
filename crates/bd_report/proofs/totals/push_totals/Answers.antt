use Rattle.std.specs.Prelude.{codes}
use Rattle.std.proofs.Common.{◌≡◌, List, ℕ, [], ◌∷◌, ◌++◌, append_assoc}
use Rattle.bd_report.specs.Reports.{total_text}
use Rattle.bd_report.proofs.totals.push_totals.Goals as goal

five_pieces : (t a b c d e : List ℕ) → ((((t ++ a) ++ b) ++ c) ++ d) ++ e ≡ t ++ ((((a ++ b) ++ c) ++ d) ++ e)
five_pieces t a b c d e = simp append_assoc

pub returns : goal.returns
returns c =
    let t = c.args.totals in
    rw (c.in_ok-push.ensures.items, c.in_ok-push_total-4.ensures, c.in_ok-push_total-3.ensures, c.in_ok-push_total-2.ensures, c.in_ok-push_total.ensures)
    (five_pieces c.args.text.now.items (total_text (codes "total direct ") t.direct) (total_text (codes " kernel ") t.kernel)
    (total_text (codes " missed ") t.missed) (total_text (codes " detached ") t.detached) (10 ∷ []))
