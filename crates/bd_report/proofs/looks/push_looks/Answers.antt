use Rattle.std.specs.Prelude.{codes}
use Rattle.std.proofs.Common.{◌≡◌, List, ℕ, [], ◌∷◌, ◌++◌, append_assoc}
use Rattle.bd_report.specs.Reports.{total_text}
use Rattle.bd_report.proofs.looks.push_looks.Goals as goal

three_pieces : (t a b c : List ℕ) → ((t ++ a) ++ b) ++ c ≡ t ++ ((a ++ b) ++ c)
three_pieces t a b c = simp append_assoc

pub returns : goal.returns
returns c =
    let looks = c.args.looks in
    rw (c.in_ok-push.ensures.items, c.in_ok-push_total-2.ensures, c.in_ok-push_total.ensures)
    (three_pieces c.args.text.now.items (total_text (codes "cache hits ") looks.hits)
    (total_text (codes " misses ") looks.misses) (10 ∷ []))
