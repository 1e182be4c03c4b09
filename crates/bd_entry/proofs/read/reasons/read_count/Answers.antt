use Rattle.std.proofs.Common.{◌≡◌, ◌≤◌, arith, sym, ◌∙◌}
use Rattle.bd_blocks.proofs.NumberTexts.{number-injective}
use Rattle.bd_blocks.specs.Texts.{number_text}
use Rattle.bd_entry.proofs.read.reasons.read_count.Goals as goal

pub returns-then-number-eq0 : goal.returns-then-number-eq0
returns-then-number-eq0 c = λ m within same.
    let in_range : c.in_ok-number.number ≤ c.args.most = c.in_ok-number.ensures.0 in
    let spelled : c.args.text.now ≡ number_text c.in_ok-number.number = c.in_ok-number.ensures.1 in
    let equal : m ≡ c.in_ok-number.number = number-injective m c.in_ok-number.number (sym same ∙ spelled) in
    absurd (omega (arith, c.if-number-eq0.true))
