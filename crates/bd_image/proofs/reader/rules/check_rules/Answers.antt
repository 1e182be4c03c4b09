use Rattle.std.proofs.Common.{◌≡◌, ◌+◌, ℕ, get_or, ap, sym, subst, arith}
use Rattle.bd_image.specs.Refusals.{ObeysBelow}
use Rattle.bd_image.specs.Rules.{Length, Rule, rule_number}
use Rattle.bd_image.specs.declared.rule.TheConstants.{RULES}
use Rattle.bd_image.proofs.RuleOrder.{all_met, below_first, met, number-at, refused}
use Rattle.bd_image.proofs.reader.rules.check_rules.Goals as goal

pub loop-rule-init : goal.loop-rule-init
loop-rule-init c = below_first c.args.bytes.now

pub first_break-requires : goal.first_break-requires
first_break-requires c =
    subst (ObeysBelow c.args.bytes.now) (sym (number-at c.loop-rule.rule-index c.loop-rule-test.true)) c.loop-rule.invariant

pub loop-rule-preserved : goal.loop-rule-preserved
loop-rule-preserved c =
    let i : ℕ = c.loop-rule.rule-index in
    let number : rule_number (get_or RULES i Length) ≡ i + 1 = number-at i c.loop-rule-test.true in
    subst (ObeysBelow c.args.bytes.now) (ap (λ (n : ℕ). n + 1) number)
    (met c.args.bytes.now (get_or RULES i Length) (subst (ObeysBelow c.args.bytes.now) (sym number) c.loop-rule.invariant)
    (rw c.in_default.is at c.in_ok-place.ensures))

pub returns-in-Some-clause-err : goal.returns-in-Some-clause-err
returns-in-Some-clause-err c =
    let i : ℕ = c.loop-rule.rule-index in
    let number : rule_number (get_or RULES i Length) ≡ i + 1 = number-at i c.loop-rule-test.true in
    rw c.number.ensures
    (refused c.args.bytes.now (get_or RULES i Length) c.in-Some.place
    (subst (ObeysBelow c.args.bytes.now) (sym number) c.loop-rule.invariant)
    (rw c.in-Some.is at c.in_ok-place.ensures))

pub returns-clause-ok : goal.returns-clause-ok
returns-clause-ok c =
    all_met c.args.bytes.now (λ q less. c.loop-rule.invariant q (omega (arith, less, c.loop-rule-test.false)))
