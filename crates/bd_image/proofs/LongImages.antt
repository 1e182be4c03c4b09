-- An image that is too long breaks the first rule, one byte past the limit.
use Rattle.std.proofs.Common.{◌≡◌, ℕ, ◌+◌, ◌<◌, min, List, length, arith}
use Rattle.bd_base.specs.declared.limits.TheConstants.{IMAGE_SIZE}
use Rattle.bd_image.specs.Rules.{Broken, Length, rule_number}
use Rattle.bd_image.proofs.RuleOrder.{below_first, refused}

pub too_long : (b : List ℕ) → IMAGE_SIZE < length b → Broken b (rule_number Length) (IMAGE_SIZE + 1)
too_long b long =
    let place : IMAGE_SIZE + 1 ≡ min (length b) (IMAGE_SIZE + 1) = omega arith in
    refused b Length (IMAGE_SIZE + 1) (below_first b) (record {
      breaks = (λ is. absurd (omega (arith, is.most)), place);
      least = λ p lt breaks. let at : p ≡ min (length b) (IMAGE_SIZE + 1) = breaks.1 in absurd (omega arith);
    })
