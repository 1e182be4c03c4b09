use Rattle.std.proofs.Common.{◌≡◌, ℕ, Option, Some, sym, subst, ◌∙◌, arith}
use Rattle.bd_blocks.proofs.Spellings.{optional-field}
use Rattle.bd_entry.specs.Ranges.{IsOptional}
use Rattle.bd_entry.proofs.read.fields.read_optional.Goals as goal

pub returns-then-number-end : goal.returns-then-number-end
returns-then-number-end c = λ o is same.
    let number : Option ℕ = Some c.in_ok-number.number in
    let equal : number ≡ o = optional-field.line.injective number o tt tt (sym c.in_ok-number.ensures.1 ∙ same) in
    let below : IsOptional c.args.end number = subst (IsOptional c.args.end) (sym equal) is in
    absurd (omega (arith, below, c.if-number-end.true))
