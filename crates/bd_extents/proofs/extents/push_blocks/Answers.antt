use Rattle.std.proofs.Common.{◌≡◌, ℕ, ◌+◌, ◌-◌, ◌∷◌, [], ◌++◌, arith, ap, ◌∙◌}
use Rattle.std.proofs.lemmas.Grind.{common_steps}
use Rattle.std.specs.List.{range_with_len}
use Rattle.bd_base.proofs.Ranges.{range_with_len-push}
use Rattle.bd_extents.proofs.extents.push_blocks.Goals as goal

pub loop-number-preserved : goal.loop-number-preserved
loop-number-preserved c =
    let start : ℕ = c.args.extent.start in
    let done : ℕ = c.loop-number.number - start in
    let more : c.loop-number.number + 1 - start ≡ done + 1 = omega arith in
    let last : start + done ≡ c.loop-number.number = omega arith in
    let pushed = range_with_len-push start done in
    grind (arith, common_steps, pushed)
