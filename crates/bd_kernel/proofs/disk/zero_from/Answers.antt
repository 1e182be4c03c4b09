use Rattle.std.proofs.Common.{◌-◌, ◌≤◌, ◌∙◌, ap, ℕ, take, replicate, arith}
use Rattle.std.proofs.lemmas.List.{take-replicate}
use Rattle.bd_base.specs.declared.limits.TheConstants.{BLOCK_SIZE}
use Rattle.bd_kernel.proofs.DiskBytes.{put-zeros}
use Rattle.bd_kernel.proofs.disk.zero_from.Goals as goal

pub returns-in-Some-clause-bytes : goal.returns-in-Some-clause-bytes
returns-in-Some-clause-bytes g c =
    let within : c.in-Some.rest.hi - c.in-Some.rest.lo ≤ BLOCK_SIZE = omega arith in
    c.move_in.ensures.bytes
    ∙ put-zeros _ _ c.args.block c.args.from c.in-Some.rest c.in-Some.ensures.value.0 c.in-Some.ensures.value.1
    (ap (λ (n : ℕ). take n (replicate BLOCK_SIZE 0)) c.count.ensures.count ∙ take-replicate _ BLOCK_SIZE 0 within)
