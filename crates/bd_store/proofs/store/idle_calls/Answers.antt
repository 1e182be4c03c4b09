use Rattle.std.proofs.Common.{◌≡◌, ℕ, subst, arith}
use Rattle.bd_store.specs.Kept.{AreIdle}
use Rattle.bd_store.proofs.store.idle_calls.Goals as goal

pub returns : goal.returns
returns c =
    let all : c.loop-process._process ≡ c.args.processes = omega (arith, c.loop-process-test.false, c.loop-process.auto._process-end) in
    subst (λ (n : ℕ). AreIdle n c.loop-process.calls.items) all c.loop-process.invariant
