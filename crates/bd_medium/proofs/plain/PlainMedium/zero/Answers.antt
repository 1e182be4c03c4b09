-- What `put` ensures is the goal, at the number that the block has.
use Rattle.std.proofs.Common.{◌≡◌, ℕ, ◌*◌, replicate, subst}
use Rattle.bd_medium.specs.Contents.{with_bytes}
use Rattle.bd_medium.proofs.plain.PlainMedium.zero.Goals as goal

pub returns-clause-bytes : goal.returns-clause-bytes
returns-clause-bytes c =
    let Zeroed : ℕ → Type 0 = λ b. c.put.new.self ≡ with_bytes c.args.self.now (4096 * b) (replicate 4096 0) in
    subst Zeroed c.get.ensures.value c.put.ensures.bytes
