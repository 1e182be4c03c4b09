use Rattle.std.proofs.Common.{◌≡◌, ◌<◌, ℕ, sym, ◌∙◌, arith}
use Rattle.std.proofs.lemmas.Option.{same_Some}
use Rattle.bd_base.specs.declared.limits.TheConstants.{BLOCKS}
use Rattle.bd_base.proofs.Lists.{wrapped}
use Rattle.bd_fs.proofs.Loading.{DataBelow-all, DataBelow-more, DataBelow-none, DataBelow-not_free}
use Rattle.bd_fs.proofs.fs.load.data_blocks.Goals as goal

pub loop-number-init : goal.loop-number-init
loop-number-init c =
    rw c.data_start-number.ensures (DataBelow-none c.args.total c.args.capacity c.in_ok-free.free c.in_ok-free.ensures)

pub loop-number-preserved : goal.loop-number-preserved
loop-number-preserved c =
    let number : ℕ = c.loop-number.number in
    let below : number < c.args.total = omega (arith, c.loop-number-test.true, c.from-number-end.ensures) in
    let small : number < BLOCKS = omega (arith, c.requires) in
    let block_is : c.unwrap-block.result ≡ number =
    same_Some c.unwrap-block.result number
    (sym c.unwrap-block.ensures ∙ wrapped c.new-in-loop-number.result _ number c.new-in-loop-number.ensures small) in
    DataBelow-more c.args.total c.args.capacity c.loop-number.free c.give_back.new.self number c.loop-number.invariant
    (rw c.data_start-number.ensures at c.loop-number.auto.number) below (rw block_is at c.give_back.ensures)
