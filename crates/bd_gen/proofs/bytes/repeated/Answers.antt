use Rattle.std.proofs.Common.{sym, ◌∙◌}
use Rattle.bd_gen.proofs.RepeatedBytes.{repeated-is}
use Rattle.bd_gen.proofs.bytes.repeated.Goals as goal

pub returns : goal.returns
returns c =
    c.from_vec.ensures ∙ c.in_ok-vec.ensures.items_if_clones_equal (λ y e. e) ∙ sym (repeated-is c.args.count c.args.byte)
