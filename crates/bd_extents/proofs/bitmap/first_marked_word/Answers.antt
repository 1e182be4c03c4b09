use Rattle.std.proofs.Common.{arith}
use Rattle.bd_extents.proofs.Marks.{no_mark_more, no_mark_at_end}
use Rattle.bd_extents.proofs.bitmap.first_marked_word.Goals as goal

pub loop-index-preserved : goal.loop-index-preserved
loop-index-preserved c = no_mark_more c.args.words.now c.loop-index.index (omega arith) c.loop-index.invariant

pub returns-clause-none_before : goal.returns-clause-none_before
returns-clause-none_before c =
    λ n _. no_mark_at_end c.args.words.now c.loop-index.index c.loop-index-test.false c.loop-index.invariant n
