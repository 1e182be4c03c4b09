use Rattle.std.proofs.Common.{arith}
use Rattle.bd_extents.proofs.Marks.{no_mark_at_end, lowest_mark-found}
use Rattle.bd_extents.proofs.bitmap.lowest_mark.Goals as goal

pub returns-then-index-words : goal.returns-then-index-words
returns-then-index-words c =
    let found = lowest_mark-found c.args.words.now c.first_marked_word-index.result
    (c.first_marked_word-index.ensures.marked c.if-index-words.true)
    (omega (arith, c.type_inv.words c.first_marked_word-index.result)) c.first_marked_word-index.ensures.none_before in
    record { lowest = found.lowest; within = omega (arith, found.within) }

pub returns-else-index-words : goal.returns-else-index-words
returns-else-index-words c = record {
  lowest = no_mark_at_end c.args.words.now c.first_marked_word-index.result c.if-index-words.false
      c.first_marked_word-index.ensures.none_before;
  within = tt;
}
