use Rattle.std.proofs.Common.{rules, arith}
use Rattle.std.proofs.lemmas.List.{with_items_is}
use Rattle.bd_extents.proofs.Marks.{below-within, free_in-remove}
use Rattle.bd_extents.proofs.free_set.FreeSet.take_mark.Goals as goal

pub unmark-requires : goal.unmark-requires
unmark-requires c =
    rw (c.get.ensures.value, c.deref_mut.ensures.value)
    (below-within c.args.self.now c.self.inside.total c.self.inside.words.items c.self.inside.first_word c.args.block
    c.self.view_is c.self.invariant c.requires)

pub returns : goal.returns
returns c =
    rw (with_items_is c.self.inside.words c.unmark.new.words (search rules))
    (free_in-remove c.args.self.now c.self.inside.total c.args.block c.self.inside.words.items c.unmark.new.words
    c.self.view_is (rw (← c.get.ensures.value, ← c.deref_mut.ensures.value) c.unmark.ensures))
