use Rattle.std.proofs.Common.{rules, arith, ap, sym, ◌∙◌}
use Rattle.std.proofs.lemmas.List.{with_items_is}
use Rattle.bd_extents.proofs.Marks.{free_in-insert}
use Rattle.bd_extents.proofs.free_set.FreeSet.give_back.Goals as goal

pub returns : goal.returns
returns c =
    rw (with_items_is c.self.inside.words c.mark.new.words (search rules))
    (free_in-insert c.args.self.now c.self.inside.total c.args.block c.self.inside.words.items c.mark.new.words
    c.self.view_is c.requires.below_total (rw (← c.get-number.ensures.value, ← c.deref_mut.ensures.value) c.mark.ensures))
