use Rattle.bd_extents.proofs.Marks.{IsBitmap-from}
use Rattle.bd_extents.proofs.free_set.FreeSet.skip_empty_words.Goals as goal

pub invariant_of-self : goal.invariant_of-self
invariant_of-self c =
    IsBitmap-from c.self.inside.total c.self.inside.words.items c.self.inside.first_word c.first_marked_word-self-inside.result
    c.self.invariant (rw c.deref.ensures.value at c.first_marked_word-self-inside.ensures.none_before)
