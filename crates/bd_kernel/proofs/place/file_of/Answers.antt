use Rattle.std.proofs.Common.{inl, inr}
use Rattle.bd_kernel.proofs.place.file_of.Goals as goal

pub returns-in-Enter : goal.returns-in-Enter
returns-in-Enter c = λ uids bytes work number before opens.
    elim c.in-Enter.is [
      | inl w ↦ rw w.2 c.lookup.ensures
      | inr w ↦ rw w c.lookup.ensures
    ]
