use Rattle.std.proofs.Common.{◌∙◌}
use Rattle.bd_fs.proofs.fs.Fs.lookup.Goals as goal

pub returns : goal.returns
returns c =
    c.copied.ensures ∙ c.get.ensures.value
    ∙ rw (c.as_slice.ensures, ← c.self.view_is) (c.self.invariant.named c.args.name.now)
