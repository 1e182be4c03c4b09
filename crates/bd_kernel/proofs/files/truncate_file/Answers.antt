use Rattle.std.proofs.Common.{sym, ◌∙◌}
use Rattle.bd_kernel.specs.Sights.{store_of}
use Rattle.bd_kernel.proofs.Acts.{truncation-grows}
use Rattle.bd_kernel.proofs.files.truncate_file.Goals as goal

pub returns-in-Some : goal.returns-in-Some
returns-in-Some c = λ rows uids bytes work p of.
    truncation-grows (store_of c.args.fs.now rows uids bytes work) p c.args.size c.args.file c.in-Some.act of
    (sym c.is_to_shrink.ensures ∙ c.if-is_to_shrink.false) (sym c.grow.ensures ∙ c.in-Some.is)
