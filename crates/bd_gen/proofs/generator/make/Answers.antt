use Rattle.std.proofs.Common.{sym, subst}
use Rattle.bd_script.specs.Texts.{IsScript}
use Rattle.bd_gen.proofs.Readable.{IsScript-made_script}
use Rattle.bd_gen.proofs.generator.make.Goals as goal

pub returns-clause-readable : goal.returns-clause-readable
returns-clause-readable c = subst IsScript (sym c.in_ok-script.ensures) (IsScript-made_script c.args.n)
