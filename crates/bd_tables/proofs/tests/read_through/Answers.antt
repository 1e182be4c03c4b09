-- The walk has come to its end.
use Rattle.std.proofs.Common.{sym, subst}
use Rattle.bd_tables.specs.Answers.{IsAnswered}
use Rattle.bd_tables.proofs.Answers.{read-refused, read-translated, translated-answered}
use Rattle.bd_tables.proofs.tests.read_through.Goals as goal

pub fill-requires-clause-translated : goal.fill-requires-clause-translated
fill-requires-clause-translated g c = read-translated _ _ _ c.requires.entered c.read_entry-pass.ensures.walked c.in-Granted.is

pub returns-in-Granted-clause-answered : goal.returns-in-Granted-clause-answered
returns-in-Granted-clause-answered g c =
    subst IsAnswered (sym c.fill.ensures.walked)
    (translated-answered _ (read-translated _ _ _ c.requires.entered c.read_entry-pass.ensures.walked c.in-Granted.is))

pub returns-in-Missed-clause-answered : goal.returns-in-Missed-clause-answered
returns-in-Missed-clause-answered g c =
    read-refused _ _ _ c.in-Missed.found c.requires.entered c.read_entry-pass.ensures.walked c.in-Missed.is
