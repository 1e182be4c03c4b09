-- The walk has come to its end.
use Rattle.bd_tables.proofs.Answers.{look-entered, look-translated, translated-answered}
use Rattle.bd_tables.proofs.tests.look_up.Goals as goal

pub read_and_fill-requires-clause-entered : goal.read_and_fill-requires-clause-entered
read_and_fill-requires-clause-entered g c = look-entered _ _ _ c.requires.entered c.look-pass.ensures.walked c.in-Miss.is

pub returns-in-Hit-clause-answered : goal.returns-in-Hit-clause-answered
returns-in-Hit-clause-answered g c =
    translated-answered _ (look-translated _ _ _ c.requires.entered c.look-pass.ensures.walked c.in-Hit.is)
