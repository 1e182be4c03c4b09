use Rattle.std.proofs.Common.{refl, ◌∙◌}
use Rattle.bd_machine.specs.declared.process.Phase.TheVariants.{Retiring}
use Rattle.bd_machine.proofs.EngineLooks.{keeps_pass, lent_aside, retired, retires_on, retiring_answered}
use Rattle.bd_machine.proofs.engine.Parts+PlainTables+M.retire.Goals as goal

pub pass-pass-requires : goal.pass-pass-requires
pass-pass-requires g c = keeps_pass g.g c.args.self.now c.args.q Retiring c.requires.1.1 refl

pub retire-pass-requires-clause-is_of : goal.retire-pass-requires-clause-is_of
retire-pass-requires-clause-is_of g c =
    lent_aside g.g c.args.self.now c.pass-pass.new.self c.args.q Retiring c.requires.1.1 refl c.pass-pass.result
    (c.pass-pass.ensures c.requires.1.1.it c.requires.1.1.there)

pub retire-pass-requires-clause-answered : goal.retire-pass-requires-clause-answered
retire-pass-requires-clause-answered g c =
    retiring_answered g.g c.args.self.now c.pass-pass.new.self c.args.q c.requires.1.1 c.pass-pass.result
    (c.pass-pass.ensures c.requires.1.1.it c.requires.1.1.there)

pub returns : goal.returns
returns g c =
    let aside = c.pass-pass.ensures c.requires.1.1.it c.requires.1.1.there in
    let passes = retired g.g c.args.self.now c.pass-pass.new.self c.args.q c.requires.1.1 c.pass-pass.result c.retire-pass.result
    c.retire-pass.new.self c.take_back.new.self
    (record {
      pass_was = aside;
      process_is = c.retire-pass.ensures.given_back.same_process;
      places = c.retire-pass.ensures.places;
      back_is = c.take_back.ensures.places;
    }) in
    retires_on g.g c.args.self.now c.pass-pass.new.self c.comes_to.new.self c.args.q c.requires.1.1 c.pass-pass.result c.take_back.new.self
    (record {
      pass_was = aside.0;
      aside = aside.1;
      tables_are = c.take_back.ensures.tables ∙ c.retire-pass.ensures.tables;
      passes = passes.0;
      here = passes.1;
      again = c.comes_to.ensures _ aside.1.mine;
    })
