use Rattle.std.proofs.Common.{refl}
use Rattle.bd_machine.specs.declared.process.Phase.TheVariants.{Filling}
use Rattle.bd_machine.proofs.EngineLooks.{keeps_pass, lent_aside, filling_translated, fills_on}
use Rattle.bd_machine.proofs.engine.Parts+PlainTables+M.fill.Goals as goal

pub pass-pass-requires : goal.pass-pass-requires
pass-pass-requires g c = keeps_pass g.g c.args.self.now c.args.q Filling c.requires.1.1 refl

pub fill-pass-requires-clause-is_of : goal.fill-pass-requires-clause-is_of
fill-pass-requires-clause-is_of g c =
    lent_aside g.g c.args.self.now c.pass-pass.new.self c.args.q Filling c.requires.1.1 refl c.pass-pass.result
    (c.pass-pass.ensures c.requires.1.1.it c.requires.1.1.there)

pub fill-pass-requires-clause-translated : goal.fill-pass-requires-clause-translated
fill-pass-requires-clause-translated g c =
    filling_translated g.g c.args.self.now c.pass-pass.new.self c.args.q c.requires.1.1 c.pass-pass.result
    (c.pass-pass.ensures c.requires.1.1.it c.requires.1.1.there)

pub returns : goal.returns
returns g c =
    let aside = c.pass-pass.ensures c.requires.1.1.it c.requires.1.1.there in
    fills_on g.g c.args.self.now c.pass-pass.new.self c.goes_on.new.self c.args.q c.requires.1.1 c.pass-pass.result c.fill-pass.result c.fill-pass.new.self
    (record {
      pass_was = aside.0;
      aside = aside.1;
      tables_are = c.fill-pass.ensures.tables;
      places = c.fill-pass.ensures.places;
      process_is = c.fill-pass.ensures.given_back.same_process;
      lent = c.fill-pass.ensures.given_back.ours;
      again = c.goes_on.ensures _ aside.1.mine;
    })
