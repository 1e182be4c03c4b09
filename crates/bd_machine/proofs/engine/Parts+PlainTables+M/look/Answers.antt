use Rattle.std.proofs.Common.{refl}
use Rattle.bd_machine.specs.declared.process.Phase.TheVariants.{Looking}
use Rattle.bd_machine.proofs.EngineLooks.{keeps_pass, lent_aside, looking_entered, looks_on}
use Rattle.bd_machine.proofs.engine.Parts+PlainTables+M.look.Goals as goal

pub pass-pass-requires : goal.pass-pass-requires
pass-pass-requires g c = keeps_pass g.g c.args.self.now c.args.q Looking c.requires.1.1 refl

pub look-pass-requires-clause-is_of : goal.look-pass-requires-clause-is_of
look-pass-requires-clause-is_of g c =
    lent_aside g.g c.args.self.now c.pass-pass.new.self c.args.q Looking c.requires.1.1 refl c.pass-pass.result
    (c.pass-pass.ensures c.requires.1.1.it c.requires.1.1.there)

pub look-pass-requires-clause-entered : goal.look-pass-requires-clause-entered
look-pass-requires-clause-entered g c =
    looking_entered g.g c.args.self.now c.pass-pass.new.self c.args.q c.requires.1.1 c.pass-pass.result
    (c.pass-pass.ensures c.requires.1.1.it c.requires.1.1.there)

pub returns : goal.returns
returns g c =
    let aside = c.pass-pass.ensures c.requires.1.1.it c.requires.1.1.there in
    looks_on g.g c.args.self.now c.pass-pass.new.self c.goes_on.new.self c.args.q c.requires.1.1 c.pass-pass.result c.look-pass.result.0
    c.look-pass.result.1 c.phase_looked.result c.look-pass.new.self _
    (record {
      pass_was = aside.0;
      aside = aside.1;
      answer_is = c.look-pass.ensures.answer;
      look_is = λ progress number request. refl;
      tables_are = c.look-pass.ensures.tables;
      places = c.look-pass.ensures.places;
      process_is = c.look-pass.ensures.given_back.same_process;
      lent = c.look-pass.ensures.given_back.ours;
      phase_is = c.phase_looked.ensures;
      again = c.goes_on.ensures _ aside.1.mine;
    })
