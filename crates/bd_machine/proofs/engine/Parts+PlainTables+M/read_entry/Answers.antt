use Rattle.std.proofs.Common.{refl}
use Rattle.bd_machine.specs.declared.process.Phase.TheVariants.{Reading}
use Rattle.bd_turns.specs.State as turns
use Rattle.bd_machine.proofs.EngineLooks.{keeps_pass, lent_aside, reading_entered, reads_on}
use Rattle.bd_machine.proofs.engine.Parts+PlainTables+M.read_entry.Goals as goal

pub pass-pass-requires : goal.pass-pass-requires
pass-pass-requires g c = keeps_pass g.g c.args.self.now c.args.q Reading c.requires.1.1 refl

pub read_entry-pass-requires-clause-is_of : goal.read_entry-pass-requires-clause-is_of
read_entry-pass-requires-clause-is_of g c =
    lent_aside g.g c.args.self.now c.pass-pass.new.self c.args.q Reading c.requires.1.1 refl c.pass-pass.result
    (c.pass-pass.ensures c.requires.1.1.it c.requires.1.1.there)

pub read_entry-pass-requires-clause-entered : goal.read_entry-pass-requires-clause-entered
read_entry-pass-requires-clause-entered g c =
    reading_entered g.g c.args.self.now c.pass-pass.new.self c.args.q c.requires.1.1 c.pass-pass.result
    (c.pass-pass.ensures c.requires.1.1.it c.requires.1.1.there)

pub returns : goal.returns
returns g c =
    let aside = c.pass-pass.ensures c.requires.1.1.it c.requires.1.1.there in
    reads_on g.g c.args.self.now c.pass-pass.new.self c.goes_on.new.self c.args.q c.requires.1.1 c.pass-pass.result c.read_entry-pass.result.0
    c.read_entry-pass.result.1 c.found_of-found.result c.phase_after.result c.read_entry-pass.new.self
    (record {
      pass_was = aside.0;
      aside = aside.1;
      answer_is = c.read_entry-pass.ensures.answer;
      tables_are = c.read_entry-pass.ensures.tables;
      places = c.read_entry-pass.ensures.places;
      process_is = c.read_entry-pass.ensures.given_back.same_process;
      lent = c.read_entry-pass.ensures.given_back.ours;
      found_is = c.found_of-found.ensures;
      phase_is = c.phase_after.ensures turns.Filling refl;
      again = c.goes_on.ensures _ aside.1.mine;
    })
