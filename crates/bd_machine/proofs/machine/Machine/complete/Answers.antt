-- The turn Complete was taken.
use Rattle.bd_machine.specs.Asked.{engine_of}
use Rattle.bd_machine.proofs.MachineAsks.{took_row_of}
use Rattle.bd_turns.specs.declared.turn.Row.TheVariants.{Complete}
use Rattle.bd_turns.specs.Turns.{after_turn}
use Rattle.bd_machine.proofs.machine.Machine.complete.Goals as goal

pub invariant_of-self : goal.invariant_of-self
invariant_of-self g c =
    let w = c.requires.1.1.1.0 in (
      after_turn g.m (engine_of c.args.self.now c.args.q),
      (took_row_of c.args.self.now c.self.inside.script c.self.inside.parts g.m c.self.view_is w.shown c.args.q w.hand w.has
          c.complete_one.new.self Complete c.complete_one.ensures).shown,
    )

pub returns-clause-took : goal.returns-clause-took
returns-clause-took g c =
    let w = c.requires.1.1.1.0 in
    took_row_of c.args.self.now c.self.inside.script c.self.inside.parts g.m c.self.view_is w.shown c.args.q w.hand w.has
    c.complete_one.new.self Complete c.complete_one.ensures
