-- The step completes, and its turn is counted.
use Rattle.bd_machine.proofs.EngineCounts.{turn_counted}
use Rattle.bd_machine.proofs.EngineWalks.{facts}
use Rattle.bd_turns.specs.declared.turn.Row.TheVariants.{Complete}
use Rattle.bd_turns.specs.State.{Completing}
use Rattle.bd_machine.proofs.parts.Parts.complete_one.Goals as goal

pub returns : goal.returns
returns g c =
    let w = c.requires.1.1.1 in
    turn_counted g.g c.args.self.now c.complete.new.self c.count_turn.new.self c.args.q Complete w.at
    (facts g.g c.args.self.now c.args.q Completing w).there c.complete.ensures c.count_turn.ensures
