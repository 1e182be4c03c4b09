use Rattle.bd_machine.specs.Machine.{shown}
use Rattle.bd_machine.proofs.CourseTurns.{item_fits, item_goes_on}
use Rattle.bd_machine.proofs.course.take_turns.Goals as goal

pub take_turn-requires : goal.take_turn-requires
take_turn-requires g c =
    item_fits g.g c.args.item c.loop-turn._turn (shown c.loop-turn.machine) c.requires.0 c.loop-turn-test.true
    c.loop-turn.invariant

pub loop-turn-preserved : goal.loop-turn-preserved
loop-turn-preserved g c =
    item_goes_on g.g c.args.item c.loop-turn._turn (shown c.loop-turn.machine) (shown c.take_turn.new.machine) c.requires.0
    c.loop-turn-test.true c.loop-turn.invariant c.in_ok-take_turn.ensures
