use Rattle.std.proofs.Common.{◌+◌, length, sym, subst}
use Rattle.bd_machine.specs.Shows.{plain_sides}
use Rattle.bd_machine.specs.Turns.{TookTurn}
use Rattle.bd_turns.specs.declared.turn.Turn.{Turn}
use Rattle.bd_machine.proofs.EngineTurns.{turn_idle, turn_taken}
use Rattle.bd_machine.proofs.engine.Parts+PlainTables+M.engine_turn.Goals as goal

pub returns-in-None-clause-ok : goal.returns-in-None-clause-ok
returns-in-None-clause-ok g c =
    let r = c.requires.1.1.1.1.1 in
    turn_idle _ c.args.self.now c.take_step.new.self c.args.q r.0 r.1.0 (rw c.in-None.is at c.in_ok-take_step.ensures.ok)

pub returns-clause-ok : goal.returns-clause-ok
returns-clause-ok g c =
    let r = c.requires.1.1.1.1.1 in
    let taken =
    turn_taken _ c.args.self.now c.take_step.new.self c.end_turn.new.self c.args.q c.engine-actor.result c.in-Some.row r.0 r.1.0
    (rw c.in-Some.is at c.in_ok-take_step.ensures.ok) c.engine-actor.ensures c.end_turn.ensures.ends in
    subst
    (λ (turn : Turn). TookTurn plain_sides c.args.script.now c.args.self.now c.end_turn.new.self g.m (length c.args.script.now.processes + c.args.q) turn)
    (sym c.end_turn.ensures.answer) taken
