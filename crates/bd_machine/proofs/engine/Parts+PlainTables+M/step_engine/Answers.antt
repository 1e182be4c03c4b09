use Rattle.std.proofs.Common.{◌≡◌, refl}
use Rattle.bd_machine.specs.Shows.{plain_sides}
use Rattle.bd_machine.specs.Turns.{Sight, StaysAt}
use Rattle.bd_turns.specs.Turns.{Nothing, engine_outcome}
use Rattle.bd_machine.proofs.EngineTakings.{nothing_to_do}
use Rattle.bd_machine.proofs.EngineTurns.{turn_idle}
use Rattle.bd_machine.proofs.ProcessorBegins.{element_there, process_there}
use Rattle.bd_machine.proofs.engine.Parts+PlainTables+M.step_engine.Goals as goal

pub has_no_command-requires : goal.has_no_command-requires
has_no_command-requires g c =
    process_there c.args.script.now c.args.self.now g.m c.args.q c.requires.1.0.shows c.requires.1.1

pub returns-then-has_no_command-clause-ok : goal.returns-then-has_no_command-clause-ok
returns-then-has_no_command-clause-ok g c =
    let x = c.args.self.now in
    let script = c.args.script.now in
    let q = c.args.q in
    let there = element_there x q (process_there script x g.m q c.requires.1.0.shows c.requires.1.1) in
    let none = c.has_no_command.ensures c.if-has_no_command.true there.0 there.1 in
    let sight : Sight = record { script = script; state = g.m } in
    let stays : StaysAt plain_sides script x x g.m = record { shows = c.requires.1.0.shows; events = refl; turns = refl } in
    let idle : (engine_outcome g.m q ≡ Nothing) × StaysAt plain_sides script x x g.m =
    (nothing_to_do sight x q there.0 c.requires.1.0 there.1 none.0 none.1, stays) in
    turn_idle sight x x q c.requires.1.0 c.requires.1.1 idle
