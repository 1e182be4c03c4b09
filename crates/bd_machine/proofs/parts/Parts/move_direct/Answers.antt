-- The step moves, and its turn is counted.
use Rattle.bd_machine.proofs.EngineAsks.{from_log, in_phase_log}
use Rattle.bd_machine.proofs.EngineCounts.{turn_counted}
use Rattle.bd_machine.proofs.EngineWalks.{facts}
use Rattle.bd_turns.specs.declared.turn.Row.TheVariants.{Move}
use Rattle.bd_turns.specs.State.{Moving}
use Rattle.bd_machine.proofs.parts.Parts.move_direct.Goals as goal

pub move_in_hand-requires : goal.move_in_hand-requires
move_in_hand-requires g c =
    let r = c.requires.1.1.1 in
    let same = c.in_ok-reserve.ensures in
    λ κs within. (
      within.0,
      (
        within.1.0,
        (
          within.1.1,
          record {
            engine = in_phase_log (record { script = c.args.script.now; state = g.m }) c.args.self.now c.args.q Moving c.reserve.new.self same.same r.0;
            completion = r.1.completion;
            told = r.1.told;
            block_is = r.1.block_is;
            room = same.room;
          },
        ),
      ),
    )

pub returns-clause-ok : goal.returns-clause-ok
returns-clause-ok g c =
    let r = c.requires.1.1.1 in
    let same = c.in_ok-reserve.ensures in
    let x = record c.args.self.now { log = c.reserve.new.self } in
    let w = in_phase_log (record { script = c.args.script.now; state = g.m }) c.args.self.now c.args.q Moving c.reserve.new.self same.same r.0 in
    from_log c.args.script.now c.args.self.now c.count_turn.new.self g.m c.args.q Move c.reserve.new.self same.same
    (turn_counted _ x c.move_in_hand.new.self c.count_turn.new.self c.args.q Move w.at
    (facts _ x c.args.q Moving w).there c.in_ok-move_in_hand.ensures.ok c.count_turn.ensures)
