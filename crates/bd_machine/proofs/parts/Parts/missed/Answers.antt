-- What may be noted is, and its turn is counted.
use Rattle.std.proofs.Common.{refl, sym, ◌∙◌}
use Rattle.std.proofs.lemmas.Bool.{false≢true}
use Rattle.bd_machine.proofs.EngineAsks.{from_log, holder_there, in_phase_log}
use Rattle.bd_machine.proofs.EngineCounts.{turn_counted}
use Rattle.bd_machine.proofs.EngineWalks.{facts}
use Rattle.bd_turns.specs.declared.turn.Row.TheVariants.{Missed}
use Rattle.bd_turns.specs.State.{Missing}
use Rattle.bd_machine.proofs.parts.Parts.missed.Goals as goal

pub returns-then-not-may_note-clause-again : goal.returns-then-not-may_note-clause-again
returns-then-not-may_note-clause-again g c =
    (refl, λ hand has notes. false≢true (sym c.if-not-may_note.true ∙ (c.may_note.ensures hand has).1 notes), refl)

pub miss_in_hand-requires : goal.miss_in_hand-requires
miss_in_hand-requires g c =
    let r = c.requires.1.1.1 in
    let u = r.0 in
    let same = c.in_ok-reserve.ensures in
    let walks = r.1 u.hand u.has ((c.may_note.ensures u.hand u.has).0 c.if-not-may_note.false) in
    λ κs within. (
      within.0,
      (
        within.1.0,
        (
          within.1.1,
          record {
            engine = in_phase_log g.g c.args.self.now c.args.q Missing c.reserve.new.self same.same walks.0;
            found_is = walks.1;
            room = same.room;
          },
        ),
      ),
    )

pub count_turn-requires-clause-holder : goal.count_turn-requires-clause-holder
count_turn-requires-clause-holder g c =
    let r = c.requires.1.1.1 in
    let u = r.0 in
    let walks = r.1 u.hand u.has ((c.may_note.ensures u.hand u.has).0 c.if-not-may_note.false) in
    let x = record c.args.self.now { log = c.reserve.new.self } in
    holder_there g.g x c.miss_in_hand.new.self c.args.q Missed c.miss_in_hand.ensures (facts g.g c.args.self.now c.args.q Missing walks.0).there

pub returns-clause-noted : goal.returns-clause-noted
returns-clause-noted g c =
    let r = c.requires.1.1.1 in
    let u = r.0 in
    let same = c.in_ok-reserve.ensures in
    let walks = r.1 u.hand u.has ((c.may_note.ensures u.hand u.has).0 c.if-not-may_note.false) in
    let x = record c.args.self.now { log = c.reserve.new.self } in
    let w = in_phase_log g.g c.args.self.now c.args.q Missing c.reserve.new.self same.same walks.0 in
    λ hand has. (
      (c.may_note.ensures hand has).0 c.if-not-may_note.false,
      from_log g.g.script c.args.self.now c.count_turn.new.self g.g.state c.args.q Missed c.reserve.new.self same.same
          (turn_counted g.g x c.miss_in_hand.new.self c.count_turn.new.self c.args.q Missed w.at
          (facts g.g x c.args.q Missing w).there c.miss_in_hand.ensures c.count_turn.ensures),
    )
