-- The turn Move was taken, or nothing changed.
use Rattle.std.proofs.Common.{refl, sym, ap, ◌∙◌, subst}
use Rattle.std.specs.Prelude.{IsSome}
use Rattle.bd_machine.specs.Asked.{engine_of}
use Rattle.bd_machine.specs.Kept.{IsKept}
use Rattle.bd_machine.proofs.MachineAsks.{in_phase_inside, of_result, on_err, on_ok, same_state, took_row, within}
use Rattle.bd_machine.proofs.EngineMoves.{told_there}
use Rattle.bd_tables.specs.State.{told_of}
use Rattle.bd_turns.specs.State.{Moving}
use Rattle.bd_turns.specs.declared.turn.Row.TheVariants.{Move}
use Rattle.bd_turns.specs.Turns.{after_turn}
use Rattle.bd_machine.proofs.machine.Machine.move_direct.Goals as goal

pub unwrap-block-requires : goal.unwrap-block-requires
unwrap-block-requires g c =
    let r = c.requires.1.1.1 in
    let w = r.0 in
    let walk = r.1.1 in
    let there =
    told_there (record { script = c.self.inside.script; state = g.m }) c.self.inside.parts c.args.q
    (in_phase_inside c.args.self.now c.self.inside.script c.self.inside.parts g.m c.self.view_is w.shown c.args.q Moving w.hand w.has w.entered) in
    subst IsSome (sym (c.told.ensures.told ∙ ap told_of (sym walk) ∙ there.1)) refl

pub invariant_of-self : goal.invariant_of-self
invariant_of-self g c =
    let w = c.requires.1.1.1.0 in
    let x = c.args.self.now in
    let script = c.self.inside.script in
    let parts = c.self.inside.parts in
    of_result {C = IsKept g.T.Tables script c.move_direct-moved.new.self} c.move_direct-moved.result c.move_direct-moved.ensures.ok c.move_direct-moved.ensures.err
    (λ took. (
      after_turn g.m (engine_of x c.args.q),
      (took_row x script parts g.m c.self.view_is w.shown c.args.q
          (within x script parts g.m c.self.view_is w.shown c.args.q w.hand w.has) c.move_direct-moved.new.self Move took).shown,
    ))
    (λ stays. (g.m, (same_state x script parts g.m c.self.view_is w.shown c.move_direct-moved.new.self stays).shown))

pub returns-clause-ok : goal.returns-clause-ok
returns-clause-ok g c =
    let w = c.requires.1.1.1.0 in
    let x = c.args.self.now in
    let script = c.self.inside.script in
    let parts = c.self.inside.parts in
    on_ok c.move_direct-moved.result
    (took_row x script parts g.m c.self.view_is w.shown c.args.q
    (within x script parts g.m c.self.view_is w.shown c.args.q w.hand w.has) c.move_direct-moved.new.self Move) c.move_direct-moved.ensures.ok

pub returns-clause-err : goal.returns-clause-err
returns-clause-err g c =
    let w = c.requires.1.1.1.0 in
    on_err c.move_direct-moved.result
    (same_state c.args.self.now c.self.inside.script c.self.inside.parts g.m c.self.view_is w.shown c.move_direct-moved.new.self)
    c.move_direct-moved.ensures.err
