use Rattle.std.proofs.Common.{◌∙◌, ap, subst, sym}
use Rattle.bd_machine.specs.Kept.{state_shown}
use Rattle.bd_machine.specs.Machine.{shown, state_of, stepped}
use Rattle.bd_machine.specs.Whole.{Whole}
use Rattle.bd_machine.proofs.ShowingMachine.{at_kept}
use Rattle.bd_machine.proofs.ShowingTurns.{next_progress, on_err, rest_lower, same_progress, stayed, stepped_to}
use Rattle.bd_turns.specs.Reached.{IsActor}
use Rattle.bd_turns.specs.Turns.{LowersRest, answer_of}
use Rattle.bd_machine.proofs.machine.calls.Machine+PlainTables+M.step.Goals as goal

pub step-requires : goal.step-requires
step-requires g c κs lent = (
  lent,
  (
    at_kept c.self.inside.script c.self.inside.parts c.self.invariant,
    subst (λ (w : Whole _ _ _). IsActor (state_of w) c.args.actor) (sym c.self.view_is) c.requires,
  ),
)

pub invariant_of-self : goal.invariant_of-self
invariant_of-self g c =
    (_, stayed c.self.inside.script c.self.inside.parts c.step.new.self c.self.invariant c.in_err-turn.ensures.err)

pub returns-in_err-turn-clause-err : goal.returns-in_err-turn-clause-err
returns-in_err-turn-clause-err g c =
    on_err c.from_residual.result _
    (same_progress c.self.inside.script c.self.inside.parts c.step.new.self c.self.invariant c.in_err-turn.ensures.err
    ∙ ap shown c.self.view_is)

pub invariant_of-self-2 : goal.invariant_of-self-2
invariant_of-self-2 g c = (
  _,
  stepped_to c.self.inside.script c.self.inside.parts c.step.new.self c.pass.new.self c.args.actor c.in_ok-turn.turn
      c.self.invariant (subst (λ (w : Whole _ _ _). IsActor (state_of w) c.args.actor) (sym c.self.view_is) c.requires)
      c.in_ok-turn.ensures.ok c.pass.ensures,
)

pub returns-clause-answer : goal.returns-clause-answer
returns-clause-answer g c =
    c.in_ok-turn.ensures.ok.answer ∙ ap (λ (w : Whole _ _ _). answer_of (state_of w) c.args.actor) c.self.view_is

pub returns-clause-ok : goal.returns-clause-ok
returns-clause-ok g c =
    next_progress c.self.inside.script c.self.inside.parts c.step.new.self c.pass.new.self c.args.actor c.in_ok-turn.turn
    c.self.invariant (subst (λ (w : Whole _ _ _). IsActor (state_of w) c.args.actor) (sym c.self.view_is) c.requires)
    c.in_ok-turn.ensures.ok c.pass.ensures
    ∙ ap (λ (w : Whole _ _ _). stepped (shown w) c.args.actor) c.self.view_is

pub returns-clause-rest : goal.returns-clause-rest
returns-clause-rest g c =
    subst (λ (w : Whole _ _ _). LowersRest c.in_ok-turn.turn (state_of w) (state_shown c.self.inside.script (record c.step.new.self { log = c.pass.new.self })))
    c.self.view_is
    (rest_lower c.self.inside.script c.self.inside.parts c.step.new.self c.pass.new.self c.args.actor c.in_ok-turn.turn
    c.self.invariant (subst (λ (w : Whole _ _ _). IsActor (state_of w) c.args.actor) (sym c.self.view_is) c.requires)
    c.in_ok-turn.ensures.ok c.pass.ensures)
