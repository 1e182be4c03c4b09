-- A command was taken, or there was none; the state stays.
use Rattle.std.proofs.Common.{◌<◌, length, None, sym, subst}
use Rattle.bd_machine.specs.Asked.{IsToldOfHand}
use Rattle.bd_machine.specs.Whole.{Whole}
use Rattle.bd_machine.proofs.MachineAsks.{at_inside, no_hand_told, same_state, taken_stays}
use Rattle.bd_machine.proofs.ProcessorBegins.{element_there, process_there}
use Rattle.bd_machine.proofs.machine.Machine.take.Goals as goal

pub take-requires : goal.take-requires
take-requires g c =
    let r = c.requires.1.1.1 in
    let at = at_inside c.args.self.now c.self.inside.script c.self.inside.parts g.m c.self.view_is r.1.0 in
    let within = subst (λ (w : Whole _ _ _). c.args.q < length w.script.processes) (sym c.self.view_is) r.0 in
    let there = element_there c.self.inside.parts c.args.q (process_there c.self.inside.script c.self.inside.parts g.m c.args.q at.shows within) in
    record { it = there.0; there = there.1 }

pub invariant_of-self : goal.invariant_of-self
invariant_of-self g c =
    let r = c.requires.1.1.1 in
    let x = c.args.self.now in
    let script = c.self.inside.script in
    let parts = c.self.inside.parts in
    let at = at_inside x script parts g.m c.self.view_is r.1.0 in
    let within = subst (λ (w : Whole _ _ _). c.args.q < length w.script.processes) (sym c.self.view_is) r.0 in
    let there = element_there parts c.args.q (process_there script parts g.m c.args.q at.shows within) in
    let told = subst (λ (w : Whole _ _ _). IsToldOfHand w c.args.q None) (sym c.self.view_is) r.1.1 in
    let free = no_hand_told c.args.q there.0.hand (told there.0 there.1) in (
      g.m,
      (same_state x script parts g.m c.self.view_is r.1.0 c.take.new.self
          (taken_stays x script parts g.m c.self.view_is r.1.0 c.args.q there.0 there.1 free c.take.new.self c.take.result
          (c.take.ensures there.0 there.1))).shown,
    )

pub returns-clause-same : goal.returns-clause-same
returns-clause-same g c =
    let r = c.requires.1.1.1 in
    let x = c.args.self.now in
    let script = c.self.inside.script in
    let parts = c.self.inside.parts in
    let at = at_inside x script parts g.m c.self.view_is r.1.0 in
    let within = subst (λ (w : Whole _ _ _). c.args.q < length w.script.processes) (sym c.self.view_is) r.0 in
    let there = element_there parts c.args.q (process_there script parts g.m c.args.q at.shows within) in
    let told = subst (λ (w : Whole _ _ _). IsToldOfHand w c.args.q None) (sym c.self.view_is) r.1.1 in
    let free = no_hand_told c.args.q there.0.hand (told there.0 there.1) in
    same_state x script parts g.m c.self.view_is r.1.0 c.take.new.self
    (taken_stays x script parts g.m c.self.view_is r.1.0 c.args.q there.0 there.1 free c.take.new.self c.take.result
    (c.take.ensures there.0 there.1))
