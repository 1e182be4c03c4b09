-- The turn Missed was taken, or nothing changed.
use Rattle.std.proofs.Common.{◌≡◌, Some, sym, ap, ◌∙◌, subst}
use Rattle.std.proofs.lemmas.Option.{same_Some}
use Rattle.bd_base.specs.declared.journal.Found.{Found}
use Rattle.bd_machine.specs.declared.process.Hand.{Hand}
use Rattle.bd_machine.specs.Engines.{MayNoteAt}
use Rattle.bd_machine.specs.Shows.{Shows}
use Rattle.bd_machine.specs.Turns.{IsAt}
use Rattle.bd_tables.specs.State.{found_of}
use Rattle.bd_machine.specs.Asked.{engine_of}
use Rattle.bd_machine.specs.Kept.{IsKept}
use Rattle.bd_machine.proofs.EngineMisses.{may_note_found}
use Rattle.bd_machine.proofs.MachineAsks.{at_inside, at_own, has_inside, in_phase_own, of_fell, on_again, on_err, on_noted, one_hand, same_state, stays_own, took_row_of}
use Rattle.bd_turns.specs.declared.turn.Row.TheVariants.{Missed}
use Rattle.bd_turns.specs.Turns.{after_turn}
use Rattle.bd_machine.proofs.machine.Machine.missed.Goals as goal

pub missed-fell-requires : goal.missed-fell-requires
missed-fell-requires g c κs outlives =
    let r = c.requires.1.1.1 in
    let w = r.0 in
    let x = c.args.self.now in
    let script = c.self.inside.script in
    let parts = c.self.inside.parts in
    let m = g.g.state in
    let at = at_inside x script parts m c.self.view_is w.shown in
    let has = has_inside x script parts m c.self.view_is w.shown c.args.q g.g.hand w.has in
    let found : c.unwrap-found.result ≡ g.g.found =
    same_Some c.unwrap-found.result g.g.found (sym c.unwrap-found.ensures ∙ c.found.ensures ∙ w.found_is) in (
      outlives.0,
      (
        outlives.1.0,
        (
          outlives.1.1,
          (
            record { at = at_own script parts m at; hand = g.g.hand; has = has; unanswered = w.unanswered },
            λ hand has_it notes.
                let same : hand ≡ g.g.hand = one_hand parts c.args.q hand g.g.hand has_it has in
                let walks = w.walks (subst (λ (f : Found). MayNoteAt m c.args.q g.g.hand f) found (subst (λ
                (h : Hand). MayNoteAt m c.args.q h c.unwrap-found.result) same notes)) in (
                  in_phase_own x script parts m c.self.view_is w.shown c.args.q walks.0,
                  ap found_of walks.1 ∙ w.found_is ∙ ap Some (sym found),
                ),
          ),
        ),
      ),
    )

pub invariant_of-self : goal.invariant_of-self
invariant_of-self g c =
    let w = c.requires.1.1.1.0 in
    let x = c.args.self.now in
    let script = c.self.inside.script in
    let parts = c.self.inside.parts in
    let m = g.g.state in
    let has = has_inside x script parts m c.self.view_is w.shown c.args.q g.g.hand w.has in
    of_fell {C = IsKept g.T.Tables script c.missed-fell.new.self} c.missed-fell.result c.missed-fell.ensures.noted c.missed-fell.ensures.again
    c.missed-fell.ensures.err
    (λ noted. (
      after_turn m (engine_of x c.args.q),
      (took_row_of x script parts m c.self.view_is w.shown c.args.q g.g.hand w.has c.missed-fell.new.self Missed (noted g.g.hand has).1).shown,
    ))
    (λ found again. (m, subst (λ p. IsAt g.T.Tables script p m) (sym again.2) (at_inside x script parts m c.self.view_is w.shown)))
    (λ stays. (
      m,
      (same_state x script parts m c.self.view_is w.shown c.missed-fell.new.self (stays_own script parts m
          (at_inside x script parts m c.self.view_is w.shown) c.missed-fell.new.self stays)).shown,
    ))

pub returns-clause-noted : goal.returns-clause-noted
returns-clause-noted g c =
    let r = c.requires.1.1.1 in
    let w = r.0 in
    let x = c.args.self.now in
    let script = c.self.inside.script in
    let parts = c.self.inside.parts in
    let m = g.g.state in
    let has = has_inside x script parts m c.self.view_is w.shown c.args.q g.g.hand w.has in
    let found : c.unwrap-found.result ≡ g.g.found =
    same_Some c.unwrap-found.result g.g.found (sym c.unwrap-found.ensures ∙ c.found.ensures ∙ w.found_is) in
    on_noted c.missed-fell.result
    (λ noted. (
      subst (λ (f : Found). MayNoteAt m c.args.q g.g.hand f) found (noted g.g.hand has).0,
      took_row_of x script parts m c.self.view_is w.shown c.args.q g.g.hand w.has c.missed-fell.new.self Missed (noted g.g.hand has).1,
    ))
    c.missed-fell.ensures.noted

pub returns-clause-again : goal.returns-clause-again
returns-clause-again g c =
    let r = c.requires.1.1.1 in
    let w = r.0 in
    let x = c.args.self.now in
    let script = c.self.inside.script in
    let parts = c.self.inside.parts in
    let m = g.g.state in
    let at = at_inside x script parts m c.self.view_is w.shown in
    let has = has_inside x script parts m c.self.view_is w.shown c.args.q g.g.hand w.has in
    let found : c.unwrap-found.result ≡ g.g.found =
    same_Some c.unwrap-found.result g.g.found (sym c.unwrap-found.ensures ∙ c.found.ensures ∙ w.found_is) in
    on_again c.missed-fell.result
    (λ told again. (
      again.0 ∙ found,
      λ notes. again.1 g.g.hand has (subst (λ (f : Found). MayNoteAt m c.args.q g.g.hand f) (sym found) notes),
      same_state x script parts m c.self.view_is w.shown c.missed-fell.new.self
          (record {
            shows = subst (λ p. Shows g.T.Tables script p m) (sym again.2) at.shows;
            events = ap (λ p. p.log.events) again.2;
            turns = ap (λ p. p.log.turns) again.2;
          }),
    ))
    c.missed-fell.ensures.again

pub returns-clause-err : goal.returns-clause-err
returns-clause-err g c =
    let w = c.requires.1.1.1.0 in
    let x = c.args.self.now in
    let script = c.self.inside.script in
    let parts = c.self.inside.parts in
    let m = g.g.state in
    on_err c.missed-fell.result
    (λ stays. same_state x script parts m c.self.view_is w.shown c.missed-fell.new.self
    (stays_own script parts m (at_inside x script parts m c.self.view_is w.shown) c.missed-fell.new.self stays))
    c.missed-fell.ensures.err

pub returns-clause-never : goal.returns-clause-never
returns-clause-never g c = λ phase walk.
    let r = c.requires.1.1.1 in
    let w = r.0 in
    let x = c.args.self.now in
    let script = c.self.inside.script in
    let parts = c.self.inside.parts in
    let m = g.g.state in
    let has = has_inside x script parts m c.self.view_is w.shown c.args.q g.g.hand w.has in
    let found : c.unwrap-found.result ≡ g.g.found =
    same_Some c.unwrap-found.result g.g.found (sym c.unwrap-found.ensures ∙ c.found.ensures ∙ w.found_is) in
    let inside = in_phase_own x script parts m c.self.view_is w.shown c.args.q phase in
    let same = one_hand parts c.args.q inside.hand g.g.hand (record { it = inside.it; there = inside.there; in_hand = inside.in_hand }) has in
    let notes : MayNoteAt m c.args.q g.g.hand c.unwrap-found.result =
    subst (λ (h : Hand). MayNoteAt m c.args.q h c.unwrap-found.result) same
    (may_note_found _ parts c.args.q inside c.unwrap-found.result (ap found_of walk ∙ w.found_is ∙ ap Some (sym found))) in
    on_again c.missed-fell.result (λ told again. again.1 g.g.hand has notes) c.missed-fell.ensures.again
