-- One line more of a right was swept.
use Rattle.std.proofs.Common.{◌≡◌, None, Some, get_or, set, ap, sym, ◌∙◌, refl, arith}
use Rattle.std.specs.FinMap as fin
use Rattle.std.proofs.lemmas.List.{get_or_default}
use Rattle.bd_tables.specs.declared.state.Right.{Right}
use Rattle.bd_tables.specs.declared.state.RightState.{RightState}
use Rattle.bd_tables.specs.Effects.{sweep_right, sweep_state}
use Rattle.bd_tables.specs.RightMaps.{rights_of}
use Rattle.bd_tables.specs.State.{Rights}
use Rattle.bd_tables.proofs.Maps.{change-none}
use Rattle.bd_tables.proofs.RightMaps.{IsRightMap-same, StandsAt, get-rights_of, rights_of-change}
use Rattle.bd_tables.proofs.plain.rights.RightMap.sweep.Goals as goal

pub invariant_of-self : goal.invariant_of-self
invariant_of-self c =
    let rights = c.self.inside.rights.items in
    let number = c.key_number-number.result in
    let at : StandsAt c.args.key.now number = record { within = c.key_number-number.ensures.within; is = c.key_number-number.ensures.key } in
    let was : get_or rights number None ≡ Some c.in-Some.right =
    sym (c.index.ensures ∙ get_or_default rights number _ None (omega (arith, at.within, c.self.invariant.keys))) ∙ c.in-Some.is in
    IsRightMap-same rights c.self.inside.users.items c.self.invariant c.args.key.now number at c.in-Some.right _ was refl

pub returns-in-Some-clause-swept : goal.returns-in-Some-clause-swept
returns-in-Some-clause-swept c =
    let rights = c.self.inside.rights.items in
    let number = c.key_number-number.result in
    let right : Right = c.in-Some.right in
    let at : StandsAt c.args.key.now number = record { within = c.key_number-number.ensures.within; is = c.key_number-number.ensures.key } in
    let was : get_or rights number None ≡ Some right =
    sym (c.index.ensures ∙ get_or_default rights number _ None (omega (arith, at.within, c.self.invariant.keys))) ∙ c.in-Some.is in
    let state : c.after_sweep-state.result ≡ sweep_state c.args.line right.state =
    c.after_sweep-state.ensures ∙ ap (λ n. sweep_state n right.state) c.from.ensures in
    ap (λ (s : RightState). rights_of (set rights number (Some (record right { state = s })))) state
    ∙ rights_of-change rights c.args.key.now number (λ (r : Right). record r { state = sweep_state c.args.line r.state }) right c.self.invariant.keys at was
    ∙ ap (λ (map : Rights). sweep_right map c.args.line c.args.key.now) c.self.view_is

pub returns-in_default-clause-swept : goal.returns-in_default-clause-swept
returns-in_default-clause-swept c =
    let rights = c.self.inside.rights.items in
    let number = c.key_number-number.result in
    let at : StandsAt c.args.key.now number = record { within = c.key_number-number.ensures.within; is = c.key_number-number.ensures.key } in
    let none : fin.get c.args.self.now c.args.key.now ≡ None =
    sym (ap (λ (map : Rights). fin.get map c.args.key.now) c.self.view_is) ∙ get-rights_of rights c.args.key.now number c.self.invariant.keys at
    ∙ sym (c.index.ensures ∙ get_or_default rights number _ None (omega (arith, at.within, c.self.invariant.keys))) ∙ c.in_default.is in
    sym (change-none c.args.self.now c.args.key.now (λ (right : Right). record right { state = sweep_state c.args.line right.state }) none)
