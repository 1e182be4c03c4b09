-- The state of one right changes.
use Rattle.std.proofs.Common.{◌≡◌, None, Some, get_or, ap, sym, ◌∙◌, refl, arith}
use Rattle.std.specs.FinMap as fin
use Rattle.std.proofs.lemmas.List.{get_or_default}
use Rattle.bd_tables.specs.declared.state.Right.{Right}
use Rattle.bd_tables.specs.Effects.{with_state}
use Rattle.bd_tables.specs.State.{Rights}
use Rattle.bd_tables.proofs.Maps.{change-none}
use Rattle.bd_tables.proofs.RightMaps.{IsRightMap-same, StandsAt, get-rights_of, rights_of-change}
use Rattle.bd_tables.proofs.plain.rights.RightMap.set_state.Goals as goal

pub invariant_of-self : goal.invariant_of-self
invariant_of-self c =
    let rights = c.self.inside.rights.items in
    let number = c.key_number-number.result in
    let at : StandsAt c.args.key.now number = record { within = c.key_number-number.ensures.within; is = c.key_number-number.ensures.key } in
    let was : get_or rights number None ≡ Some c.in-Some.right =
    sym (c.index.ensures ∙ get_or_default rights number _ None (omega (arith, at.within, c.self.invariant.keys))) ∙ c.in-Some.is in
    IsRightMap-same rights c.self.inside.users.items c.self.invariant c.args.key.now number at c.in-Some.right _ was refl

pub returns-in-Some-clause-state : goal.returns-in-Some-clause-state
returns-in-Some-clause-state c =
    let rights = c.self.inside.rights.items in
    let number = c.key_number-number.result in
    let at : StandsAt c.args.key.now number = record { within = c.key_number-number.ensures.within; is = c.key_number-number.ensures.key } in
    let was : get_or rights number None ≡ Some c.in-Some.right =
    sym (c.index.ensures ∙ get_or_default rights number _ None (omega (arith, at.within, c.self.invariant.keys))) ∙ c.in-Some.is in
    rights_of-change rights c.args.key.now number (λ (right : Right). record right { state = c.args.state }) c.in-Some.right c.self.invariant.keys at was
    ∙ ap (λ (map : Rights). with_state map c.args.key.now c.args.state) c.self.view_is

pub returns-in_default-clause-state : goal.returns-in_default-clause-state
returns-in_default-clause-state c =
    let rights = c.self.inside.rights.items in
    let number = c.key_number-number.result in
    let at : StandsAt c.args.key.now number = record { within = c.key_number-number.ensures.within; is = c.key_number-number.ensures.key } in
    let none : fin.get c.args.self.now c.args.key.now ≡ None =
    sym (ap (λ (map : Rights). fin.get map c.args.key.now) c.self.view_is) ∙ get-rights_of rights c.args.key.now number c.self.invariant.keys at
    ∙ sym (c.index.ensures ∙ get_or_default rights number _ None (omega (arith, at.within, c.self.invariant.keys))) ∙ c.in_default.is in
    sym (change-none c.args.self.now c.args.key.now (λ (right : Right). record right { state = c.args.state }) none)
