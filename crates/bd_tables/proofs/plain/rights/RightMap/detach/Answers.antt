-- The right of a key goes.
use Rattle.std.proofs.Common.{◌≡◌, ◌-◌, None, Some, get_or, set, ap, sym, ◌∙◌, subst, refl, arith}
use Rattle.std.specs.FinMap as fin
use Rattle.std.specs.Option.{IsSome}
use Rattle.std.proofs.lemmas.Bool.{false≢true}
use Rattle.std.proofs.lemmas.List.{get_or_default}
use Rattle.bd_base.specs.Keys.{Pair}
use Rattle.bd_tables.specs.RightMaps.{IsRightMap}
use Rattle.bd_tables.specs.State.{Rights}
use Rattle.bd_tables.proofs.RightMaps.{IsRightMap-detach, StandsAt, count-attached, get-rights_of, is_number_of, rights_of-clear}
use Rattle.bd_tables.proofs.plain.rights.RightMap.detach.Goals as goal

pub overflow_sub-index_mut : goal.overflow_sub-index_mut
overflow_sub-index_mut c =
    let pair : Pair = record { file = c.in-Some.right.file; part = c.args.key.now.part } in
    let place = c.pair_number.result in
    let there = is_number_of pair place c.pair_number.ensures.within c.pair_number.ensures.number c.pair_number.ensures.part in
    let counts = c.self.inside.users.items in
    let rights = c.self.inside.rights.items in
    let number = c.key_number-number.result in
    let count : c.index_mut.result.now ≡ get_or counts place 0 =
    c.index_mut.ensures.value ∙ get_or_default counts place _ 0 (omega (arith, there.within, c.self.invariant.pairs)) in
    let at : StandsAt c.args.key.now number = record { within = c.key_number-number.ensures.within; is = c.key_number-number.ensures.key } in
    let was : get_or rights number None ≡ Some c.in-Some.right =
    sym (c.index.ensures ∙ get_or_default rights number _ None (omega (arith, at.within, c.self.invariant.keys))) ∙ c.in-Some.is in
    omega (arith, count, count-attached rights counts c.self.invariant c.args.key.now number at c.in-Some.right was pair refl place there)

pub invariant_of-self : goal.invariant_of-self
invariant_of-self c =
    let pair : Pair = record { file = c.in-Some.right.file; part = c.args.key.now.part } in
    let place = c.pair_number.result in
    let there = is_number_of pair place c.pair_number.ensures.within c.pair_number.ensures.number c.pair_number.ensures.part in
    let counts = c.self.inside.users.items in
    let rights = c.self.inside.rights.items in
    let number = c.key_number-number.result in
    let count : c.index_mut.result.now ≡ get_or counts place 0 =
    c.index_mut.ensures.value ∙ get_or_default counts place _ 0 (omega (arith, there.within, c.self.invariant.pairs)) in
    let at : StandsAt c.args.key.now number = record { within = c.key_number-number.ensures.within; is = c.key_number-number.ensures.key } in
    let was : get_or rights number None ≡ Some c.in-Some.right =
    sym (c.index.ensures ∙ get_or_default rights number _ None (omega (arith, at.within, c.self.invariant.keys))) ∙ c.in-Some.is in
    let some = count-attached rights counts c.self.invariant c.args.key.now number at c.in-Some.right was pair refl place there in
    subst (λ n. IsRightMap (set rights number None) (set counts place (n - 1))) (sym count)
    (IsRightMap-detach rights counts c.self.invariant c.args.key.now number at c.in-Some.right was pair refl place there some)

pub returns-in-Some-clause-detached : goal.returns-in-Some-clause-detached
returns-in-Some-clause-detached c =
    rights_of-clear c.self.inside.rights.items c.args.key.now c.key_number-number.result c.self.invariant.keys
    (record { within = c.key_number-number.ensures.within; is = c.key_number-number.ensures.key })
    ∙ ap (λ (map : Rights). fin.remove map c.args.key.now) c.self.view_is

pub returns-in_default-clause-detached : goal.returns-in_default-clause-detached
returns-in_default-clause-detached c =
    let rights = c.self.inside.rights.items in
    let number = c.key_number-number.result in
    let at : StandsAt c.args.key.now number = record { within = c.key_number-number.ensures.within; is = c.key_number-number.ensures.key } in
    let none : fin.get c.args.self.now c.args.key.now ≡ None =
    sym (ap (λ (map : Rights). fin.get map c.args.key.now) c.self.view_is) ∙ get-rights_of rights c.args.key.now number c.self.invariant.keys at
    ∙ sym (c.index.ensures ∙ get_or_default rights number _ None (omega (arith, at.within, c.self.invariant.keys))) ∙ c.in_default.is in
    absurd (false≢true (subst (λ v. IsSome v) none c.requires))
