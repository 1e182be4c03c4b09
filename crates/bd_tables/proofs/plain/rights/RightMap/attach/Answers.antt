-- A right comes to a key that has none.
use Rattle.std.proofs.Common.{◌≡◌, ◌+◌, None, Some, get_or, set, ap, sym, ◌∙◌, subst, refl, arith}
use Rattle.std.specs.FinMap as fin
use Rattle.std.proofs.lemmas.List.{get_or_default}
use Rattle.bd_base.specs.Keys.{Pair}
use Rattle.bd_tables.specs.RightMaps.{IsRightMap}
use Rattle.bd_tables.specs.State.{Rights}
use Rattle.bd_tables.proofs.RightMaps.{IsRightMap-attach, StandsAt, count-few, get-rights_of, is_number_of, rights_of-fill}
use Rattle.bd_tables.proofs.plain.rights.RightMap.attach.Goals as goal

pub overflow_add-index_mut : goal.overflow_add-index_mut
overflow_add-index_mut c =
    let pair : Pair = record { file = c.args.right.file; part = c.args.key.now.part } in
    let place = c.pair_number.result in
    let there = is_number_of pair place c.pair_number.ensures.within c.pair_number.ensures.number c.pair_number.ensures.part in
    let counts = c.self.inside.users.items in
    let count : c.index_mut.result.now ≡ get_or counts place 0 =
    c.index_mut.ensures.value ∙ get_or_default counts place _ 0 (omega (arith, there.within, c.self.invariant.pairs)) in
    omega (arith, count, count-few c.self.inside.rights.items counts c.self.invariant pair place there)

pub invariant_of-self : goal.invariant_of-self
invariant_of-self c =
    let pair : Pair = record { file = c.args.right.file; part = c.args.key.now.part } in
    let place = c.pair_number.result in
    let there = is_number_of pair place c.pair_number.ensures.within c.pair_number.ensures.number c.pair_number.ensures.part in
    let counts = c.self.inside.users.items in
    let rights = c.self.inside.rights.items in
    let count : c.index_mut.result.now ≡ get_or counts place 0 =
    c.index_mut.ensures.value ∙ get_or_default counts place _ 0 (omega (arith, there.within, c.self.invariant.pairs)) in
    let at : StandsAt c.args.key.now c.key_number.result = record { within = c.key_number.ensures.within; is = c.key_number.ensures.key } in
    let none : get_or rights c.key_number.result None ≡ None =
    sym (get-rights_of rights c.args.key.now c.key_number.result c.self.invariant.keys at)
    ∙ ap (λ (map : Rights). fin.get map c.args.key.now) c.self.view_is ∙ c.requires in
    subst (λ n. IsRightMap (set rights c.key_number.result (Some c.args.right)) (set counts place (n + 1))) (sym count)
    (IsRightMap-attach rights counts c.self.invariant c.args.key.now c.key_number.result at none c.args.right pair refl place there)

pub returns-clause-attached : goal.returns-clause-attached
returns-clause-attached c =
    rights_of-fill c.self.inside.rights.items c.args.key.now c.key_number.result c.args.right c.self.invariant.keys
    (record { within = c.key_number.ensures.within; is = c.key_number.ensures.key })
    ∙ ap (λ (map : Rights). fin.insert map c.args.key.now c.args.right) c.self.view_is
