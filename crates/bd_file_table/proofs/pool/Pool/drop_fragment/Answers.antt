-- A fragment in use has an owner, and it is taken from that.
use Rattle.std.proofs.Common.{◌≡◌, ◌<◌, ◌+◌, ◌-◌, ◌*◌, Option, None, set, length, arith, ap, sym, ◌∙◌, subst, refl}
use Rattle.std.specs.FinMap as fin
use Rattle.std.specs.Option.{IsSome}
use Rattle.std.proofs.lemmas.List.{get_or_default}
use Rattle.bd_base.specs.declared.limits.TheConstants.{PARTS}
use Rattle.bd_file_table.specs.declared.pool.Owner.{Owner}
use Rattle.bd_file_table.specs.declared.pool.Slot.{Slot}
use Rattle.bd_file_table.specs.Fragments.{Book, HasNumber, IsUnused}
use Rattle.bd_file_table.specs.Kept.{IsPool, book_of}
use Rattle.bd_file_table.specs.Slots.{no_slot, slot_at}
use Rattle.bd_file_table.proofs.Pools.{Drops, drops, in_use-within, owned-in_use}
use Rattle.bd_file_table.proofs.pool.Pool.drop_fragment.Goals as goal

pub index-requires : goal.index-requires
index-requires c =
    let in_use = subst (λ (book : Book). ¬ (IsUnused book c.args.fragment)) (sym c.self.view_is) c.requires in
    omega (
      arith,
      in_use-within c.self.inside.slots.items c.self.inside.numbers.items c.self.inside.used c.self.invariant
          c.args.fragment in_use,
      c.self.invariant.places,
      c.from-place.ensures,
    )

pub unwrap-owner-requires : goal.unwrap-owner-requires
unwrap-owner-requires c =
    let slots = c.self.inside.slots.items in
    let in_use = subst (λ (book : Book). ¬ (IsUnused book c.args.fragment)) (sym c.self.view_is) c.requires in
    let below = in_use-within slots c.self.inside.numbers.items c.self.inside.used c.self.invariant c.args.fragment in_use in
    let o = owned-in_use slots c.self.inside.numbers.items c.self.inside.used c.self.invariant c.args.fragment in_use in
    let slot : c.index.result.now ≡ slot_at slots c.args.fragment =
    c.index.ensures ∙ get_or_default slots c.from-place.result _ no_slot (omega (arith, below, c.self.invariant.places, c.from-place.ensures))
    ∙ ap (slot_at slots) c.from-place.ensures in
    subst (λ (w : Option Owner). IsSome w) (sym (ap (λ (s : Slot). s.owner) slot ∙ o.is)) refl

pub index_mut-requires : goal.index_mut-requires
index_mut-requires c =
    let in_use = subst (λ (book : Book). ¬ (IsUnused book c.args.fragment)) (sym c.self.view_is) c.requires in
    omega (
      arith,
      in_use-within c.self.inside.slots.items c.self.inside.numbers.items c.self.inside.used c.self.invariant
          c.args.fragment in_use,
      c.self.invariant.places,
      c.from-place.ensures,
    )

dropped : (c : goal.After-self-2-1) → Drops c.self.inside.slots.items c.self.inside.numbers.items c.self.inside.used c.from-place.result
    (c.unwrap-owner.result.file * PARTS + c.unwrap-owner.result.part) (record { owner = None; cells = c.index_mut.result.now.cells })
dropped c =
    let slots = c.self.inside.slots.items in
    let in_use = subst (λ (book : Book). ¬ (IsUnused book c.args.fragment)) (sym c.self.view_is) c.requires in
    let below = in_use-within slots c.self.inside.numbers.items c.self.inside.used c.self.invariant c.args.fragment in_use in
    let within : c.from-place.result < length slots = omega (arith, below, c.self.invariant.places, c.from-place.ensures) in
    let slot : c.index.result.now ≡ slot_at slots c.from-place.result = c.index.ensures ∙ get_or_default slots c.from-place.result _ no_slot within in
    let again : c.index_mut.result.now ≡ slot_at slots c.from-place.result = c.index_mut.ensures.value
    ∙ get_or_default slots c.from-place.result _ no_slot within in
    drops slots c.self.inside.numbers.items c.self.inside.used c.from-place.result _ c.unwrap-owner.result c.self.invariant
    (sym (ap (λ (s : Slot). s.owner) slot) ∙ c.unwrap-owner.ensures) refl
    (ap (λ (s : Slot). length s.cells) again ∙ c.self.invariant.wide c.from-place.result (omega (arith, within, c.self.invariant.places)))

pub overflow_sub-self : goal.overflow_sub-self
overflow_sub-self c = omega (arith, (dropped c).some)

pub invariant_of-self : goal.invariant_of-self
invariant_of-self c =
    subst (λ n. IsPool (set c.self.inside.slots.items c.from-place.result (record { owner = None; cells = c.index_mut.result.now.cells }))
    (set c.self.inside.numbers.items n None) (c.self.inside.used - 1))
    (sym c.pair_number-pair.ensures.number) (dropped c.before).pool

pub returns : goal.returns
returns c =
    λ pair has.
    let slot : Slot = record { owner = None; cells = c.index_mut.result.now.cells } in
    let here = subst (λ n. HasNumber (book_of c.self.inside.slots.items c.self.inside.numbers.items) pair n) (sym c.from-place.ensures)
    (subst (λ (book : Book). HasNumber book pair c.args.fragment) (sym c.self.view_is) has) in
    ap (λ n. book_of (set c.self.inside.slots.items c.from-place.result slot) (set c.self.inside.numbers.items n None)) c.pair_number-pair.ensures.number
    ∙ (dropped c.before).book pair here
    ∙ ap (λ (book : Book). fin.remove book pair) c.self.view_is
