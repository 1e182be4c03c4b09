-- One place in use has another cell.
use Rattle.std.proofs.Common.{◌≡◌, ◌<◌, Some, set, length, arith, ap, sym, ◌∙◌, subst}
use Rattle.std.specs.FinMap as fin
use Rattle.std.proofs.lemmas.List.{get_or_default, length-set}
use Rattle.bd_file_table.specs.Fragments.{Book, Cells, IsUnused, with_cell}
use Rattle.bd_file_table.specs.Kept.{book_of}
use Rattle.bd_file_table.specs.declared.pool.Slot.{Slot}
use Rattle.bd_file_table.specs.Slots.{no_slot, slot_at}
use Rattle.bd_file_table.proofs.Pools.{Refills, fragment_of-get, in_use-within, refills}
use Rattle.bd_file_table.proofs.pool.Pool.set.Goals as goal

in_use : (c : goal.After-from) → c.args.fragment < 64
in_use c =
    let in_use = subst (λ (book : Book). ¬ (IsUnused book c.args.fragment)) (sym c.self.view_is) c.requires.in_use in
    in_use-within c.self.inside.slots.items c.self.inside.numbers.items c.self.inside.used c.self.invariant c.args.fragment in_use

pub index_mut-slot-requires : goal.index_mut-slot-requires
index_mut-slot-requires c = omega (arith, in_use c, c.self.invariant.places, c.from.ensures)

slot_is : (c : goal.After-self-1) → c.index_mut-slot.result.now ≡ slot_at c.self.inside.slots.items c.from.result
slot_is c =
    let below : c.args.fragment < 64 = (
    let in_use = subst (λ (book : Book). ¬ (IsUnused book c.args.fragment)) (sym c.self.view_is) c.requires.in_use in
    in_use-within c.self.inside.slots.items c.self.inside.numbers.items c.self.inside.used c.self.invariant c.args.fragment in_use) in
    c.index_mut-slot.ensures.value
    ∙ get_or_default c.self.inside.slots.items c.from.result _ no_slot (omega (arith, below, c.self.invariant.places, c.from.ensures))

refilled : (c : goal.After-self-1) → Refills c.self.inside.slots.items c.self.inside.numbers.items c.self.inside.used c.from.result
    (record { owner = c.index_mut-slot.result.now.owner; cells = set c.index_mut-slot.result.now.cells c.from-2.result (Some c.args.cell) })
refilled c =
    let in_use = subst (λ (book : Book). ¬ (IsUnused book c.args.fragment)) (sym c.self.view_is) c.requires.in_use in
    let here = subst (λ n. ¬ (IsUnused (book_of c.self.inside.slots.items c.self.inside.numbers.items) n)) (sym c.from.ensures) in_use in
    let below = in_use-within c.self.inside.slots.items c.self.inside.numbers.items c.self.inside.used c.self.invariant c.from.result here in
    refills c.self.inside.slots.items c.self.inside.numbers.items c.self.inside.used c.from.result _ c.self.invariant here
    (ap (λ (s : Slot). s.owner) (slot_is c))
    (length-set c.index_mut-slot.result.now.cells c.from-2.result (Some c.args.cell) ∙ ap (λ (s : Slot). length s.cells) (slot_is c)
    ∙ c.self.invariant.wide c.from.result below)

pub invariant_of-self : goal.invariant_of-self
invariant_of-self c = (refilled c).pool

pub returns : goal.returns
returns c =
    λ pair its found same.
    let there = ap (λ (book : Book). fin.get book pair) c.self.view_is ∙ found in
    let f = fragment_of-get c.self.inside.slots.items c.self.inside.numbers.items pair its there in
    let number : its.number ≡ c.from.result = same ∙ sym c.from.ensures in
    let cells : c.index_mut-slot.result.now.cells ≡ its.cells = ap (λ (s : Slot). s.cells) (slot_is c)
    ∙ ap (λ n. (slot_at c.self.inside.slots.items n).cells) (sym number) ∙ sym f.cells in
    let new : set c.index_mut-slot.result.now.cells c.from-2.result (Some c.args.cell) ≡ with_cell c.args.index c.args.cell its.cells =
    ap (λ (cs : Cells). set cs c.from-2.result (Some c.args.cell)) cells ∙ ap (λ i. set its.cells i (Some c.args.cell)) c.from-2.ensures in
    (refilled c).book pair its there number
    ∙ ap (λ (book : Book). fin.insert book pair
    (record { number = c.from.result; cells = set c.index_mut-slot.result.now.cells c.from-2.result (Some c.args.cell) })) c.self.view_is
    ∙ ap (λ n. fin.insert c.args.self.now pair (record { number = n; cells = set c.index_mut-slot.result.now.cells c.from-2.result (Some c.args.cell) }))
    (sym number)
    ∙ ap (λ (cs : Cells). fin.insert c.args.self.now pair (record { number = its.number; cells = cs })) new
