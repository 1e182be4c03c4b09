-- A fragment in use lies in the place of its number.
use Rattle.std.proofs.Common.{◌≡◌, ◌<◌, None, length, arith, ap, sym, ◌∙◌, subst}
use Rattle.std.specs.FinMap as fin
use Rattle.std.proofs.lemmas.List.{get_or_default}
use Rattle.bd_file_table.specs.Fragments.{Book, Cells, IsUnused, cell_at}
use Rattle.bd_file_table.specs.declared.pool.Slot.{Slot}
use Rattle.bd_file_table.specs.Slots.{no_slot, slot_at}
use Rattle.bd_file_table.proofs.Pools.{fragment_of-get, in_use-within}
use Rattle.bd_file_table.proofs.pool.Pool.cell.Goals as goal

pub index-requires : goal.index-requires
index-requires c =
    let in_use = subst (λ (book : Book). ¬ (IsUnused book c.args.fragment)) (sym c.self.view_is) c.requires.in_use in
    omega (
      arith,
      in_use-within c.self.inside.slots.items c.self.inside.numbers.items c.self.inside.used c.self.invariant
          c.args.fragment in_use,
      c.self.invariant.places,
      c.from.ensures,
    )

pub returns : goal.returns
returns c =
    λ pair its found same.
    let slots = c.self.inside.slots.items in
    let numbers = c.self.inside.numbers.items in
    let in_use = subst (λ (book : Book). ¬ (IsUnused book c.args.fragment)) (sym c.self.view_is) c.requires.in_use in
    let below : c.args.fragment < 64 = in_use-within slots numbers c.self.inside.used c.self.invariant c.args.fragment in_use in
    let there = ap (λ (book : Book). fin.get book pair) c.self.view_is ∙ found in
    let f = fragment_of-get slots numbers pair its there in
    let slot : c.index.result.now ≡ slot_at slots c.args.fragment =
    c.index.ensures ∙ get_or_default slots c.from.result _ no_slot (omega (arith, below, c.self.invariant.places, c.from.ensures))
    ∙ ap (slot_at slots) c.from.ensures in
    let cells : c.index.result.now.cells ≡ its.cells = ap (λ (s : Slot). s.cells) slot ∙ ap (λ n. (slot_at slots n).cells) (sym same) ∙ sym f.cells in
    let wide : length c.index.result.now.cells ≡ 512 = ap (λ (s : Slot). length s.cells) slot ∙ c.self.invariant.wide c.args.fragment below in
    get_or_default c.index.result.now.cells c.from-2.result _ None (omega (arith, wide, c.requires.within, c.from-2.ensures))
    ∙ ap (λ (cs : Cells). cell_at cs c.from-2.result) cells ∙ ap (cell_at its.cells) c.from-2.ensures
