use Rattle.std.proofs.Common.{◌≡◌, ℕ, Bool, true, Some, ap, sym, ◌∙◌, subst, rules}
use Rattle.std.specs.Option.{option_copied}
use Rattle.std.proofs.lemmas.List.{with_items_is}
use Rattle.bd_entry.specs.Effects.{detach}
use Rattle.bd_entry.specs.Store.{Descriptor, has_part}
use Rattle.bd_kernel.specs.Changes.{AreCounted, Rows, changed_rows, has_right, slot_at}
use Rattle.bd_kernel.proofs.CountedRights.{CountsDetached, counts-detached}
use Rattle.bd_kernel.proofs.PairCounts.{uses}
use Rattle.bd_kernel.proofs.table.DescriptorTable.detach.Goals as goal

-- the descriptor that is found loses its right, which was there: the rows are those that come back, and are looked at
counts : (pairs : ℕ) (rows before lent after seen : Rows) (process fd at again part file : ℕ) (d : Descriptor) (used : Bool) → rows ≡ before →
    at ≡ fd → slot_at before process at ≡ Some d → has_right part (slot_at before process fd) ≡ true → file ≡ d.file → lent ≡ rows → again ≡ fd →
    after ≡ changed_rows lent process again (detach part) → seen ≡ after → used ≡ uses seen (file, part) → AreCounted pairs rows →
    CountsDetached pairs after used
counts pairs rows before lent after seen process fd at again part file d used is same found has of lent_is same_again changed sees answers counted =
    let slot : slot_at rows process fd ≡ Some d =
    ap (slot_at rows process) (sym same) ∙ ap (λ (old : Rows). slot_at old process at) is ∙ found in
    let right : has_part part d.attached ≡ true =
    ap (has_right part) (sym slot) ∙ ap (λ (old : Rows). has_right part (slot_at old process fd)) is ∙ has in
    let becomes : changed_rows rows process fd (detach part) ≡ after =
    sym
    (changed ∙ ap (λ (old : Rows). changed_rows old process again (detach part)) lent_is
    ∙ ap (λ (n : ℕ). changed_rows rows process n (detach part)) same_again) in
    let uses_now : uses (changed_rows rows process fd (detach part)) (d.file, part) ≡ used =
    ap (λ (now : Rows). uses now (d.file, part)) (becomes ∙ sym sees) ∙ ap (λ (n : ℕ). uses seen (n, part)) (sym of) ∙ sym answers in
    subst (λ (now : Rows). CountsDetached pairs now used) becomes
    (subst (CountsDetached pairs (changed_rows rows process fd (detach part))) uses_now
    (counts-detached pairs rows process fd part d slot counted right))

pub overflow_sub-self : goal.overflow_sub-self
overflow_sub-self c =
    let counted =
    counts c.self.inside.pairs c.self.inside.rows.items c.args.self.now c.deref_mut.result.now c.change_row.new.rows c.deref.result.now c.args.process
    c.args.fd c.get.result c.get-3.result c.args.part c.behind-get.inside.file c.unwrap.result.now c.has_pair.result c.self.view_is c.get.ensures.value
    (sym c.get-2.ensures ∙ ap option_copied c.unwrap.ensures) c.requires.attached (ap (λ (d : Descriptor). d.file) c.behind-get.view_is)
    c.deref_mut.ensures.value c.get-3.ensures.value c.change_row.ensures
    (c.deref.ensures.value ∙ with_items_is c.self.inside.rows c.change_row.new.rows (search rules)) c.has_pair.ensures c.self.invariant in
    counted.counted c.if-not-has_pair.true

pub invariant_of-self : goal.invariant_of-self
invariant_of-self c =
    let back = with_items_is c.self.inside.rows c.change_row.new.rows (search rules) in
    let counted =
    counts c.self.inside.pairs c.self.inside.rows.items c.args.self.now c.deref_mut.result.now c.change_row.new.rows c.deref.result.now c.args.process
    c.args.fd c.get.result c.get-3.result c.args.part c.behind-get.inside.file c.unwrap.result.now c.has_pair.result c.self.view_is c.get.ensures.value
    (sym c.get-2.ensures ∙ ap option_copied c.unwrap.ensures) c.requires.attached (ap (λ (d : Descriptor). d.file) c.behind-get.view_is)
    c.deref_mut.ensures.value c.get-3.ensures.value c.change_row.ensures (c.deref.ensures.value ∙ back) c.has_pair.ensures c.self.invariant in
    rw back (counted.last c.if-not-has_pair.true)

pub invariant_of-self-else-not-has_pair : goal.invariant_of-self-else-not-has_pair
invariant_of-self-else-not-has_pair c =
    let back = with_items_is c.self.inside.rows c.change_row.new.rows (search rules) in
    let counted =
    counts c.self.inside.pairs c.self.inside.rows.items c.args.self.now c.deref_mut.result.now c.change_row.new.rows c.deref.result.now c.args.process
    c.args.fd c.get.result c.get-3.result c.args.part c.behind-get.inside.file c.unwrap.result.now c.has_pair.result c.self.view_is c.get.ensures.value
    (sym c.get-2.ensures ∙ ap option_copied c.unwrap.ensures) c.requires.attached (ap (λ (d : Descriptor). d.file) c.behind-get.view_is)
    c.deref_mut.ensures.value c.get-3.ensures.value c.change_row.ensures (c.deref.ensures.value ∙ back) c.has_pair.ensures c.self.invariant in
    rw back (counted.other c.if-not-has_pair.false)
