use Rattle.std.proofs.Common.{◌≡◌, ℕ, ◌≤◌, ◌*◌, Some, arith, ap, sym, ◌∙◌, subst, rules}
use Rattle.std.specs.Option.{option_copied}
use Rattle.std.proofs.lemmas.List.{with_items_is}
use Rattle.bd_base.specs.declared.limits.TheConstants.{FILES, PARTS}
use Rattle.bd_entry.specs.Effects.{attach}
use Rattle.bd_entry.specs.Store.{Descriptor}
use Rattle.bd_kernel.specs.Changes.{AreCounted, IsPair, Rows, changed_rows, slot_at}
use Rattle.bd_kernel.specs.declared.table.DescriptorTable.TheInside.{Inside}
use Rattle.bd_kernel.proofs.AllPairs.{pairs_fit}
use Rattle.bd_kernel.proofs.CountedRights.{counts-attached}
use Rattle.bd_kernel.proofs.PairCounts.{uses}
use Rattle.bd_kernel.proofs.table.DescriptorTable.attach.Goals as goal
use Rattle.bd_kernel.proofs.table.DescriptorTable.attach.Goals.{then-not-has_pair, else-not-has_pair}

pub overflow_add-self : goal.overflow_add-self
overflow_add-self c =
    let few : c.self.inside.pairs ≤ PARTS * FILES = pairs_fit c.self.inside.pairs c.self.inside.rows.items c.self.invariant in omega arith

pub invariant_of-self : goal.invariant_of-self
invariant_of-self c =
    let rows = c.self.inside.rows.items in
    let process = c.args.process in
    let fd = c.args.fd in
    let change = attach c.args.part in
    let d = c.unwrap.result.now in
    let now = c.if-not-has_pair.self-inside in
    let file : c.behind-get.inside.file ≡ d.file = ap (λ (x : Descriptor). x.file) c.behind-get.view_is in
    let found : slot_at rows process fd ≡ Some d =
    ap (slot_at rows process) (sym c.get.ensures.value) ∙ ap (λ (old : Rows). slot_at old process c.get.result) c.self.view_is
    ∙ sym c.get-2.ensures ∙ ap option_copied c.unwrap.ensures in
    let pair : IsPair (d.file, c.args.part) = record { file_there = omega arith; part_there = omega arith } in
    let used : uses rows (d.file, c.args.part) ≡ c.has_pair.result =
    ap (λ (old : Rows). uses old (d.file, c.args.part)) (sym c.deref.ensures.value)
    ∙ ap (λ (of : ℕ). uses c.deref.result.now (of, c.args.part)) (sym file) ∙ sym c.has_pair.ensures in
    let after : now.rows.items ≡ rows → changed_rows rows process fd change ≡ c.change_row.new.rows =
    λ same.
    sym
    (c.change_row.ensures ∙ ap (λ (old : Rows). changed_rows old process c.get-5.result change) (c.deref_mut.ensures.value ∙ same)
    ∙ ap (λ (at : ℕ). changed_rows rows process at change) c.get-5.ensures.value) in
    let counts = counts-attached c.self.inside.pairs rows process fd c.args.part d found c.self.invariant pair in
    let counted : (pairs : ℕ) → now ≡ record { rows = c.self.inside.rows; pairs = pairs } → AreCounted pairs (changed_rows rows process fd change) →
    AreCounted now.pairs c.change_row.new.rows =
    λ pairs is by.
    subst (λ (n : ℕ). AreCounted n c.change_row.new.rows) (sym (ap (λ (a : Inside). a.pairs) is))
    (subst (AreCounted pairs) (after (ap (λ (a : Inside). a.rows.items) is)) by) in
    rw (with_items_is now.rows c.change_row.new.rows (search rules))
    (elim c.if-not-has_pair.branch [
      | then-not-has_pair w ↦ counted _ w.self-inside-is (counts.first (used ∙ w.if-not-has_pair.true))
      | else-not-has_pair w ↦ counted _ w.self-inside-is (counts.again (used ∙ w.if-not-has_pair.false))
    ])
