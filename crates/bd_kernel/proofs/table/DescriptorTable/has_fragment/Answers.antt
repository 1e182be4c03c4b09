use Rattle.std.proofs.Common.{◌≡◌, ℕ, Bool, false, ◌||◌, length, sym, ap, ◌∙◌}
use Rattle.std.specs.Prelude.{nat_lt}
use Rattle.std.specs.List.{list_any}
use Rattle.std.proofs.lemmas.Bool.{or_left}
use Rattle.bd_base.specs.declared.limits.TheConstants.{FRAGMENTS}
use Rattle.bd_entry.specs.Store.{same_pair}
use Rattle.bd_kernel.specs.Changes.{Rows, pairs_of_rows, uses_pair}
use Rattle.bd_kernel.proofs.PairCounts.{in_use-uses}
use Rattle.bd_kernel.proofs.table.DescriptorTable.has_fragment.Goals as goal

pub returns-then-has_pair : goal.returns-then-has_pair
returns-then-has_pair c =
    let pair : ℕ × ℕ = (c.args.file, c.args.part) in
    let used : c.has_pair.result ≡ list_any (same_pair pair) (pairs_of_rows c.args.self.now) =
    c.has_pair.ensures ∙ ap (λ (rows : Rows). list_any (list_any (uses_pair pair)) rows) (c.deref.ensures.value ∙ c.self.view_is)
    ∙ sym (in_use-uses pair c.args.self.now) in
    c.if-has_pair.true ∙ sym (or_left _ _ (sym used ∙ c.if-has_pair.true))

pub returns-else-has_pair : goal.returns-else-has_pair
returns-else-has_pair c =
    let pair : ℕ × ℕ = (c.args.file, c.args.part) in
    let used : c.has_pair.result ≡ list_any (same_pair pair) (pairs_of_rows c.args.self.now) =
    c.has_pair.ensures ∙ ap (λ (rows : Rows). list_any (list_any (uses_pair pair)) rows) (c.deref.ensures.value ∙ c.self.view_is)
    ∙ sym (in_use-uses pair c.args.self.now) in
    let unused : list_any (same_pair pair) (pairs_of_rows c.args.self.now) ≡ false = sym used ∙ c.if-has_pair.false in
    ap (λ (n : ℕ). nat_lt n FRAGMENTS) (c.self.invariant.counted ∙ ap (λ (rows : Rows). length (pairs_of_rows rows)) c.self.view_is)
    ∙ ap (λ (b : Bool). b || nat_lt (length (pairs_of_rows c.args.self.now)) FRAGMENTS) (sym unused)
