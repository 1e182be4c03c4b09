use Rattle.std.proofs.Common.{◌≡◌, Option, not, sym, ap, ◌∙◌}
use Rattle.std.specs.Prelude.{is_some}
use Rattle.bd_entry.specs.Store.{Holder, blocks_in, first_holder, has_open, is_open_of}
use Rattle.bd_store.specs.Kept.{bare}
use Rattle.bd_store.proofs.DecidedRights.{none-iff}
use Rattle.bd_store.proofs.store.PlainStore.is_within_limit.Goals as goal

pub returns-then-block_count-eq0 : goal.returns-then-block_count-eq0
returns-then-block_count-eq0 c = λ work marked.
    let s = bare c.args.self.now in
    let file = c.in-Unlinked.file in
    let holder = c.first_open.ensures ∙ ap (first_holder (is_open_of file) 0) c.descriptors.ensures in
    let holds : has_open s file ≡ not c.is_none.result = sym (ap (λ (o : Option Holder). is_some o) holder) ∙ c.is_none.ensures in
    rw c.in-Unlinked.is
    (none-iff (blocks_in s file) (has_open s file) c.is_none.result (sym c.block_count.ensures.count ∙ c.if-block_count-eq0.true) holds)
