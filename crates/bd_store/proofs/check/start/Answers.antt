use Rattle.std.proofs.Common.{ℕ, ◌<◌, List, length, subst, sym, ap, ◌∙◌}
use Rattle.std.specs.Prelude.{All, slice_index}
use Rattle.std.proofs.lemmas.List.{length-replicate}
use Rattle.bd_base.specs.declared.limits.TheConstants.{USERS}
use Rattle.bd_base.specs.declared.script.Process.{Process}
use Rattle.bd_store.specs.Kept.{Represents, start_of}
use Rattle.bd_store.proofs.NextEntries.{finished_at_start}
use Rattle.bd_store.proofs.StartStores.{replicate_at, start_of-users, uids_of, users_within}
use Rattle.bd_store.proofs.check.start.Goals as goal

pub start-requires-clause-users : goal.start-requires-clause-users
start-requires-clause-users c =
    let script = c.args.script.now in
    let users = c.in_ok-uids.ensures ∙ ap uids_of c.as_slice-processes.ensures in
    subst (All (λ (uid : ℕ). uid < USERS)) (sym users) (users_within script.processes c.requires.script.processes)

pub returns-clause-store : goal.returns-clause-store
returns-clause-store c =
    let script = c.args.script.now in
    let users = c.in_ok-uids.ensures ∙ ap uids_of c.as_slice-processes.ensures in
    subst (Represents c.in_ok-store.store) (ap (start_of c.args.volume) users ∙ start_of-users c.args.volume script) c.in_ok-store.ensures

pub returns-clause-finished : goal.returns-clause-finished
returns-clause-finished c =
    let script = c.args.script.now in
    let count = length c.as_slice-processes.result.now in
    let zeros = c.in_ok-finished.ensures.items_if_clones_equal (λ y same. same) in
    finished_at_start script c.in_ok-finished.finished.items c.requires.script
    (ap (λ (xs : List ℕ). length xs) zeros ∙ length-replicate count 0 ∙ ap (λ (xs : List Process). length xs) c.as_slice-processes.ensures)
    (λ process. ap (λ (xs : List ℕ). slice_index xs process) zeros ∙ replicate_at 0 count process)
