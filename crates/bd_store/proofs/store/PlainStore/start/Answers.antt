use Rattle.std.proofs.Common.{ℕ, refl, ap, ◌∙◌, subst}
use Rattle.bd_kernel.specs.Disks.{DiskState}
use Rattle.bd_store.specs.Kept.{AreIdle, Kept}
use Rattle.bd_store.proofs.Starts.{empty_rows, started, started-parts}
use Rattle.bd_store.proofs.store.PlainStore.start.Goals as goal

pub returns : goal.returns
returns c =
    let d : DiskState = c.in_ok-disk.disk in
    let k : Kept = record {
      total = d.total;
      uids = c.args.uids;
      files = d.files;
      bytes = d.bytes;
      opens = d.rows;
      marks = c.in_ok-calls.calls.items;
    } in
    started c.args.volume c.args.uids c.requires.sound c.requires.few c.requires.users k
    (ap (λ (d : DiskState). d.total) c.in_ok-disk.ensures) refl (ap (λ (d : DiskState). d.files) c.in_ok-disk.ensures)
    (ap (λ (d : DiskState). d.bytes) c.in_ok-disk.ensures ∙ c.new-medium.ensures)
    (ap (λ (d : DiskState). d.rows) c.in_ok-disk.ensures ∙ ap empty_rows c.len.ensures)
    (subst (λ (n : ℕ). AreIdle n c.in_ok-calls.calls.items) c.len-2.ensures c.in_ok-calls.ensures)

pub invariant_of-result : goal.invariant_of-result
invariant_of-result c =
    let d : DiskState = c.in_ok-disk.disk in
    let k : Kept = record {
      total = d.total;
      uids = c.args.uids;
      files = d.files;
      bytes = d.bytes;
      opens = d.rows;
      marks = c.in_ok-calls.calls.items;
    } in
    started-parts c.args.volume c.args.uids c.requires.sound c.requires.few c.requires.users k refl
    (subst (λ (n : ℕ). AreIdle n c.in_ok-calls.calls.items) c.len-2.ensures c.in_ok-calls.ensures)
