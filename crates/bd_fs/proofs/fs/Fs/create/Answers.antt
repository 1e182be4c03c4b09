use Rattle.std.proofs.Common.{◌≡◌, List, ℕ, Option, Some, None, sym, ◌∙◌}
use Rattle.std.specs.Global.{Vec}
use Rattle.bd_base.specs.declared.volume.Inode.{Inode}
use Rattle.bd_base.specs.Inodes.{free_id, id_of}
use Rattle.bd_base.proofs.FileLists.{none-from}
use Rattle.bd_fs.proofs.MadeAndRemoved.{IsKept-made}
use Rattle.bd_fs.proofs.Names.{lookup-changed}
use Rattle.bd_fs.proofs.fs.Fs.create.Goals as goal

pub invariant_of-self-2 : goal.invariant_of-self-2
invariant_of-self-2 c =
    let files : List (Option Inode) = c.self.inside.inodes.items in
    let lowest : free_id files ≡ Some c.in_ok-id.id = sym (rw (← c.self.view_is) at c.free_id.ensures) ∙ c.in_ok-id.ensures.ok_part in
    let looked_up = rw (← c.self.view_is) at c.lookup.ensures in
    let unused : id_of c.args.name files ≡ None = sym looked_up ∙ none-from c.lookup.result (sym c.if-is_some.ensures) in
    let key_is = c.in_ok-key.ensures.items ∙ c.as_slice.ensures in
    let found = rw key_is at (lookup-changed (λ (key : Vec ℕ). key.items) c.in_ok-key.key.items
    c.self.inside.names.entries c.insert.new.self.entries
    (Some c.in_ok-id.id) c.in_ok-insert.ensures.updates.3 c.in_ok-insert.ensures.updates.1) in
    rw (c.new.ensures, c.get.ensures.value)
    (IsKept-made _ _ c.in_ok-id.id c.args.name c.args.owner c.args.perms
    c.self.invariant lowest unused found)
