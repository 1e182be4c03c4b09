use Rattle.std.proofs.Common.{◌≡◌, ℕ, ◌∙◌, List, Option, None, Some, get_or, sym, arith}
use Rattle.std.specs.Global.{Vec}
use Rattle.std.proofs.lemmas.List.{get_or_read}
use Rattle.bd_base.specs.declared.volume.Inode.{Inode}
use Rattle.bd_base.proofs.Lists.{wrapped}
use Rattle.bd_fs.proofs.Loading.{named-file, named-free}
use Rattle.bd_fs.proofs.Names.{lookup-changed}
use Rattle.bd_fs.proofs.fs.load.names_of.Goals as goal
use Rattle.bd_fs.proofs.fs.load.names_of.Goals.{in-Some+in_ok-key+in_ok-insert, in_default}

pub loop-id-preserved : goal.loop-id-preserved
loop-id-preserved c =
    let files : List (Option Inode) = c.args.files.now in
    let id : ℕ = c.loop-id.id in
    let read : c.index-files-id.result ≡ get_or files id None = get_or_read files id c.index-files-id.result c.loop-id-test.true c.index-files-id.is None in
    elim c.match-file.branch [
      | in-Some+in_ok-key+in_ok-insert w ↦
          let key_is = w.in_ok-key.ensures.items ∙ w.as_slice.ensures in
          let wrapped_id = wrapped w.new.result _ id w.new.ensures (omega (arith, c.requires.few_files)) in
          let id_is = sym w.unwrap-id.ensures ∙ wrapped_id in
          let updates = w.in_ok-insert.ensures.updates in
          let found = rw (key_is, id_is) at (lookup-changed (λ (key : Vec ℕ). key.items) w.in_ok-key.key.items
          c.loop-id.names.entries w.insert.new.self.entries (Some w.unwrap-id.result)
          w.in_ok-insert.ensures.updates.3 w.in_ok-insert.ensures.updates.1) in
          rw w.names-is
          (named-file files id w.in-Some.inode _ _ c.requires.names_differ c.loop-id-test.true (sym read ∙ w.in-Some.is) c.loop-id.invariant found)
      | in_default w ↦
          rw w.names-is (λ name. c.loop-id.invariant name ∙ named-free files id c.loop-id-test.true (sym read ∙ w.in_default.is) name)
    ]
