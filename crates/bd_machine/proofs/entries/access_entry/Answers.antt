use Rattle.std.proofs.Common.{◌≡◌, ℕ, Bor, Option, None, Some, refl, sym, ap, ◌∙◌}
use Rattle.std.specs.Prelude.{slice_get, IsSome}
use Rattle.std.specs.Option.{option_copied}
use Rattle.std.proofs.lemmas.Option.{none-some}
use Rattle.bd_base.specs.Inodes.{inode_at}
use Rattle.bd_base.specs.Pieces.{Piece}
use Rattle.bd_entry.specs.Calls.{piece_of_call}
use Rattle.bd_entry.specs.Store.{Descriptor}
use Rattle.bd_fs.specs.Files.{Files}
use Rattle.bd_kernel.specs.Changes.{slot_at}
use Rattle.bd_kernel.specs.Holders.{Table}
use Rattle.bd_machine.proofs.EntriesOfAccesses.{IsBlockOf, access_block, access_file}
use Rattle.bd_machine.proofs.entries.access_entry.Goals as goal

there : {X : Type 0} (o : Option (Bor X)) (x : X) → option_copied o ≡ Some x → IsSome o
there None x is = absurd (none-some x is)
there (Some y) x is = refl

opened : (g : _) (c : goal.After-inode g) → slot_at c.args.disk.now.rows c.args.at.process c.args.fd ≡ Some c.unwrap.result.now
opened g c =
    ap (slot_at c.args.disk.now.rows c.args.at.process) (sym c.get.ensures.value)
    ∙ ap (λ (t : Table). slot_at t.rows c.args.at.process c.get.result) (sym c.descriptors.ensures)
    ∙ sym c.get-2.ensures ∙ ap option_copied c.unwrap.ensures

file_at : (g : _) (c : goal.After-inode g) → inode_at c.args.disk.now.files c.unwrap.result.now.file ≡ option_copied c.inode.result
file_at g c =
    ap (inode_at c.args.disk.now.files) (sym (ap (λ (d : Descriptor). d.file) c.behind-get.view_is))
    ∙ ap (λ (fs : Files). inode_at fs.files c.behind-get.inside.file) (sym c.fs.ensures)
    ∙ sym c.inode.ensures.found

pub unwrap-inode-requires : goal.unwrap-inode-requires
unwrap-inode-requires g c =
    let file = access_file _ _ _ _ _ _ _ c.unwrap.result.now c.requires.1 (opened g c) in
    there c.inode.result file.0 (sym (file_at g c) ∙ file.1)

block : (g : _) (c : goal.After-block_at g) (number : ℕ) → c.block_at.result ≡ Some number →
    IsBlockOf c.args.disk.now c.unwrap-inode.result.now c.unwrap-cut.result number
block g c number is =
    let open_is : slot_at c.args.disk.now.rows c.args.at.process c.args.fd ≡ Some c.unwrap.result.now =
    ap (slot_at c.args.disk.now.rows c.args.at.process) (sym c.get.ensures.value)
    ∙ ap (λ (t : Table). slot_at t.rows c.args.at.process c.get.result) (sym c.descriptors.ensures)
    ∙ sym c.get-2.ensures ∙ ap option_copied c.unwrap.ensures in
    let file_is : inode_at c.args.disk.now.files c.unwrap.result.now.file ≡ Some c.unwrap-inode.result.now =
    ap (inode_at c.args.disk.now.files) (sym (ap (λ (d : Descriptor). d.file) c.behind-get.view_is))
    ∙ ap (λ (fs : Files). inode_at fs.files c.behind-get.inside.file) (sym c.fs.ensures)
    ∙ sym c.inode.ensures.found ∙ ap option_copied c.unwrap-inode.ensures in
    let cut_is : piece_of_call c.args.call.now c.args.piece ≡ Some c.unwrap-cut.result = sym c.piece_of.ensures ∙ c.unwrap-cut.ensures in
    let index : c.cut.inside.index ≡ c.unwrap-cut.result.index = ap (λ (p : Piece). p.index) c.cut.view_is in
    let found : slice_get c.unwrap-inode.result.now.blocks c.unwrap-cut.result.index ≡ Some number =
    ap (λ (i : ℕ). slice_get c.unwrap-inode.result.now.blocks i) (sym index) ∙ sym c.block_at.ensures ∙ is in
    access_block _ _ _ _ _ _ _ c.unwrap.result.now c.unwrap-inode.result.now c.unwrap-cut.result number c.requires.1 open_is file_is cut_is found

pub bytes_read-requires-clause-there : goal.bytes_read-requires-clause-there
bytes_read-requires-clause-there g c = λ number is. (block g c number is).there

pub bytes_read-requires-clause-within : goal.bytes_read-requires-clause-within
bytes_read-requires-clause-within g c = λ number is. (block g c number is).within
