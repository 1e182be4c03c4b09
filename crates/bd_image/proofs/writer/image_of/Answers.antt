-- The files fit in their records, and the four appends make up the image.
use Rattle.std.proofs.Common.{◌++◌, ◌+◌, ◌*◌, ℕ, List, Option, length, sym, ap, ◌∙◌, subst}
use Rattle.std.proofs.lemmas.List.{take_rest}
use Rattle.std.specs.List.{All}
use Rattle.std.specs.Option.{IfSome}
use Rattle.bd_base.specs.declared.volume.Inode.{Inode}
use Rattle.bd_image.specs.Limits.{FitsRecord}
use Rattle.bd_image.proofs.Limits.{AreFiles-fit}
use Rattle.bd_image.proofs.Whole.{appends-image}
use Rattle.bd_image.proofs.writer.image_of.Goals as goal

pub push_records-requires : goal.push_records-requires
push_records-requires c =
    subst (λ (inodes : List (Option Inode)). All (λ inode. IfSome inode FitsRecord) inodes) (sym c.as_slice-inodes.ensures)
    (AreFiles-fit c.args.volume.now.total c.args.volume.now.inodes c.requires.files)

pub returns : goal.returns
returns c =
    let bytes : List ℕ = c.as_slice-bytes.result.now in
    let place : ℕ = 8192 + 256 * length c.as_slice-inodes.result.now in
    c.from_vec.ensures
    ∙ appends-image c.args.volume.now c.in_ok-image.image.items c.push_header.new.out.items c.push_bitmap.new.out.items
    c.push_records.new.out.items c.extend_from_slice.new.self.items bytes c.as_slice-inodes.result.now c.as_slice-inodes.ensures c.as_slice-bytes.ensures
    c.requires.files.whole_blocks c.in_ok-image.ensures.items c.in_ok-push_header.ensures c.in_ok-push_bitmap.ensures c.in_ok-push_records.ensures
    (c.in_ok-extend_from_slice.ensures.items ∙ ap (λ (l : List ℕ). c.push_records.new.out.items ++ l) (take_rest bytes place))
