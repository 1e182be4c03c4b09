use Rattle.std.proofs.Common.{◌≡◌, ◌+◌, ◌-◌, List, Option, count_by, length, arith, ap, ◌∙◌, sym, subst}
use Rattle.std.specs.List.{range_with_len}
use Rattle.bd_base.specs.declared.volume.Inode.{Inode}
use Rattle.bd_base.specs.Files.{data_start}
use Rattle.bd_base.specs.Inodes.{AreFiles, is_free}
use Rattle.bd_top.specs.CheckLine.{owned_count}
use Rattle.bd_top.proofs.Counting.{free_and_owned}
use Rattle.bd_top.proofs.check.free_blocks.Goals as goal

pub owned_blocks-requires : goal.owned_blocks-requires
owned_blocks-requires c =
    subst (AreFiles c.args.volume.now.total) (sym c.as_slice-inodes.ensures)
    (c.sound_volumes.ensures.sound c.args.volume.now c.requires).files

-- the blocks that are free, those of files and those of the metadata
all_blocks : (c : goal.After-owned_blocks) →
    count_by (is_free c.args.volume.now.total c.as_slice-inodes.result.now) (range_with_len 0 c.args.volume.now.total)
    + owned_count c.as_slice-inodes.result.now + data_start (length c.as_slice-inodes.result.now) ≡ c.args.volume.now.total
all_blocks c =
    free_and_owned c.args.volume.now.total c.as_slice-inodes.result.now
    (subst (AreFiles c.args.volume.now.total) (sym c.as_slice-inodes.ensures)
    (c.sound_volumes.ensures.sound c.args.volume.now c.requires).files)

pub overflow_sub-result-2 : goal.overflow_sub-result-2
overflow_sub-result-2 c = omega (arith, all_blocks c, c.owned_blocks.ensures, c.from.ensures, c.data_start-metadata.ensures)

pub returns : goal.returns
returns c =
    let free = λ (files : List (Option Inode)). count_by (is_free c.args.volume.now.total files) (range_with_len 0 c.args.volume.now.total) in
    let count : c.from.result - c.data_start-metadata.result - c.owned_blocks.result ≡ free c.as_slice-inodes.result.now =
    omega (arith, all_blocks c, c.owned_blocks.ensures, c.from.ensures, c.data_start-metadata.ensures) in
    count ∙ ap free c.as_slice-inodes.ensures
