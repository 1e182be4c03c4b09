use Rattle.std.proofs.Common.{◌≡◌, ◌&&◌, ℕ, List, Option, None, Some, nat_eq, length, ap, sym, subst, ◌∙◌}
use Rattle.std.proofs.lemmas.List.{get_or_read, take_all}
use Rattle.bd_base.specs.declared.volume.Inode.{Inode}
use Rattle.bd_base.specs.Allocation.{is_data_block, is_free_block}
use Rattle.bd_base.specs.Inodes.{block_lists, blocks_of_slot, inode_at}
use Rattle.bd_fs.proofs.Loading.{FreeAfter-file, FreeAfter-free, and_true, below_total}
use Rattle.bd_fs.proofs.fs.load.free_blocks_of.Goals as goal
use Rattle.bd_fs.proofs.fs.load.free_blocks_of.Goals.{in-Some, in_default}

pub loop-file-init : goal.loop-file-init
loop-file-init c = record {
  same_total = c.in_ok-free.ensures.total;
  blocks = λ b. c.in_ok-free.ensures.free b ∙ sym (and_true (is_data_block c.args.total _ b));
}

pub loop-file-preserved : goal.loop-file-preserved
loop-file-preserved c =
    let files : List (Option Inode) = c.args.files.now in
    let i : ℕ = c.loop-file.file-index in
    let read : c.file-item.result ≡ inode_at files i = get_or_read files i c.file-item.result c.loop-file-test.true c.file-item.is None in
    elim c.match-file.branch [
      | in-Some w ↦
          let has : blocks_of_slot (inode_at files i) ≡ w.as_slice.result.now =
          ap blocks_of_slot (sym read ∙ w.in-Some.is) ∙ sym w.as_slice.ensures in
          rw w.free-is
          (FreeAfter-file c.args.total files i c.loop-file.free w.remove_blocks.new.free w.as_slice.result.now c.loop-file-test.true
          has c.loop-file.invariant w.remove_blocks.ensures.total w.remove_blocks.ensures.free)
      | in_default w ↦
          rw w.free-is
          (FreeAfter-free c.args.total files i c.loop-file.free c.loop-file-test.true (sym read ∙ w.in_default.is) c.loop-file.invariant)
    ]

pub remove_blocks-requires : goal.remove_blocks-requires
remove_blocks-requires c =
    let files : List (Option Inode) = c.args.files.now in
    let i : ℕ = c.loop-file.file-index in
    let read : c.file-item.result ≡ inode_at files i = get_or_read files i c.file-item.result c.loop-file-test.true c.file-item.is None in
    let valid = c.requires.each i c.in-Some.inode (sym read ∙ c.in-Some.is) in
    rw c.as_slice.ensures
    (below_total c.args.total (length files) c.loop-file.free c.in-Some.inode.blocks c.loop-file.invariant.same_total valid.in_data_area)

pub returns : goal.returns
returns c =
    let files : List (Option Inode) = c.args.files.now in
    let all = take_all c.loop-file.file-index files c.loop-file-test.false in
    record {
      total = c.loop-file.invariant.same_total;
      free = λ b.
          c.loop-file.invariant.blocks b
          ∙ ap (λ (fs : List (Option Inode)). is_free_block c.args.total (length files) (block_lists fs) b) all;
    }
