use Rattle.std.proofs.Common.{◌≡◌, ℕ, ◌||◌, take}
use Rattle.std.specs.List.{list_any}
use Rattle.bd_base.specs.Bytes.{AreBytes}
use Rattle.bd_image.specs.Bits.{is_set}
use Rattle.bd_image.specs.Volumes.{owns_block}
use Rattle.bd_image.proofs.writer.bitmap.mark_files.Given as goal

abbrev pub invariant-loop-inode : goal.invariant-loop-inode
invariant-loop-inode l = record {
  marks : (y : ℕ) → is_set l.bits y ≡ (is_set l.initial.bits y || list_any (owns_block y) (take l.inode-index l.inodes));
  bytes : AreBytes l.initial.bits → AreBytes l.bits;
}
