use Rattle.std.proofs.Common.{arith}
use Rattle.bd_image.proofs.RuleOrder.{has_records}
use Rattle.bd_image.specs.Rules.{Bitmap, BlockCount, ExtentCount, ExtentJoins, ExtentRange, ExtentShares}
use Rattle.bd_image.specs.Rules.{FreeRecord, Length, NameForm, NameFresh, Perms, RecordRest, Size, TailZero}
use Rattle.bd_image.specs.Rules.{UsedMark, rule_number}
use Rattle.bd_image.proofs.reader.rules.first_break.Goals as goal

pub check_magic-requires : goal.check_magic-requires
check_magic-requires c = (rw c.in-Magic.is at c.requires) Length (omega arith)

pub check_version-requires : goal.check_version-requires
check_version-requires c = (rw c.in-Version.is at c.requires) Length (omega arith)

pub check_block_count-requires : goal.check_block_count-requires
check_block_count-requires c = (rw c.in-BlockCount.is at c.requires) Length (omega arith)

pub check_inode_count-requires : goal.check_inode_count-requires
check_inode_count-requires c = (rw c.in-InodeCount.is at c.requires) Length (omega arith)

pub check_header_rest-requires : goal.check_header_rest-requires
check_header_rest-requires c = (rw c.in-HeaderRest.is at c.requires) Length (omega arith)

pub check_used_marks-requires : goal.check_used_marks-requires
check_used_marks-requires c = record { image = has_records c.args.bytes.now (rule_number UsedMark) (omega arith) (rw c.in-UsedMark.is at c.requires) }

pub check_free_records-requires : goal.check_free_records-requires
check_free_records-requires c = record { image = has_records c.args.bytes.now (rule_number FreeRecord) (omega arith) (rw c.in-FreeRecord.is at c.requires) }

pub check_perms-requires : goal.check_perms-requires
check_perms-requires c = record { image = has_records c.args.bytes.now (rule_number Perms) (omega arith) (rw c.in-Perms.is at c.requires) }

pub check_extent_counts-requires : goal.check_extent_counts-requires
check_extent_counts-requires c = record { image = has_records c.args.bytes.now (rule_number ExtentCount) (omega arith) (rw c.in-ExtentCount.is at c.requires) }

pub check_name_forms-requires : goal.check_name_forms-requires
check_name_forms-requires c = record { image = has_records c.args.bytes.now (rule_number NameForm) (omega arith) (rw c.in-NameForm.is at c.requires) }

pub check_names_fresh-requires : goal.check_names_fresh-requires
check_names_fresh-requires c = record { image = has_records c.args.bytes.now (rule_number NameFresh) (omega arith) (rw c.in-NameFresh.is at c.requires) }

pub check_record_rests-requires-clause-image : goal.check_record_rests-requires-clause-image
check_record_rests-requires-clause-image c = has_records c.args.bytes.now (rule_number RecordRest) (omega arith) (rw c.in-RecordRest.is at c.requires)

pub check_record_rests-requires-clause-counts : goal.check_record_rests-requires-clause-counts
check_record_rests-requires-clause-counts c = (rw c.in-RecordRest.is at c.requires) ExtentCount (omega arith)

pub check_extent_ranges-requires-clause-image : goal.check_extent_ranges-requires-clause-image
check_extent_ranges-requires-clause-image c = has_records c.args.bytes.now (rule_number ExtentRange) (omega arith) (rw c.in-ExtentRange.is at c.requires)

pub check_extent_ranges-requires-clause-counts : goal.check_extent_ranges-requires-clause-counts
check_extent_ranges-requires-clause-counts c = (rw c.in-ExtentRange.is at c.requires) ExtentCount (omega arith)

pub check_extent_joins-requires-clause-image : goal.check_extent_joins-requires-clause-image
check_extent_joins-requires-clause-image c = has_records c.args.bytes.now (rule_number ExtentJoins) (omega arith) (rw c.in-ExtentJoins.is at c.requires)

pub check_extent_joins-requires-clause-counts : goal.check_extent_joins-requires-clause-counts
check_extent_joins-requires-clause-counts c = (rw c.in-ExtentJoins.is at c.requires) ExtentCount (omega arith)

pub check_extent_shares-requires-clause-image : goal.check_extent_shares-requires-clause-image
check_extent_shares-requires-clause-image c = has_records c.args.bytes.now (rule_number ExtentShares) (omega arith) (rw c.in-ExtentShares.is at c.requires)

pub check_extent_shares-requires-clause-counts : goal.check_extent_shares-requires-clause-counts
check_extent_shares-requires-clause-counts c = (rw c.in-ExtentShares.is at c.requires) ExtentCount (omega arith)

pub check_extent_shares-requires-clause-ranges : goal.check_extent_shares-requires-clause-ranges
check_extent_shares-requires-clause-ranges c = (rw c.in-ExtentShares.is at c.requires) ExtentRange (omega arith)

pub check_sizes-requires-clause-image : goal.check_sizes-requires-clause-image
check_sizes-requires-clause-image c = has_records c.args.bytes.now (rule_number Size) (omega arith) (rw c.in-Size.is at c.requires)

pub check_sizes-requires-clause-counts : goal.check_sizes-requires-clause-counts
check_sizes-requires-clause-counts c = (rw c.in-Size.is at c.requires) ExtentCount (omega arith)

pub check_tails-requires-clause-image : goal.check_tails-requires-clause-image
check_tails-requires-clause-image c = has_records c.args.bytes.now (rule_number TailZero) (omega arith) (rw c.in-TailZero.is at c.requires)

pub check_tails-requires-clause-total : goal.check_tails-requires-clause-total
check_tails-requires-clause-total c = (rw c.in-TailZero.is at c.requires) BlockCount (omega arith)

pub check_tails-requires-clause-counts : goal.check_tails-requires-clause-counts
check_tails-requires-clause-counts c = (rw c.in-TailZero.is at c.requires) ExtentCount (omega arith)

pub check_tails-requires-clause-ranges : goal.check_tails-requires-clause-ranges
check_tails-requires-clause-ranges c = (rw c.in-TailZero.is at c.requires) ExtentRange (omega arith)

pub check_tails-requires-clause-sizes : goal.check_tails-requires-clause-sizes
check_tails-requires-clause-sizes c = (rw c.in-TailZero.is at c.requires) Size (omega arith)

pub check_bitmap-requires-clause-image : goal.check_bitmap-requires-clause-image
check_bitmap-requires-clause-image c = has_records c.args.bytes.now (rule_number Bitmap) (omega arith) (rw c.in-Bitmap.is at c.requires)

pub check_bitmap-requires-clause-total : goal.check_bitmap-requires-clause-total
check_bitmap-requires-clause-total c = (rw c.in-Bitmap.is at c.requires) BlockCount (omega arith)

pub check_bitmap-requires-clause-counts : goal.check_bitmap-requires-clause-counts
check_bitmap-requires-clause-counts c = (rw c.in-Bitmap.is at c.requires) ExtentCount (omega arith)

pub check_bitmap-requires-clause-ranges : goal.check_bitmap-requires-clause-ranges
check_bitmap-requires-clause-ranges c = (rw c.in-Bitmap.is at c.requires) ExtentRange (omega arith)
