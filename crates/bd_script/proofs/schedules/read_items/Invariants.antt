-- How far the text was read. The rest grows shorter.
use Rattle.std.proofs.Common.{length}
use Rattle.bd_script.proofs.ItemTexts.{Scanned}
use Rattle.bd_script.proofs.schedules.read_items.Given as goal

abbrev pub invariant-loop-field : goal.invariant-loop-field
invariant-loop-field l = Scanned l.text l.rest l.scan.in_range l.scan.kept.items

abbrev pub decreases-loop-field : goal.decreases-loop-field
decreases-loop-field l = length l.rest
