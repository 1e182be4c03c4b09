-- The later items so far stand after the first.
use Rattle.std.proofs.Common.{◌≡◌, ◌++◌, map, take}
use Rattle.bd_script.specs.Texts.{later_items, written_item}
use Rattle.bd_script.proofs.printer.push_items.Given as goal

abbrev pub invariant-loop-item : goal.invariant-loop-item
invariant-loop-item l = l.text.items ≡ l.initial.text.items ++ later_items (map written_item (take l.item-index l.later))
