-- The text so far is the header and the lines of the entries so far.
use Rattle.std.proofs.Common.{◌≡◌, ◌++◌, ◌∷◌, take}
use Rattle.bd_blocks.specs.declared.text.TheConstants.{LF}
use Rattle.bd_entry.specs.Texts.{header, lines_text}
use Rattle.bd_entry.proofs.print.print_journal.Given as goal

abbrev pub invariant-loop-entry : goal.invariant-loop-entry
invariant-loop-entry l = l.text.items ≡ header ++ LF ∷ lines_text (take l.entry-index l.entries)
