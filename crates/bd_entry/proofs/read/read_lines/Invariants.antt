-- The text is the journal of the entries so far and the rest. The rest grows shorter.
use Rattle.std.proofs.Common.{◌≡◌, ◌≤◌, ◌+◌, ◌++◌, ◌∷◌, length}
use Rattle.bd_blocks.specs.declared.text.TheConstants.{LF}
use Rattle.bd_entry.specs.Ranges.{AreEntries}
use Rattle.bd_entry.specs.Texts.{header, journal_text}
use Rattle.bd_entry.proofs.read.read_lines.Given as goal

abbrev pub invariant-loop-rest : goal.invariant-loop-rest
invariant-loop-rest l = record {
  good : AreEntries l.entries;
  text : header ++ LF ∷ l.text ≡ journal_text l.entries ++ l.rest;
  number : l.number ≡ length l.entries + 2;
  room : l.number + length l.rest ≤ length l.text + 2;
}

abbrev pub decreases-loop-rest : goal.decreases-loop-rest
decreases-loop-rest l = length l.rest
