-- The lines so far are those of the draft. The rest grows shorter.
use Rattle.std.proofs.Common.{◌≡◌, ◌≤◌, ◌+◌, ◌++◌, ◌∷◌, length}
use Rattle.bd_blocks.specs.declared.text.TheConstants.{LF}
use Rattle.bd_base.specs.Scripts.{IsWithinLimits}
use Rattle.bd_script.specs.Texts.{header, script_lines, script_text}
use Rattle.bd_script.proofs.reader.read_lines.Given as goal

abbrev pub invariant-loop-rest : goal.invariant-loop-rest
invariant-loop-rest l = record {
  limits : IsWithinLimits l.draft;
  split : header ++ LF ∷ l.text ≡ script_text l.draft ++ l.rest;
  number_is : l.number ≡ length (script_lines l.draft) + 2;
  bound : l.number + length l.rest ≤ length l.text + 2;
}

abbrev pub decreases-loop-rest : goal.decreases-loop-rest
decreases-loop-rest l = length l.rest
