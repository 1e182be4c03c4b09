-- The lines of the calls so far stand after that of the process.
use Rattle.std.proofs.Common.{◌≡◌, ◌++◌, ◌∷◌, map, take}
use Rattle.bd_script.specs.Texts.{CallForm, ProcForm, lines_text}
use Rattle.bd_script.proofs.printer.push_process.Given as goal

abbrev pub invariant-loop-call : goal.invariant-loop-call
invariant-loop-call l = l.text.items ≡ l.fn.text.items ++ lines_text (ProcForm l.process.uid ∷ map CallForm (take l.call-index l.process.calls))
