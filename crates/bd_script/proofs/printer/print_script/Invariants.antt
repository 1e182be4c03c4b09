-- The lines of the processes and the schedule lines so far stand after the header.
use Rattle.std.proofs.Common.{◌≡◌, ◌++◌, ◌∷◌, map, take}
use Rattle.std.specs.List.{flat_map}
use Rattle.bd_blocks.specs.declared.text.TheConstants.{LF}
use Rattle.bd_script.specs.Texts.{header, lines_text, process_lines, schedule_line}
use Rattle.bd_script.proofs.printer.print_script.Given as goal

abbrev pub invariant-loop-process : goal.invariant-loop-process
invariant-loop-process l = l.text.items ≡ header ++ LF ∷ lines_text (flat_map process_lines (take l.process-index l.script.processes))

abbrev pub invariant-loop-line : goal.invariant-loop-line
invariant-loop-line l =
    l.text.items ≡ header ++ LF ∷ lines_text (flat_map process_lines l.script.processes ++ map schedule_line (take l.line-index l.script.schedule))
