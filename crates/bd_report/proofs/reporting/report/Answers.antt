use Rattle.bd_report.specs.Reports.{process_lines}
use Rattle.bd_report.proofs.Lines.{lines_more}
use Rattle.bd_report.proofs.reporting.report.Goals as goal

pub loop-number-preserved : goal.loop-number-preserved
loop-number-preserved c =
    lines_more (process_lines c.args.script.now c.args.journal.now) c.loop-number.number c.push_bytes.new.text.items c.loop-number.text.items
    c.push_process.new.text.items c.loop-number.invariant c.in_ok-push_process.ensures
