use Rattle.std.proofs.Common.{◌-◌, arith, drop, length, subst, take}
use Rattle.std.proofs.lemmas.List.{length-take}
use Rattle.bd_entry.specs.declared.error.JournalError.TheVariants.{BadJournal}
use Rattle.bd_entry.specs.Reading.{RefusesJournal}
use Rattle.bd_top.proofs.VerifyCounts.{bad_line-within, line_count-within}
use Rattle.bd_top.proofs.verify.journal_in.Goals as goal

pub overflow_add-result : goal.overflow_add-result
overflow_add-result c =
    let text = c.args.text.now in
    let place = c.after_report-place.result in
    let rest = take (length text - place) (drop place text) in
    let line = c.in-Err-BadJournal.line in
    let refused : RefusesJournal rest (BadJournal line) =
    subst (RefusesJournal rest) c.in-Err-BadJournal.field-0-is c.in-Err-BadJournal.ensures.refused in
    let bad = bad_line-within rest line refused in
    omega (arith, c.lines_in.ensures, line_count-within (take place text), length-take place text, bad, length-take (length text - place) (drop place text), c.requires.size)
