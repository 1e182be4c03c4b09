use Rattle.std.proofs.lemmas.Result.{IfErr-weaker, err_from_is_err_and}
use Rattle.bd_script.specs.declared.fault.Fault.{Fault}
use Rattle.bd_script.specs.Drafts.{RefusesForm}
use Rattle.bd_script.specs.Lines.{Stands}
use Rattle.bd_script.specs.Rules.{IsForm, IsInRange}
use Rattle.bd_script.specs.Texts.{Form}
use Rattle.bd_script.specs.Refused.{RefusesNext}
use Rattle.bd_script.proofs.Breaches.{form-breaks, line-breaks}
use Rattle.bd_script.proofs.reader.take_line.Goals as goal

pub returns-in_err-line-clause-refused : goal.returns-in_err-line-clause-refused
returns-in_err-line-clause-refused c =
    let p = err_from_is_err_and c.from_residual.result c.from_residual.ensures.1 in
    rw (p.1, p.2) (line-breaks c.args.draft c.args.text.now c.in_err-line.field-0.0 c.in_err-line.ensures.refused)

pub returns-clause-refused : goal.returns-clause-refused
returns-clause-refused c =
    let read = c.in_ok-line.ensures.ok in
    IfErr-weaker c.with_line.result (λ (fault : Fault). (form : Form) → IsForm form → IsInRange form → Stands c.in_ok-line.line form
    → RefusesForm c.args.draft form fault)
    (RefusesNext c.args.draft c.args.text.now)
    (λ fault refused. form-breaks c.args.draft c.args.text.now read.form read.is_form read.in_range read.spelled fault
    (refused read.form read.is_form read.in_range read.stands)) c.with_line.ensures.refused
