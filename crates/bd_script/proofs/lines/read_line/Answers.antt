use Rattle.std.specs.Prelude.{codes}
use Rattle.std.proofs.Common.{◌≡◌, ℕ, List, ◌∷◌, ◌++◌, refl, sym, ap, ◌∙◌, subst, arith}
use Rattle.std.proofs.lemmas.Result.{err_from_is_err_and}
use Rattle.bd_blocks.specs.declared.text.TheConstants.{SPACE}
use Rattle.bd_script.proofs.NamedLines.{schedule-refused}
use Rattle.bd_script.proofs.NumberLines.{proc-refused}
use Rattle.bd_script.proofs.WordTexts.{no-word}
use Rattle.bd_script.specs.Reading.{RefusesLine}
use Rattle.bd_script.specs.Texts.{ScheduleForm}
use Rattle.bd_script.specs.Words.{word_text}
use Rattle.bd_script.proofs.lines.read_line.Goals as goal

pub returns-in_default-read_word-clause-refused : goal.returns-in_default-read_word-clause-refused
returns-in_default-read_word-clause-refused c = λ f _ same.
    no-word c.args.text.now c.in-Some.first.now c.in-Some.rest.now c.in-Some.ensures.split c.in-Some.ensures.first c.in_default-read_word.ensures.none f same

pub returns-in_err-one_number-in-Proc-clause-refused : goal.returns-in_err-one_number-in-Proc-clause-refused
returns-in_err-one_number-in-Proc-clause-refused c =
    let p = err_from_is_err_and c.from_residual.result c.from_residual.ensures.1 in
    let rest = c.in-Some.rest.now in
    let fault = c.in_err-one_number-in-Proc.field-0.0 in
    let line : c.args.text.now ≡ codes "proc " ++ rest = c.in-Some.ensures.split ∙ ap (λ (l : List ℕ). l ++ SPACE ∷ rest)
    (c.in-Some-read_word.ensures.some
    ∙ ap word_text c.in-Proc.is) in
    rw (p.1, p.2) (subst (λ (l : List ℕ). RefusesLine l fault) (sym line)
    (proc-refused _ (λ n small. (omega arith, omega arith)) rest fault c.in_err-one_number-in-Proc.ensures.refused))

pub returns-in_err-read_items-in-Schedule-clause-refused : goal.returns-in_err-read_items-in-Schedule-clause-refused
returns-in_err-read_items-in-Schedule-clause-refused c =
    let p = err_from_is_err_and c.from_residual-in_err-read_items-in-Schedule.result c.from_residual-in_err-read_items-in-Schedule.ensures.1 in
    let rest = c.in-Some.rest.now in
    let fault = c.in_err-read_items-in-Schedule.field-0.0 in
    let line : c.args.text.now ≡ codes "schedule " ++ rest = c.in-Some.ensures.split ∙ ap (λ (l : List ℕ). l ++ SPACE ∷ rest)
    (c.in-Some-read_word.ensures.some ∙ ap word_text c.in-Schedule.is) in
    rw (p.1, p.2) (subst (λ (l : List ℕ). RefusesLine l fault) (sym line) (schedule-refused rest fault c.in_err-read_items-in-Schedule.ensures.refused))

pub returns-in_ok-read_items-in-Schedule-clause-ok : goal.returns-in_ok-read_items-in-Schedule-clause-ok
returns-in_ok-read_items-in-Schedule-clause-ok c =
    let rest = c.in-Some.rest.now in
    let line : c.args.text.now ≡ codes "schedule " ++ rest = c.in-Some.ensures.split ∙ ap (λ (l : List ℕ). l ++ SPACE ∷ rest)
    (c.in-Some-read_word.ensures.some ∙ ap word_text c.in-Schedule.is) in
    let read = c.in_ok-read_items-in-Schedule.ensures.ok in
    record {
      form = ScheduleForm read.0;
      is_form = read.1;
      in_range = read.3;
      spelled = line ∙ ap (λ (l : List ℕ). codes "schedule " ++ l) read.2;
      stands = (read.0, refl, read.4);
    }
