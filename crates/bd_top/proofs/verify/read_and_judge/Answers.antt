use Rattle.std.proofs.Common.{List, subst, sym, ◌∙◌, inr}
use Rattle.bd_entry.specs.declared.entry.Entry.{Entry}
use Rattle.bd_store.specs.declared.check.Verdict.{Verdict}
use Rattle.bd_top.specs.Verify.{IsVerdictOn}
use Rattle.bd_top.proofs.VerifyEnds.{no_fault}
use Rattle.bd_top.proofs.verify.read_and_judge.Goals as goal

pub returns-in-Some-clause-err : goal.returns-in-Some-clause-err
returns-in-Some-clause-err g c =
    let v = c.in_ok-volume.volume in
    let script = c.in_ok-script.script in
    let verdict = c.in-Ok-check_journal.verdict in
    let found = c.in-Ok-check_journal.ensures in
    let on = subst (λ (j : List Entry). IsVerdictOn v script j verdict) c.as_slice.ensures
    (record { legal = found.legal; broken = found.broken; unfinished = found.unfinished }) in
    inr (inr (inr (record {
      volume = v;
      script = script;
      verdict = verdict;
      image_read = c.in_ok-volume.ensures.ok;
      script_read = c.in_ok-script.ensures.ok;
      judged = (c.in_ok-entries.entries, c.in_ok-entries.ensures.ok, on);
      fault = sym c.in-Some.ensures;
    })))

pub returns-clause-ok : goal.returns-clause-ok
returns-clause-ok g c =
    let v = c.in_ok-volume.volume in
    let script = c.in_ok-script.script in
    let verdict = c.in-Ok-check_journal.verdict in
    let found = c.in-Ok-check_journal.ensures in
    let on = subst (λ (j : List Entry). IsVerdictOn v script j verdict) c.as_slice.ensures
    (record { legal = found.legal; broken = found.broken; unfinished = found.unfinished }) in
    let legal = subst (λ (w : Verdict). IsVerdictOn v script c.in_ok-entries.entries w) (no_fault verdict (sym c.in-None.ensures)) on in (
      script,
      record {
        volume = v;
        image_read = c.in_ok-volume.ensures.ok;
        script_read = c.in_ok-script.ensures.ok;
        judged = (c.in_ok-entries.entries, c.in_ok-entries.ensures.ok, legal);
      },
      c.in-Ok.ensures,
    )
