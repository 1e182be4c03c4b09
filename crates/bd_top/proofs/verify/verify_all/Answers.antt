use Rattle.std.proofs.Common.{List, ℕ, refl, subst, inl, inr, ◌∙◌}
use Rattle.bd_outside.specs.Around.{Reading, Writing, reading, writing}
use Rattle.bd_top.specs.Ends.{LineWritten}
use Rattle.bd_top.specs.Verify.{VerifyEnd}
use Rattle.bd_top.proofs.VerifyEnds.{verify_decided}
use Rattle.bd_top.proofs.verify.verify_all.Goals as goal

pub returns-in-Ok : goal.returns-in-Ok
returns-in-Ok g c =
    let image : Reading = reading g.I.Source c.args.image.now c.read_and_judge.new.image in
    let script : Reading = reading g.S.Source c.args.script.now c.read_and_judge.new.script in
    let journal : Reading = reading g.J.Source c.args.journal.now c.read_and_judge.new.journal in
    let out : Writing = writing g.O.Sink c.args.out.now c.write_line.new.out in
    let told = c.in-Ok.ensures.ok in
    let written = subst (λ (line : List ℕ). LineWritten out line c.write_line.result) (c.as_slice.ensures ∙ told.2) c.write_line.ensures in
    let end : VerifyEnd image script journal out c.write_line.result = inr (told.0, told.1, written) in
    let decided = verify_decided c.one_journal.ensures c.bad_is_no_journal.ensures c.one_bad_line.ensures
    c.refused_is_not_accepted.ensures c.one_refusal.ensures image script journal out c.write_line.result end in
    record {
      end = end;
      decided = decided;
      image_taken = c.in-Ok.ensures.image_taken;
      script_taken = c.in-Ok.ensures.script_taken;
      journal_taken = c.in-Ok.ensures.journal_taken;
    }

pub returns-in-Err : goal.returns-in-Err
returns-in-Err g c =
    let image : Reading = reading g.I.Source c.args.image.now c.read_and_judge.new.image in
    let script : Reading = reading g.S.Source c.args.script.now c.read_and_judge.new.script in
    let journal : Reading = reading g.J.Source c.args.journal.now c.read_and_judge.new.journal in
    let out : Writing = writing g.O.Sink c.args.out.now c.args.out.now in
    let end : VerifyEnd image script journal out c.in-Err.status = inl (c.in-Err.ensures.err, (refl, refl)) in
    let decided = verify_decided c.one_journal.ensures c.bad_is_no_journal.ensures c.one_bad_line.ensures
    c.refused_is_not_accepted.ensures c.one_refusal.ensures image script journal out c.in-Err.status end in
    record {
      end = end;
      decided = decided;
      image_taken = c.in-Err.ensures.image_taken;
      script_taken = c.in-Err.ensures.script_taken;
      journal_taken = c.in-Err.ensures.journal_taken;
    }
