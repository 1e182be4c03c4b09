use Rattle.std.proofs.Common.{ℕ, List, refl, subst, inl, inr, ◌∙◌}
use Rattle.bd_outside.specs.Around.{Reading, Writing, reading, writing}
use Rattle.bd_top.specs.Ends.{CheckEnd, LineWritten}
use Rattle.bd_top.proofs.Ends.{check_decided}
use Rattle.bd_top.proofs.check.check_all.Goals as goal

pub returns-in-Ok : goal.returns-in-Ok
returns-in-Ok g c =
    let image : Reading = reading g.I.Source c.args.image.now c.read_and_tell.new.image in
    let out : Writing = writing g.O.Sink c.args.out.now c.write_line.new.out in
    let told = c.in-Ok.ensures.ok in
    let written = subst (λ (line : List ℕ). LineWritten out line c.write_line.result) (c.as_slice.ensures ∙ told.2) c.write_line.ensures in
    let end : CheckEnd image out c.write_line.result = inr (told.0, told.1, written) in
    record {
      end = end;
      decided = check_decided c.refused_is_not_accepted.ensures c.one_refusal.ensures image out c.write_line.result end;
      image_taken = c.in-Ok.ensures.taken;
    }

pub returns-in-Err : goal.returns-in-Err
returns-in-Err g c =
    let image : Reading = reading g.I.Source c.args.image.now c.read_and_tell.new.image in
    let out : Writing = writing g.O.Sink c.args.out.now c.args.out.now in
    let end : CheckEnd image out c.in-Err.status = inl (c.in-Err.ensures.err, (refl, refl)) in
    record {
      end = end;
      decided = check_decided c.refused_is_not_accepted.ensures c.one_refusal.ensures image out c.in-Err.status end;
      image_taken = c.in-Err.ensures.taken;
    }
