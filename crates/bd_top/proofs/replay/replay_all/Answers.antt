use Rattle.std.proofs.Common.{[], refl, inl, inr}
use Rattle.bd_outside.specs.Around.{Reading, Writing, reading, writing}
use Rattle.bd_top.specs.declared.status.Outcome.{Outcome}
use Rattle.bd_top.specs.Ends.{ReplayAround, ReplayEnd}
use Rattle.bd_top.proofs.ReplayEnds.{replay_decided}
use Rattle.bd_top.proofs.replay.replay_all.Goals as goal

pub returns-in-Ok : goal.returns-in-Ok
returns-in-Ok g c =
    let image : Reading = reading g.I.Source c.args.image.now c.read_and_run.new.image in
    let script : Reading = reading g.S.Source c.args.script.now c.read_and_run.new.script in
    let out : Writing = writing g.O.Sink c.args.out.now c.write_both-status.new.out in
    let disk : Writing = writing g.D.Sink c.args.disk.now c.write_both-status.new.disk in
    let around : ReplayAround = record { image = image; script = script; out = out; disk = disk } in
    let run = c.in-Ok.run' in
    let outcome : Outcome = record { status = c.write_both-status.result; journal = run.journal; trace = run.trace } in
    let end : ReplayEnd c.args.print around outcome =
    inr (record {
      text = run.text;
      left = run.image;
      run = c.in-Ok.ensures.ok;
      written = rw (c.as_slice.ensures, c.as_slice-in-Ok.ensures) at c.write_both-status.ensures;
    }) in
    record {
      end = end;
      decided = replay_decided c.refused_is_not_accepted.ensures c.one_refusal.ensures image script c.args.print out disk outcome end;
      image_taken = c.in-Ok.ensures.image_taken;
      script_taken = c.in-Ok.ensures.script_taken;
    }

pub returns-in-Err : goal.returns-in-Err
returns-in-Err g c =
    let image : Reading = reading g.I.Source c.args.image.now c.read_and_run.new.image in
    let script : Reading = reading g.S.Source c.args.script.now c.read_and_run.new.script in
    let out : Writing = writing g.O.Sink c.args.out.now c.args.out.now in
    let disk : Writing = writing g.D.Sink c.args.disk.now c.args.disk.now in
    let around : ReplayAround = record { image = image; script = script; out = out; disk = disk } in
    let outcome : Outcome = record { status = c.in-Err.status; journal = []; trace = [] } in
    let end : ReplayEnd c.args.print around outcome =
    inl (record {
      refused = c.in-Err.ensures.err;
      no_run = record { no_journal = refl; no_trace = refl };
      out_same = (refl, refl);
      disk_same = (refl, refl);
    }) in
    rw c.without_run.ensures (record {
      end = end;
      decided = replay_decided c.refused_is_not_accepted.ensures c.one_refusal.ensures image script c.args.print out disk outcome end;
      image_taken = c.in-Err.ensures.image_taken;
      script_taken = c.in-Err.ensures.script_taken;
    })
