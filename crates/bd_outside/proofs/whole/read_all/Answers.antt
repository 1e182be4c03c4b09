use Rattle.std.proofs.Common.{◌≡◌, ◌++◌, ℕ, List, length, take, arith, rules, ap, length-append, length-take-le}
use Rattle.std.proofs.lemmas.Grind.{common_steps}
use Rattle.bd_outside.specs.Around.{Reading, reading}
use Rattle.bd_outside.proofs.Steps.{Rose-later, Consumes-nil, Consumes-trans, ReadAll-at_end, ReadAtMost-more, ReadAtMost-same, ReadPast-more, all_is_short, past_is_long}
use Rattle.bd_outside.proofs.whole.read_all.Goals as goal

pub loop-n-init : goal.loop-n-init
loop-n-init g c = record {
  room = omega (arith, c.as_mut_slice-buf.ensures.len, c.in_ok-room.ensures);
  within = omega (arith, ap (λ (l : List ℕ). length l) c.new-bytes.ensures.items);
  taken = rw c.new-bytes.ensures.items (Consumes-nil _);
  faults = omega arith;
}

pub loop-n-preserved : goal.loop-n-preserved
loop-n-preserved g c =
    let was = c.loop-n.invariant in
    let read = c.in-Bytes.ensures in
    let items : c.extend_from_slice.new.self.items ≡ c.loop-n.bytes.items ++ take c.in-Bytes.n c.read_some.new.buf = search (rules, common_steps) in
    record {
      room = omega (arith, was.room, c.read_some.auto.buf);
      within =
          rw items (omega (
            arith,
            length-append c.loop-n.bytes.items (take c.in-Bytes.n c.read_some.new.buf),
            length-take-le c.in-Bytes.n c.read_some.new.buf read.in_buffer.1,
          ));
      taken = rw items (Consumes-trans _ _ _ _ _ was.taken read.taken);
      faults = omega (arith, was.faults, read.faults);
    }

pub returns-in_err-extend_from_slice-in-Bytes-clause-taken :
    goal.returns-in_err-extend_from_slice-in-Bytes-clause-taken
returns-in_err-extend_from_slice-in-Bytes-clause-taken g c =
    let was = c.loop-n.invariant in
    let read = c.in-Bytes.ensures in
    let source : Reading = reading g.S.Source c.args.source.now c.read_some.new.source in
    ReadAtMost-more source _ _ _ _ _ was.taken read.taken read.in_buffer.1 (omega arith)

pub returns-in-Bytes-2-clause-too_long : goal.returns-in-Bytes-2-clause-too_long
returns-in-Bytes-2-clause-too_long g c = λ _.
    let was = c.loop-n.invariant in
    let read = c.in-Bytes.ensures in
    let source : Reading = reading g.S.Source c.args.source.now c.read_some.new.source in
    (_, ReadPast-more source _ _ _ _ _ was.taken read.taken read.in_buffer.1 was.within (omega arith) (omega arith))

pub returns-in-Bytes-2-clause-short : goal.returns-in-Bytes-2-clause-short
returns-in-Bytes-2-clause-short g c = λ few.
    let was = c.loop-n.invariant in
    let read = c.in-Bytes.ensures in
    let source : Reading = reading g.S.Source c.args.source.now c.read_some.new.source in
    let past = ReadPast-more source _ _ _ _ _ was.taken read.taken read.in_buffer.1 was.within (omega arith) (omega arith) in
    absurd (past_is_long source c.args.limit _ past few)

pub returns-in-Bytes-2-clause-taken : goal.returns-in-Bytes-2-clause-taken
returns-in-Bytes-2-clause-taken g c =
    let was = c.loop-n.invariant in
    let read = c.in-Bytes.ensures in
    let source : Reading = reading g.S.Source c.args.source.now c.read_some.new.source in
    ReadAtMost-more source _ _ _ _ _ was.taken read.taken read.in_buffer.1 (omega arith)

pub returns-in-End-clause-all : goal.returns-in-End-clause-all
returns-in-End-clause-all g c =
    let source : Reading = reading g.S.Source c.args.source.now c.read_some.new.source in
    rw c.from_vec.ensures (ReadAll-at_end source _ _ c.loop-n.invariant.taken c.in-End.ensures.end c.in-End.ensures.taken)

pub returns-in-End-clause-long : goal.returns-in-End-clause-long
returns-in-End-clause-long g c = λ many.
    let was = c.loop-n.invariant in
    let source : Reading = reading g.S.Source c.args.source.now c.read_some.new.source in
    absurd (all_is_short source c.args.limit _ (ReadAll-at_end source _ _ was.taken c.in-End.ensures.end c.in-End.ensures.taken) was.within many)

pub returns-in-End-clause-taken : goal.returns-in-End-clause-taken
returns-in-End-clause-taken g c =
    let source : Reading = reading g.S.Source c.args.source.now c.read_some.new.source in
    ReadAtMost-same source _ _ _ c.loop-n.invariant.taken c.in-End.ensures.taken (omega (arith, c.loop-n.invariant.within))

pub returns-in-Failed-clause-fault : goal.returns-in-Failed-clause-fault
returns-in-Failed-clause-fault g c = λ _. Rose-later _ _ _ _ c.loop-n.invariant.faults c.in-Failed.ensures.failed

pub returns-in-Failed-clause-taken : goal.returns-in-Failed-clause-taken
returns-in-Failed-clause-taken g c =
    let source : Reading = reading g.S.Source c.args.source.now c.read_some.new.source in
    ReadAtMost-same source _ _ _ c.loop-n.invariant.taken c.in-Failed.ensures.taken (omega (arith, c.loop-n.invariant.within))
