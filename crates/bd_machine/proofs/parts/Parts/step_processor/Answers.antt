use Rattle.std.proofs.Common.{◌≡◌, ◌≢◌, Some, length, refl, sym, ap, ◌∙◌, subst, arith, get_or}
use Rattle.bd_base.specs.declared.script.Process.{Process as ScriptProcess}
use Rattle.bd_base.specs.declared.script.Script.{Script}
use Rattle.bd_entry.specs.declared.act.Act.TheVariants as acts
use Rattle.bd_machine.specs.Shows.{Shows}
use Rattle.bd_machine.specs.Turns.{AreBuilt, IsAt, IsNextAct, wait_of}
use Rattle.bd_machine.proofs.ProcessorBegins.{process_read, process_there}
use Rattle.bd_machine.proofs.ProcessorFacts.{outcome_idle, took_idle, took_wait}
use Rattle.bd_machine.proofs.ProcessorIdle.{none_runs, one_runs, process_of_script}
use Rattle.bd_machine.proofs.ProcessorKinds.{built_here, revokes_nothing}
use Rattle.bd_machine.proofs.ProcessorWaits.{has_come, is_not_held, not_some, waits_of}
use Rattle.bd_turns.specs.Processors.{running_of}
use Rattle.bd_turns.specs.State.{holder_of}
use Rattle.bd_machine.proofs.parts.Parts.step_processor.Goals as goal

pub returns-then-from-calls-clause-ok : goal.returns-then-from-calls-clause-ok
returns-then-from-calls-clause-ok g c =
    let x = c.args.self.now in
    let script = c.args.script.now in
    let m = g.m in
    let process = c.args.p in
    let is : IsAt g.T.Tables script x m = c.requires.1.1.1.0 in
    let it : ScriptProcess = c.index-as_slice-get.result in
    let y = c.index.result.now in
    let there = process_read x process c.get-2.result y c.get-2.ensures.value (process_there script x m process is.shows c.requires.1.1.1.1) c.index.ensures in
    let of = process_of_script script process c.get.result c.as_slice.result.now it c.requires.1.1.1.1 c.as_slice.ensures c.get.ensures.value
    c.index-as_slice-get.is in
    let same : length (get_or c.as_slice.result.now c.get.result it).calls ≡ length it.calls =
    ap (λ (q : ScriptProcess). length q.calls) (sym c.index-as_slice-get.is) in
    let calls = c.len-calls.ensures in
    let all : y.ended ≡ length it.calls = omega (arith, same, calls, c.from.ensures, c.if-from-calls.true) in
    let count : length m.script.processes ≡ length script.processes = ap (λ (s : Script). length s.processes) is.shows.script_is in
    took_idle script x x m process is.shows
    (outcome_idle m process (omega (arith, count, c.requires.1.1.1.1)) (none_runs script x m process y it is there of all)) refl refl

pub wait-requires : goal.wait-requires
wait-requires g c =
    let x = c.args.self.now in
    let script = c.args.script.now in
    let m = g.m in
    let process = c.args.p in
    let is : IsAt g.T.Tables script x m = c.requires.1.1.1.0 in
    let it : ScriptProcess = c.index-as_slice-get.result in
    let y = c.index.result.now in
    let there = process_read x process c.get-2.result y c.get-2.ensures.value (process_there script x m process is.shows c.requires.1.1.1.1) c.index.ensures in
    let of = process_of_script script process c.get.result c.as_slice.result.now it c.requires.1.1.1.1 c.as_slice.ensures c.get.ensures.value
    c.index-as_slice-get.is in
    let same : length (get_or c.as_slice.result.now c.get.result it).calls ≡ length it.calls =
    ap (λ (q : ScriptProcess). length q.calls) (sym c.index-as_slice-get.is) in
    let calls = c.len-calls.ensures in
    let differ : y.ended ≢ length it.calls =
    λ all. c.if-from-calls.false (omega (arith, same, calls, c.from.ensures, all)) in
    λ κs out. (out.0, (out.1.0, (out.1.1, (is, (c.requires.1.1.1.1, one_runs script x m process y it is there of differ)))))

pub begin-requires : goal.begin-requires
begin-requires g c =
    let x = c.args.self.now in
    let script = c.args.script.now in
    let m = g.m in
    let process = c.args.p in
    let is : IsAt g.T.Tables script x m = c.requires.1.1.1.0 in
    let it : ScriptProcess = c.index-as_slice-get.result in
    let y = c.index.result.now in
    let there = process_read x process c.get-2.result y c.get-2.ensures.value (process_there script x m process is.shows c.requires.1.1.1.1) c.index.ensures in
    let of = process_of_script script process c.get.result c.as_slice.result.now it c.requires.1.1.1.1 c.as_slice.ensures c.get.ensures.value
    c.index-as_slice-get.is in
    let same : length (get_or c.as_slice.result.now c.get.result it).calls ≡ length it.calls =
    ap (λ (q : ScriptProcess). length q.calls) (sym c.index-as_slice-get.is) in
    let calls = c.len-calls.ensures in
    let differ : y.ended ≢ length it.calls =
    λ all. c.if-from-calls.false (omega (arith, same, calls, c.from.ensures, all)) in
    λ κs out. (out.0, (out.1.0, (out.1.1, (is, (c.requires.1.1.1.1, one_runs script x m process y it is there of differ)))))

pub returns-in-Some-clause-ok : goal.returns-in-Some-clause-ok
returns-in-Some-clause-ok g c =
    let x = c.args.self.now in
    let is : Some c.in-Some.wait ≡ wait_of g.m c.args.p = rw c.in-Some.is at c.wait.ensures in
    took_wait c.args.script.now x x g.m c.args.p c.in-Some.wait c.requires.1.1.1.0.shows (waits_of g.m c.args.p c.in-Some.wait (sym is)) refl refl

pub unreachable-requires : goal.unreachable-requires
unreachable-requires g c =
    is_not_held g.m c.args.p c.in-Busy.field-0 c.in-Busy.field-1 c.in-Busy.ensures (sym c.wait.ensures ∙ not_some c.wait.result c.in_default.not-Some)

pub unreachable-requires-in-Revoke : goal.unreachable-requires-in-Revoke
unreachable-requires-in-Revoke g c =
    let m = g.m in
    let next : IsNextAct m c.args.p (acts.Revoke c.in-Revoke.field-0) = c.in-Revoke.ensures in
    let built = built_here c.args.script.now c.args.self.now m c.args.p next.place c.requires.1.1.1.0 next.running_is in
    revokes_nothing m.store (holder_of m) (running_of m next.place) c.in-Revoke.field-0 built next.next

pub poll-requires : goal.poll-requires
poll-requires g c =
    let m = g.m in
    let is : IsAt g.T.Tables c.args.script.now c.args.self.now m = c.requires.1.1.1.0 in
    let stays = c.begin.ensures.stays in
    let free = sym c.wait.ensures ∙ not_some c.wait.result c.in_default.not-Some in
    let next : IsNextAct m c.args.p acts.Poll = c.in-Poll.ensures in
    let now : IsAt g.T.Tables m.script c.begin.new.self m =
    record {
      shows = subst (λ (s : Script). Shows g.T.Tables s c.begin.new.self m) (sym is.shows.script_is) stays.shows;
      reached = is.reached;
      built = subst AreBuilt (sym is.shows.script_is) is.built;
    } in
    λ κs out. (
      out.0,
      (
        out.1.0,
        (
          out.1.1,
          (
            now,
            (
              c.in_ok-begin.ensures.begun,
              (
                next,
                has_come c.args.script.now c.begin.new.self m c.args.p stays.shows next free,
              ),
            ),
          ),
        ),
      ),
    )
