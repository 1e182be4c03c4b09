use Rattle.std.proofs.Common.{◌≡◌, ◌+◌, ◌*◌, ◌≤◌, ℕ, length, sym, ap, ◌∙◌, subst, arith}
use Rattle.std.proofs.Math.Facts.{Fits-of_lt}
use Rattle.bd_base.specs.declared.script.Script.{Script}
use Rattle.bd_machine.specs.Machine.{Progress, shown, stepped}
use Rattle.bd_machine.proofs.ShowingMachine.{of_state}
use Rattle.bd_turns.specs.Turns.{all_ended}
use Rattle.bd_machine.specs.Tasks.{IsTask, Task, after_turns}
use Rattle.bd_machine.proofs.CourseRounds.{actor_made, next_fits, rounds_begin, rounds_end, rounds_go_on}
use Rattle.bd_machine.proofs.CourseTurns.{script_there}
use Rattle.bd_turns.specs.Course.{scheduled}
use Rattle.bd_turns.specs.Reached.{IsActor}
use Rattle.bd_machine.proofs.course.take_rounds.Goals as goal

-- a task's machine has not too many processes
few_processes : (t : Task) (n : ℕ) (p : Progress) → IsTask t → p ≡ after_turns t n → length p.state.script.processes ≤ 16
few_processes t n p is at =
    subst (λ (s : Script). length s.processes ≤ 16) (sym (script_there t n p at)) is.limits.process_count

pub overflow_mul-actors : goal.overflow_mul-actors
overflow_mul-actors g c =
    let few = few_processes g.task (length (scheduled g.task.script)) (shown c.args.machine.now) c.requires.0 c.requires.1 in
    let script = ap (λ (s : Script). length s.processes) c.script.ensures in
    let count = c.len.ensures in
    Fits-of_lt (omega (arith, few, script, count))

pub overflow_add-actors : goal.overflow_add-actors
overflow_add-actors g c =
    let few = few_processes g.task (length (scheduled g.task.script)) (shown c.args.machine.now) c.requires.0 c.requires.1 in
    let script = ap (λ (s : Script). length s.processes) c.script.ensures in
    let count = c.len.ensures in
    Fits-of_lt (omega (arith, few, script, count))

pub loop-machine-init : goal.loop-machine-init
loop-machine-init g c =
    rounds_begin g.task (shown c.args.machine.now) (2 * c.len.result + 1) c.requires.1
    (ap (λ (n : ℕ). 2 * n + 1) (c.len.ensures ∙ ap (λ (s : Script). length s.processes) c.script.ensures))

pub take_turn-requires : goal.take_turn-requires
take_turn-requires g c =
    let p = shown c.loop-machine.machine in
    let actors = 2 * c.len.result + 1 in
    let made = actor_made c.loop-machine.next c.unwrap.result c.new.result c.new.ensures c.unwrap.ensures in
    subst (IsActor p.state) (sym made) (next_fits g.task p c.loop-machine.next actors c.requires.0 c.loop-machine.invariant)

pub loop-machine-smaller : goal.loop-machine-smaller
loop-machine-smaller g c =
    let p = shown c.loop-machine.machine in
    let actors = 2 * c.len.result + 1 in
    let made = actor_made c.loop-machine.next c.unwrap.result c.new.result c.new.ensures c.unwrap.ensures in
    let more = rounds_go_on g.task p (shown c.take_turn.new.machine) c.loop-machine.next actors c.requires.0
    c.loop-machine.invariant
    (sym (of_state c.loop-machine.machine (λ m. c.finished.result ≡ all_ended m) c.finished.ensures.ended)
    ∙ c.loop-machine-test.true) (c.in_ok-take_turn.ensures ∙ ap (stepped p) made) in
    more.fewer

pub loop-machine-preserved : goal.loop-machine-preserved
loop-machine-preserved g c =
    let p = shown c.loop-machine.machine in
    let actors = 2 * c.len.result + 1 in
    let made = actor_made c.loop-machine.next c.unwrap.result c.new.result c.new.ensures c.unwrap.ensures in
    let more = rounds_go_on g.task p (shown c.take_turn.new.machine) c.loop-machine.next actors c.requires.0
    c.loop-machine.invariant
    (sym (of_state c.loop-machine.machine (λ m. c.finished.result ≡ all_ended m) c.finished.ensures.ended)
    ∙ c.loop-machine-test.true) (c.in_ok-take_turn.ensures ∙ ap (stepped p) made) in
    more.rounds

pub returns : goal.returns
returns g c =
    rounds_end g.task (shown c.loop-machine.machine) c.loop-machine.next (2 * c.len.result + 1) c.loop-machine.invariant
    (sym (of_state c.loop-machine.machine (λ m. c.finished.result ≡ all_ended m) c.finished.ensures.ended)
    ∙ c.loop-machine-test.false)
