use Rattle.std.proofs.Common.{◌≡◌, ◌<◌, ℕ, List, Some, get_or, length, sym, ap, ◌∙◌, subst, arith}
use Rattle.std.specs.Prelude.{slice_get}
use Rattle.std.proofs.Math.Facts.{Fits-of_lt}
use Rattle.bd_base.specs.declared.script.Item.{Item}
use Rattle.bd_base.specs.declared.script.ScheduleLine.{ScheduleLine}
use Rattle.bd_base.specs.declared.script.Script.{Script}
use Rattle.bd_machine.specs.Machine.{Progress, shown}
use Rattle.bd_machine.specs.Tasks.{IsTask, Task, after_turns, turns_before}
use Rattle.bd_machine.proofs.CourseTurns.{IsLineAt, item_taken, item_there, line_at, next_line, script_there, so_far}
use Rattle.bd_machine.proofs.course.take_line.Goals as goal

-- a line of the task is one of the machine's script
line_below : (t : Task) (n line : ℕ) (p : Progress) → p ≡ after_turns t n → line < length t.script.schedule →
    line < length p.state.script.schedule
line_below t n line p at below = subst (λ (s : Script). line < length s.schedule) (sym (script_there t n p at)) below

-- both are the same line
same_items : (script : Script) (i : ℕ) (one other : ScheduleLine) → IsLineAt script i one → IsLineAt script i other →
    length one.items ≡ length other.items
same_items script i one other first second = ap length (sym first.items ∙ second.items)

-- in the loop it is the same line, and the item's number is below the end
record IsInLine (script : Script) (i number : ℕ) (line : ScheduleLine) : Type 0 where
  at : IsLineAt script i line
  below : number < length line.items

line_in_loop : (t : Task) (i number : ℕ) (p q : Progress) (one other : ScheduleLine) (end : ℕ) → IsTask t →
    p ≡ after_turns t (turns_before t.script i) → q ≡ after_turns t (so_far t i number) →
    slice_get p.state.script.schedule i ≡ Some one → slice_get q.state.script.schedule i ≡ Some other →
    end ≡ length one.items → number < end → IsInLine t.script i number other
line_in_loop t i number p q one other end is first now found again count below =
    let at : IsLineAt t.script i one = line_at t (turns_before t.script i) i p one is first found in
    let there : IsLineAt t.script i other = line_at t (so_far t i number) i q other is now again in
    let same = same_items t.script i one other at there in
    record { at = there; below = omega (arith, same, count, below) }

pub line_of-requires : goal.line_of-requires
line_of-requires g c =
    line_below g.task (turns_before g.task.script c.args.line) c.args.line (shown c.args.machine.now) c.requires.1.1 c.requires.1.0

pub line_of-requires-in-loop-number : goal.line_of-requires-in-loop-number
line_of-requires-in-loop-number g c =
    line_below g.task (so_far g.task c.args.line c.loop-number.number) c.args.line (shown c.loop-number.machine)
    c.loop-number.invariant c.requires.1.0

pub offset_bounds-as_slice-number : goal.offset_bounds-as_slice-number
offset_bounds-as_slice-number g c =
    let line =
    line_at g.task (turns_before g.task.script c.args.line) c.args.line (shown c.args.machine.now) c.line_of.result.now c.requires.0
    c.requires.1.1 c.line_of.ensures in
    let few = line.few in
    let count = c.len-number-end.ensures in
    let below = c.loop-number-test.true in
    Fits-of_lt (omega (arith, few, count, below))

pub bounds-as_slice-number : goal.bounds-as_slice-number
bounds-as_slice-number g c =
    let found = line_in_loop g.task c.args.line c.loop-number.number (shown c.args.machine.now) (shown c.loop-number.machine)
    c.line_of.result.now c.line_of-in-loop-number.result.now c.len-number-end.result c.requires.0 c.requires.1.1 c.loop-number.invariant
    c.line_of.ensures c.line_of-in-loop-number.ensures c.len-number-end.ensures c.loop-number-test.true in
    let below = found.below in
    let items = ap length c.as_slice.ensures in
    omega (arith, below, items)

pub take_turns-requires : goal.take_turns-requires
take_turns-requires g c =
    let found = line_in_loop g.task c.args.line c.loop-number.number (shown c.args.machine.now) (shown c.loop-number.machine)
    c.line_of.result.now c.line_of-in-loop-number.result.now c.len-number-end.result c.requires.0 c.requires.1.1 c.loop-number.invariant
    c.line_of.ensures c.line_of-in-loop-number.ensures c.len-number-end.ensures c.loop-number-test.true in
    let item : c.index-as_slice-number.result ≡
    get_or c.line_of-in-loop-number.result.now.items c.loop-number.number c.index-as_slice-number.result =
    c.index-as_slice-number.is
    ∙ ap (λ (items : List Item). get_or items c.loop-number.number c.index-as_slice-number.result) c.as_slice.ensures in
    item_there g.task c.args.line c.loop-number.number c.line_of-in-loop-number.result.now c.index-as_slice-number.result
    (shown c.loop-number.machine) c.requires.0 found.at found.below item c.loop-number.invariant

pub loop-number-preserved : goal.loop-number-preserved
loop-number-preserved g c =
    let found = line_in_loop g.task c.args.line c.loop-number.number (shown c.args.machine.now) (shown c.loop-number.machine)
    c.line_of.result.now c.line_of-in-loop-number.result.now c.len-number-end.result c.requires.0 c.requires.1.1 c.loop-number.invariant
    c.line_of.ensures c.line_of-in-loop-number.ensures c.len-number-end.ensures c.loop-number-test.true in
    let item : c.index-as_slice-number.result ≡
    get_or c.line_of-in-loop-number.result.now.items c.loop-number.number c.index-as_slice-number.result =
    c.index-as_slice-number.is
    ∙ ap (λ (items : List Item). get_or items c.loop-number.number c.index-as_slice-number.result) c.as_slice.ensures in
    item_taken g.task c.args.line c.loop-number.number c.line_of-in-loop-number.result.now c.index-as_slice-number.result
    (shown c.loop-number.machine) (shown c.take_turns.new.machine) found.at found.below item c.loop-number.invariant
    c.in_ok-take_turns.ensures

pub returns : goal.returns
returns g c =
    let line =
    line_at g.task (turns_before g.task.script c.args.line) c.args.line (shown c.args.machine.now) c.line_of.result.now c.requires.0
    c.requires.1.1 c.line_of.ensures in
    let count = c.len-number-end.ensures in
    let past = c.loop-number-test.false in
    let most = c.loop-number.auto.number-end in
    let all : c.loop-number.number ≡ length c.line_of.result.now.items = omega (arith, count, past, most) in
    c.loop-number.invariant
    ∙ ap (λ (n : ℕ). after_turns g.task (so_far g.task c.args.line n)) all
    ∙ ap (after_turns g.task) (sym (next_line g.task.script c.args.line c.line_of.result.now line))
