use Rattle.std.proofs.Common.{◌≡◌, ◌<◌, ℕ, length, subst, sym, arith, ⊎_elim}
use Rattle.std.proofs.lemmas.Bool.{cases_eq}
use Rattle.bd_machine.specs.Machine.{IsFirstUnfinished}
use Rattle.bd_entry.specs.Calls.{calls_of}
use Rattle.bd_machine.proofs.ShowingEnded.{all_are, calls_are, ended_is, first_is, has_ended_at, not_all}
use Rattle.bd_machine.proofs.ShowingLast.{process_of}
use Rattle.bd_machine.proofs.ShowingMachine.{in_its_states}
use Rattle.bd_turns.specs.State.{progress_of}
use Rattle.bd_machine.proofs.machine.Machine.unfinished.Goals as goal

pub returns-then-from-calls-clause-none : goal.returns-then-from-calls-clause-none
returns-then-from-calls-clause-none g c =
    in_its_states c.self.inside.script c.self.inside.parts c.args.self.now _ c.self.view_is c.self.invariant
    (λ m at.
    let script = c.self.inside.script in
    let n = c.loop-number.number in
    let within : n < length script.processes = omega (arith, c.loop-number-test.true, c.len-number-end.ensures) in
    let here = ended_is script c.self.inside.parts m at n c.index.result.now within c.index.ensures in
    let calls = calls_are script c.self.inside.parts m at n c.index-as_slice-number.result c.as_slice.result.now within c.as_slice.ensures in
    sym
    (not_all script c.self.inside.parts m at n within
    (omega (arith, here, calls, c.if-from-calls.true, c.from.ensures, c.len-calls.ensures))))

pub returns-then-from-calls-clause-first : goal.returns-then-from-calls-clause-first
returns-then-from-calls-clause-first g c =
    in_its_states c.self.inside.script c.self.inside.parts c.args.self.now _ c.self.view_is c.self.invariant
    (λ m at.
    let script = c.self.inside.script in
    let n = c.loop-number.number in
    let within : n < length script.processes = omega (arith, c.loop-number-test.true, c.len-number-end.ensures) in
    let calls = calls_are script c.self.inside.parts m at n c.index-as_slice-number.result c.as_slice.result.now within c.as_slice.ensures in
    subst
    (λ (k : ℕ). IsFirstUnfinished m (record { process = k; call = c.index.result.now.ended }))
    (sym (process_of c.new.result _ n c.unwrap.result c.new.ensures c.unwrap.ensures))
    (first_is script c.self.inside.parts m at n c.index.result.now within c.index.ensures
    (omega (arith, calls, c.if-from-calls.true, c.from.ensures, c.len-calls.ensures)) (c.loop-number.invariant m at)))

pub loop-number-preserved : goal.loop-number-preserved
loop-number-preserved g c m at process lt =
    let script = c.self.inside.script in
    let n = c.loop-number.number in
    let within : n < length script.processes = omega (arith, c.loop-number-test.true, c.len-number-end.ensures) in
    let here = ended_is script c.self.inside.parts m at n c.index.result.now within c.index.ensures in
    let calls = calls_are script c.self.inside.parts m at n c.index-as_slice-number.result c.as_slice.result.now within c.as_slice.ensures in
    ⊎_elim {C = (progress_of m process).ended ≡ length (calls_of script process)}
    (λ same.
    subst (λ (k : ℕ). (progress_of m k).ended ≡ length (calls_of script k)) (sym same)
    (has_ended_at script c.self.inside.parts m at n
    (omega (arith, here, calls, c.if-from-calls.false, c.from.ensures, c.len-calls.ensures))))
    (λ differ. c.loop-number.invariant m at process (omega (arith, lt, differ)))
    (cases_eq process n)

pub returns-clause-none : goal.returns-clause-none
returns-clause-none g c =
    in_its_states c.self.inside.script c.self.inside.parts c.args.self.now _ c.self.view_is c.self.invariant
    (λ m at.
    sym
    (all_are c.self.inside.script c.self.inside.parts m at
    (λ i within. c.loop-number.invariant m at i (omega (arith, within, c.loop-number-test.false, c.len-number-end.ensures)))))

pub returns-clause-first : goal.returns-clause-first
returns-clause-first g c =
    in_its_states c.self.inside.script c.self.inside.parts c.args.self.now _ c.self.view_is c.self.invariant (λ m at. tt)
