use Rattle.std.proofs.Common.{◌≡◌, ◌+◌, ◌-◌, ◌*◌, ◌≤◌, ℕ, length, subst, sym, ap, ◌∙◌, IfOk}
use Rattle.bd_base.specs.declared.script.Script.{Script}
use Rattle.bd_machine.specs.Turns.{TookTurn}
use Rattle.bd_machine.specs.Shows.{plain_sides}
use Rattle.bd_machine.proofs.ShowingLast.{engine_of, process_of}
use Rattle.bd_machine.proofs.ShowingTurns.{last_number}
use Rattle.bd_turns.specs.Turns.{process_count}
use Rattle.bd_machine.proofs.machine.calls.Parts+PlainTables+M.step.Goals as goal

pub returns-then-number-count-2-clause-ok : goal.returns-then-number-count-2-clause-ok
returns-then-number-count-2-clause-ok g c =
    let count : c.len-count.result ≡ length c.args.script.now.processes = c.len-count.ensures ∙ c.args.self.now.processes.ok.0 ∙ c.requires.1.0.shows.count in
    let process : c.unwrap-then-number-count-2.result ≡ c.get-number.result - c.len-count.result =
    process_of c.new-then-number-count-2.result _ (c.get-number.result - c.len-count.result)
    c.unwrap-then-number-count-2.result c.new-then-number-count-2.ensures c.unwrap-then-number-count-2.ensures in
    let actor : length c.args.script.now.processes + c.unwrap-then-number-count-2.result ≡ c.args.actor =
    ap (λ (k : ℕ). k + c.unwrap-then-number-count-2.result) (sym count)
    ∙ ap (λ (k : ℕ). c.len-count.result + k) process
    ∙ engine_of c.len-count.result c.get-number.result c.if-number-count.false ∙ c.get-number.ensures.value in
    subst
    (λ (k : ℕ). IfOk c.step_engine.result (λ turn. TookTurn plain_sides c.args.script.now c.args.self.now c.step_engine.new.self g.m k turn))
    actor c.step_engine.ensures.ok

pub returns-clause-ok : goal.returns-clause-ok
returns-clause-ok g c =
    let count : c.len-count.result ≡ length c.args.script.now.processes = c.len-count.ensures ∙ c.args.self.now.processes.ok.0 ∙ c.requires.1.0.shows.count in
    let all : process_count g.m ≡ c.len-count.result =
    ap (λ (s : Script). length s.processes) c.requires.1.0.shows.script_is ∙ sym count in
    let most : 2 * c.len-count.result ≤ c.args.actor =
    subst (λ (k : ℕ). 2 * c.len-count.result ≤ k) c.get-number.ensures.value c.if-number-count-2.false in
    let actor : 2 * length c.args.script.now.processes ≡ c.args.actor =
    ap (λ (k : ℕ). 2 * k) (sym count) ∙ last_number g.m c.args.actor c.len-count.result c.requires.1.1 all most in
    subst
    (λ (k : ℕ). IfOk c.step_invalidation.result (λ turn. TookTurn plain_sides c.args.script.now c.args.self.now c.step_invalidation.new.self g.m k turn))
    actor c.step_invalidation.ensures.ok
