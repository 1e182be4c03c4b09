use Rattle.std.proofs.Common.{◌≡◌, ℕ, ◌∷◌, ◌++◌, arith, Option, Some, sym, ap, ◌∙◌, subst}
use Rattle.std.specs.Option.{option_copied_mut, option_to_list}
use Rattle.bd_entry.specs.declared.act.Act.{Act}
use Rattle.bd_entry.specs.declared.act.Act.TheVariants as acts
use Rattle.bd_entry.specs.Calls.{Place}
use Rattle.bd_machine.specs.declared.process.Process.{Process}
use Rattle.bd_machine.specs.Turns.{AreFew, EndsTurn, HasBegun, TookTurn}
use Rattle.bd_machine.proofs.ProcessorBegins.{begun_there}
use Rattle.bd_machine.proofs.ProcessorReady.{Ready, call_begun, place, ready_for}
use Rattle.bd_machine.proofs.ProcessorSteps.{with_process}
use Rattle.bd_machine.proofs.ProcessorSubmits.{begun_polled, few_polled, polled_outstanding, took_poll}
use Rattle.bd_queue_pair.specs.declared.command.Done.{Done}
use Rattle.bd_turns.specs.declared.turn.Row.TheVariants as rows
use Rattle.bd_turns.specs.declared.turn.Turn.{Turn}
use Rattle.bd_machine.proofs.parts.Parts.poll.Goals as goal

pub polled-requires : goal.polled-requires
polled-requires g c =
    let old = c.args.self.now in
    let x = record old { log = c.reserve.new.self } in
    let script = g.g.script in
    let m = g.g.state in
    let process = c.args.p in
    let act : Act = acts.Poll in
    let y = c.index_mut-it.result.now in
    let kept = c.unwrap-running.result.now in
    let begun : y.call ≡ Some kept = sym c.as_mut.ensures.value ∙ ap (λ (o : _). option_copied_mut o) c.unwrap-running.ensures in
    let r : Ready g.T.Tables script x m process y kept act =
    ready_for script old m process c.get.result y kept act c.reserve.new.self c.requires.1.1.1.0 c.requires.1.1.1.1.0 c.requires.1.1.1.1.1.0
    c.get.ensures.value
    c.index_mut-it.ensures.value begun c.reserve.ensures.same.entries in
    let p : Place = place script x m process y kept act r in
    let first : y.queue.completed ≡ c.unwrap-done.result ∷ c.poll.new.self.completed =
    c.poll.ensures.completed ∙ ap (λ (o : Option Done). option_to_list o ++ c.poll.new.self.completed) c.unwrap-done.ensures in
    polled_outstanding script x m r.v p y kept r.here r.reached r.acts.next c.unwrap-done.result c.poll.new.self.completed first

pub end_turn-requires-clause-begun : goal.end_turn-requires-clause-begun
end_turn-requires-clause-begun g c =
    let old = c.args.self.now in
    let x = record old { log = c.reserve.new.self } in
    let script = g.g.script in
    let m = g.g.state in
    let process = c.args.p in
    let act : Act = acts.Poll in
    let y = c.index_mut-it.result.now in
    let kept = c.unwrap-running.result.now in
    let begun : y.call ≡ Some kept = sym c.as_mut.ensures.value ∙ ap (λ (o : _). option_copied_mut o) c.unwrap-running.ensures in
    let r : Ready g.T.Tables script x m process y kept act =
    ready_for script old m process c.get.result y kept act c.reserve.new.self c.requires.1.1.1.0 c.requires.1.1.1.1.0 c.requires.1.1.1.1.1.0
    c.get.ensures.value
    c.index_mut-it.ensures.value begun c.reserve.ensures.same.entries in
    let p : Place = place script x m process y kept act r in
    let first : y.queue.completed ≡ c.unwrap-done.result ∷ c.poll.new.self.completed =
    c.poll.ensures.completed ∙ ap (λ (o : Option Done). option_to_list o ++ c.poll.new.self.completed) c.unwrap-done.ensures in
    let new : Process _ = record y { call = Some c.polled.new.self; queue = c.poll.new.self } in
    subst (λ (n : ℕ). HasBegun (with_process x n new) process) (sym c.get.ensures.value)
    (begun_polled script x m r.v p y kept r.here r.reached r.acts.next c.unwrap-done.result c.poll.new.self c.polled.new.self
    first c.poll.ensures.submitted c.poll.ensures.in_hand c.polled.ensures)

pub end_turn-requires-clause-holder : goal.end_turn-requires-clause-holder
end_turn-requires-clause-holder g c =
    let old = c.args.self.now in
    let x = record old { log = c.reserve.new.self } in
    let script = g.g.script in
    let m = g.g.state in
    let process = c.args.p in
    let act : Act = acts.Poll in
    let y = c.index_mut-it.result.now in
    let kept = c.unwrap-running.result.now in
    let begun : y.call ≡ Some kept = sym c.as_mut.ensures.value ∙ ap (λ (o : _). option_copied_mut o) c.unwrap-running.ensures in
    let r : Ready g.T.Tables script x m process y kept act =
    ready_for script old m process c.get.result y kept act c.reserve.new.self c.requires.1.1.1.0 c.requires.1.1.1.1.0 c.requires.1.1.1.1.1.0
    c.get.ensures.value
    c.index_mut-it.ensures.value begun c.reserve.ensures.same.entries in
    let there = begun_there old process c.requires.1.1.1.1.0 in
    let shows = r.here.shows in
    omega (arith, there, shows.count, shows.holders)

pub end_turn-requires-clause-few : goal.end_turn-requires-clause-few
end_turn-requires-clause-few g c =
    let old = c.args.self.now in
    let x = record old { log = c.reserve.new.self } in
    let script = g.g.script in
    let m = g.g.state in
    let process = c.args.p in
    let act : Act = acts.Poll in
    let y = c.index_mut-it.result.now in
    let kept = c.unwrap-running.result.now in
    let begun : y.call ≡ Some kept = sym c.as_mut.ensures.value ∙ ap (λ (o : _). option_copied_mut o) c.unwrap-running.ensures in
    let r : Ready g.T.Tables script x m process y kept act =
    ready_for script old m process c.get.result y kept act c.reserve.new.self c.requires.1.1.1.0 c.requires.1.1.1.1.0 c.requires.1.1.1.1.1.0
    c.get.ensures.value
    c.index_mut-it.ensures.value begun c.reserve.ensures.same.entries in
    let p : Place = place script x m process y kept act r in
    let first : y.queue.completed ≡ c.unwrap-done.result ∷ c.poll.new.self.completed =
    c.poll.ensures.completed ∙ ap (λ (o : Option Done). option_to_list o ++ c.poll.new.self.completed) c.unwrap-done.ensures in
    let new : Process _ = record y { call = Some c.polled.new.self; queue = c.poll.new.self } in
    subst (λ (n : ℕ). AreFew (with_process x n new) process) (sym c.get.ensures.value)
    (few_polled script x m r.v p y kept r.here r.reached r.acts.next c.unwrap-done.result c.poll.new.self c.polled.new.self
    first c.poll.ensures.submitted c.poll.ensures.in_hand c.polled.ensures)

pub returns-clause-ok : goal.returns-clause-ok
returns-clause-ok g c =
    let old = c.args.self.now in
    let x = record old { log = c.reserve.new.self } in
    let script = g.g.script in
    let m = g.g.state in
    let process = c.args.p in
    let act : Act = acts.Poll in
    let y = c.index_mut-it.result.now in
    let kept = c.unwrap-running.result.now in
    let begun : y.call ≡ Some kept = sym c.as_mut.ensures.value ∙ ap (λ (o : _). option_copied_mut o) c.unwrap-running.ensures in
    let r : Ready g.T.Tables script x m process y kept act =
    ready_for script old m process c.get.result y kept act c.reserve.new.self c.requires.1.1.1.0 c.requires.1.1.1.1.0 c.requires.1.1.1.1.1.0
    c.get.ensures.value
    c.index_mut-it.ensures.value begun c.reserve.ensures.same.entries in
    let p : Place = place script x m process y kept act r in
    let first : y.queue.completed ≡ c.unwrap-done.result ∷ c.poll.new.self.completed =
    c.poll.ensures.completed ∙ ap (λ (o : Option Done). option_to_list o ++ c.poll.new.self.completed) c.unwrap-done.ensures in
    let new : Process _ = record y { call = Some c.polled.new.self; queue = c.poll.new.self } in
    let ends : EndsTurn (with_process x process new) c.end_turn.new.self process process rows.Poll =
    subst (λ (a : ℕ). EndsTurn (with_process x process new) c.end_turn.new.self process a rows.Poll) c.processor.ensures
    (subst (λ (n : ℕ). EndsTurn (with_process x n new) c.end_turn.new.self process c.processor.result rows.Poll) c.get.ensures.value
    c.end_turn.ensures.ends) in
    subst (λ (turn : Turn). TookTurn g.T.Tables script old c.end_turn.new.self m process turn) (sym c.end_turn.ensures.answer)
    (took_poll script x m r.v p y kept r.here r.reached r.acts.next c.unwrap-done.result c.poll.new.self c.polled.new.self
    first c.poll.ensures.submitted c.poll.ensures.in_hand c.polled.ensures
    old c.end_turn.new.self c.reserve.ensures.same.events c.reserve.ensures.same.turns ends)

pub index_mut-it-requires : goal.index_mut-it-requires
index_mut-it-requires g c =
    let below = begun_there c.args.self.now c.args.p c.requires.1.1.1.1.0 in
    let count = c.args.self.now.processes.ok.0 in
    omega (arith, below, count, c.get.ensures.value)

pub unwrap-running-requires : goal.unwrap-running-requires
unwrap-running-requires g c =
    c.as_mut.ensures.variant
    ∙ call_begun c.args.self.now c.args.p c.get.result c.index_mut-it.result.now c.requires.1.1.1.1.0 c.get.ensures.value c.index_mut-it.ensures.value
