use Rattle.std.proofs.Common.{◌≡◌, ℕ, ◌<◌, arith, Option, Some, sym, ap, ◌∙◌, subst}
use Rattle.std.specs.Prelude.{is_some}
use Rattle.std.specs.Option.{option_copied_mut}
use Rattle.std.proofs.lemmas.Option.{same_Some}
use Rattle.bd_base.specs.declared.script.Call.{Call}
use Rattle.bd_entry.specs.declared.act.Act.{Act}
use Rattle.bd_entry.specs.declared.act.Act.TheVariants as acts
use Rattle.bd_entry.specs.Calls.{Place, fd_of, piece_of_call}
use Rattle.bd_machine.specs.declared.process.Process.{Process}
use Rattle.bd_machine.specs.Shows.{IsCommandOf}
use Rattle.bd_machine.specs.Turns.{AreFew, EndsTurn, HasBegun, TookTurn}
use Rattle.bd_machine.proofs.EntriesOfCommands.{submits_piece}
use Rattle.bd_machine.proofs.ProcessorBegins.{begun_there, call_within}
use Rattle.bd_machine.proofs.ProcessorReady.{Ready, call_begun, call_of_script, called_next, fd_kept, place, ready_for}
use Rattle.bd_machine.proofs.ProcessorSteps.{with_process}
use Rattle.bd_machine.proofs.ProcessorSubmits.{begun_submitted, few_submitted, room, took_submit}
use Rattle.bd_queue_pair.specs.Queues.{outstanding_of}
use Rattle.bd_turns.specs.declared.turn.Row.TheVariants as rows
use Rattle.bd_turns.specs.declared.turn.Turn.{Turn}
use Rattle.bd_machine.proofs.parts.Parts.submit.Goals as goal

pub call_at-call-requires : goal.call_at-call-requires
call_at-call-requires g c =
    called_next c.args.script.now c.args.self.now g.m c.args.p (acts.Submit c.args.piece) c.at.result c.requires.1.1.1.0 c.requires.1.1.1.1.0
    c.requires.1.1.1.1.1
    c.at.ensures

pub index_mut-it-requires : goal.index_mut-it-requires
index_mut-it-requires g c =
    let below = begun_there c.args.self.now c.args.p c.requires.1.1.1.1.0 in
    let count = c.args.self.now.processes.ok.0 in
    omega (arith, below, count, c.get.ensures.value)

pub unwrap-running-requires : goal.unwrap-running-requires
unwrap-running-requires g c =
    c.as_mut.ensures.variant
    ∙ call_begun c.args.self.now c.args.p c.get.result c.index_mut-it.result.now c.requires.1.1.1.1.0 c.get.ensures.value c.index_mut-it.ensures.value

pub unwrap-requires : goal.unwrap-requires
unwrap-requires g c =
    let old = c.args.self.now in
    let x = record old { log = c.reserve.new.self } in
    let script = c.args.script.now in
    let m = g.m in
    let process = c.args.p in
    let act : Act = acts.Submit c.args.piece in
    let y = c.index_mut-it.result.now in
    let kept = c.unwrap-running.result.now in
    let begun : y.call ≡ Some kept = sym c.as_mut.ensures.value ∙ ap (λ (o : _). option_copied_mut o) c.unwrap-running.ensures in
    let r : Ready g.T.Tables script x m process y kept act =
    ready_for script old m process c.get.result y kept act c.reserve.new.self c.requires.1.1.1.0 c.requires.1.1.1.1.0 c.requires.1.1.1.1.1 c.get.ensures.value
    c.index_mut-it.ensures.value begun c.reserve.ensures.same.entries in
    let p : Place = place script x m process y kept act r in
    let of_piece = submits_piece r.v m p c.args.piece r.reached r.here.runs r.acts.next in
    ap (λ (o : Option ℕ). is_some o) (fd_kept script x m process y kept act r c.fd.result c.fd.ensures ∙ of_piece.fd_is)

pub command_of-command-requires-clause-call : goal.command_of-command-requires-clause-call
command_of-command-requires-clause-call g c =
    call_within c.args.script.now c.args.self.now g.m c.at.result c.call_at-call.result.now c.requires.1.1.1.0 c.call_at-call.ensures

pub command_of-command-requires-clause-fd : goal.command_of-command-requires-clause-fd
command_of-command-requires-clause-fd g c =
    let old = c.args.self.now in
    let x = record old { log = c.reserve.new.self } in
    let script = c.args.script.now in
    let m = g.m in
    let process = c.args.p in
    let act : Act = acts.Submit c.args.piece in
    let y = c.index_mut-it.result.now in
    let kept = c.unwrap-running.result.now in
    let begun : y.call ≡ Some kept = sym c.as_mut.ensures.value ∙ ap (λ (o : _). option_copied_mut o) c.unwrap-running.ensures in
    let r : Ready g.T.Tables script x m process y kept act =
    ready_for script old m process c.get.result y kept act c.reserve.new.self c.requires.1.1.1.0 c.requires.1.1.1.1.0 c.requires.1.1.1.1.1 c.get.ensures.value
    c.index_mut-it.ensures.value begun c.reserve.ensures.same.entries in
    let p : Place = place script x m process y kept act r in
    let of_piece = submits_piece r.v m p c.args.piece r.reached r.here.runs r.acts.next in
    let fd : fd_of p ≡ Some c.unwrap.result = sym (fd_kept script x m process y kept act r c.fd.result c.fd.ensures) ∙ c.unwrap.ensures in
    let same : of_piece.fd ≡ c.unwrap.result = same_Some of_piece.fd c.unwrap.result (sym of_piece.fd_is ∙ fd) in
    let fits : of_piece.fd < 8 = of_piece.fd_fits in
    omega (arith, fits, same)

pub command_of-command-requires-clause-piece : goal.command_of-command-requires-clause-piece
command_of-command-requires-clause-piece g c =
    let old = c.args.self.now in
    let x = record old { log = c.reserve.new.self } in
    let script = c.args.script.now in
    let m = g.m in
    let process = c.args.p in
    let act : Act = acts.Submit c.args.piece in
    let y = c.index_mut-it.result.now in
    let kept = c.unwrap-running.result.now in
    let begun : y.call ≡ Some kept = sym c.as_mut.ensures.value ∙ ap (λ (o : _). option_copied_mut o) c.unwrap-running.ensures in
    let r : Ready g.T.Tables script x m process y kept act =
    ready_for script old m process c.get.result y kept act c.reserve.new.self c.requires.1.1.1.0 c.requires.1.1.1.1.0 c.requires.1.1.1.1.1 c.get.ensures.value
    c.index_mut-it.ensures.value begun c.reserve.ensures.same.entries in
    let p : Place = place script x m process y kept act r in
    let called = call_of_script script x m process y kept act r c.at.result (c.at.ensures y r.here.there) in
    let call : p.call ≡ c.call_at-call.result.now = same_Some p.call c.call_at-call.result.now (sym called.0 ∙ c.call_at-call.ensures) in
    let of_piece = submits_piece r.v m p c.args.piece r.reached r.here.runs r.acts.next in
    (of_piece.cut, ap (λ (k : Call). piece_of_call k c.args.piece) (sym call) ∙ of_piece.cut_is, of_piece.index)

pub submit-requires-clause-room : goal.submit-requires-clause-room
submit-requires-clause-room g c =
    let old = c.args.self.now in
    let x = record old { log = c.reserve.new.self } in
    let script = c.args.script.now in
    let m = g.m in
    let process = c.args.p in
    let act : Act = acts.Submit c.args.piece in
    let y = c.index_mut-it.result.now in
    let kept = c.unwrap-running.result.now in
    let begun : y.call ≡ Some kept = sym c.as_mut.ensures.value ∙ ap (λ (o : _). option_copied_mut o) c.unwrap-running.ensures in
    let r : Ready g.T.Tables script x m process y kept act =
    ready_for script old m process c.get.result y kept act c.reserve.new.self c.requires.1.1.1.0 c.requires.1.1.1.1.0 c.requires.1.1.1.1.1 c.get.ensures.value
    c.index_mut-it.ensures.value begun c.reserve.ensures.same.entries in
    let p : Place = place script x m process y kept act r in
    let has = room script x m r.v p y kept r.here r.reached c.args.piece r.acts.next in
    has.queue

pub submit-requires-clause-piece : goal.submit-requires-clause-piece
submit-requires-clause-piece g c =
    let old = c.args.self.now in
    let x = record old { log = c.reserve.new.self } in
    let script = c.args.script.now in
    let m = g.m in
    let process = c.args.p in
    let act : Act = acts.Submit c.args.piece in
    let y = c.index_mut-it.result.now in
    let kept = c.unwrap-running.result.now in
    let begun : y.call ≡ Some kept = sym c.as_mut.ensures.value ∙ ap (λ (o : _). option_copied_mut o) c.unwrap-running.ensures in
    let r : Ready g.T.Tables script x m process y kept act =
    ready_for script old m process c.get.result y kept act c.reserve.new.self c.requires.1.1.1.0 c.requires.1.1.1.1.0 c.requires.1.1.1.1.1 c.get.ensures.value
    c.index_mut-it.ensures.value begun c.reserve.ensures.same.entries in
    let p : Place = place script x m process y kept act r in
    let has = room script x m r.v p y kept r.here r.reached c.args.piece r.acts.next in
    subst (λ (n : ℕ). outstanding_of y.queue n ≡ 0) (sym c.command_of-command.ensures.piece) has.fresh

pub submitted-requires : goal.submitted-requires
submitted-requires g c =
    let old = c.args.self.now in
    let x = record old { log = c.reserve.new.self } in
    let script = c.args.script.now in
    let m = g.m in
    let process = c.args.p in
    let act : Act = acts.Submit c.args.piece in
    let y = c.index_mut-it.result.now in
    let kept = c.unwrap-running.result.now in
    let begun : y.call ≡ Some kept = sym c.as_mut.ensures.value ∙ ap (λ (o : _). option_copied_mut o) c.unwrap-running.ensures in
    let r : Ready g.T.Tables script x m process y kept act =
    ready_for script old m process c.get.result y kept act c.reserve.new.self c.requires.1.1.1.0 c.requires.1.1.1.1.0 c.requires.1.1.1.1.1 c.get.ensures.value
    c.index_mut-it.ensures.value begun c.reserve.ensures.same.entries in
    let p : Place = place script x m process y kept act r in
    let has = room script x m r.v p y kept r.here r.reached c.args.piece r.acts.next in
    has.kept

pub end_turn-requires-clause-begun : goal.end_turn-requires-clause-begun
end_turn-requires-clause-begun g c =
    let old = c.args.self.now in
    let x = record old { log = c.reserve.new.self } in
    let script = c.args.script.now in
    let m = g.m in
    let process = c.args.p in
    let act : Act = acts.Submit c.args.piece in
    let y = c.index_mut-it.result.now in
    let kept = c.unwrap-running.result.now in
    let begun : y.call ≡ Some kept = sym c.as_mut.ensures.value ∙ ap (λ (o : _). option_copied_mut o) c.unwrap-running.ensures in
    let r : Ready g.T.Tables script x m process y kept act =
    ready_for script old m process c.get.result y kept act c.reserve.new.self c.requires.1.1.1.0 c.requires.1.1.1.1.0 c.requires.1.1.1.1.1 c.get.ensures.value
    c.index_mut-it.ensures.value begun c.reserve.ensures.same.entries in
    let p : Place = place script x m process y kept act r in
    let called = call_of_script script x m process y kept act r c.at.result (c.at.ensures y r.here.there) in
    let call : p.call ≡ c.call_at-call.result.now = same_Some p.call c.call_at-call.result.now (sym called.0 ∙ c.call_at-call.ensures) in
    let fd : fd_of p ≡ Some c.unwrap.result = sym (fd_kept script x m process y kept act r c.fd.result c.fd.ensures) ∙ c.unwrap.ensures in
    let command : IsCommandOf p c.command_of-command.result = c.command_of-command.ensures.command p call fd in
    let new : Process _ = record y { call = Some c.submitted.new.self; queue = c.submit.new.self } in
    subst (λ (n : ℕ). HasBegun (with_process x n new) process) (sym c.get.ensures.value)
    (begun_submitted script x m r.v p y kept r.here r.reached c.args.piece r.acts.next c.command_of-command.result c.submit.new.self c.submitted.new.self
    c.submit.ensures.queues c.submitted.ensures command c.command_of-command.ensures.piece)

pub end_turn-requires-clause-holder : goal.end_turn-requires-clause-holder
end_turn-requires-clause-holder g c =
    let old = c.args.self.now in
    let x = record old { log = c.reserve.new.self } in
    let script = c.args.script.now in
    let m = g.m in
    let process = c.args.p in
    let act : Act = acts.Submit c.args.piece in
    let y = c.index_mut-it.result.now in
    let kept = c.unwrap-running.result.now in
    let begun : y.call ≡ Some kept = sym c.as_mut.ensures.value ∙ ap (λ (o : _). option_copied_mut o) c.unwrap-running.ensures in
    let r : Ready g.T.Tables script x m process y kept act =
    ready_for script old m process c.get.result y kept act c.reserve.new.self c.requires.1.1.1.0 c.requires.1.1.1.1.0 c.requires.1.1.1.1.1 c.get.ensures.value
    c.index_mut-it.ensures.value begun c.reserve.ensures.same.entries in
    let there = begun_there old process c.requires.1.1.1.1.0 in
    let shows = r.here.shows in
    omega (arith, there, shows.count, shows.holders)

pub end_turn-requires-clause-few : goal.end_turn-requires-clause-few
end_turn-requires-clause-few g c =
    let old = c.args.self.now in
    let x = record old { log = c.reserve.new.self } in
    let script = c.args.script.now in
    let m = g.m in
    let process = c.args.p in
    let act : Act = acts.Submit c.args.piece in
    let y = c.index_mut-it.result.now in
    let kept = c.unwrap-running.result.now in
    let begun : y.call ≡ Some kept = sym c.as_mut.ensures.value ∙ ap (λ (o : _). option_copied_mut o) c.unwrap-running.ensures in
    let r : Ready g.T.Tables script x m process y kept act =
    ready_for script old m process c.get.result y kept act c.reserve.new.self c.requires.1.1.1.0 c.requires.1.1.1.1.0 c.requires.1.1.1.1.1 c.get.ensures.value
    c.index_mut-it.ensures.value begun c.reserve.ensures.same.entries in
    let p : Place = place script x m process y kept act r in
    let called = call_of_script script x m process y kept act r c.at.result (c.at.ensures y r.here.there) in
    let call : p.call ≡ c.call_at-call.result.now = same_Some p.call c.call_at-call.result.now (sym called.0 ∙ c.call_at-call.ensures) in
    let fd : fd_of p ≡ Some c.unwrap.result = sym (fd_kept script x m process y kept act r c.fd.result c.fd.ensures) ∙ c.unwrap.ensures in
    let command : IsCommandOf p c.command_of-command.result = c.command_of-command.ensures.command p call fd in
    let new : Process _ = record y { call = Some c.submitted.new.self; queue = c.submit.new.self } in
    subst (λ (n : ℕ). AreFew (with_process x n new) process) (sym c.get.ensures.value)
    (few_submitted script x m r.v p y kept r.here r.reached c.args.piece r.acts.next c.command_of-command.result c.submit.new.self c.submitted.new.self
    c.submit.ensures.queues c.submitted.ensures command c.command_of-command.ensures.piece)

pub returns-clause-ok : goal.returns-clause-ok
returns-clause-ok g c =
    let old = c.args.self.now in
    let x = record old { log = c.reserve.new.self } in
    let script = c.args.script.now in
    let m = g.m in
    let process = c.args.p in
    let act : Act = acts.Submit c.args.piece in
    let y = c.index_mut-it.result.now in
    let kept = c.unwrap-running.result.now in
    let begun : y.call ≡ Some kept = sym c.as_mut.ensures.value ∙ ap (λ (o : _). option_copied_mut o) c.unwrap-running.ensures in
    let r : Ready g.T.Tables script x m process y kept act =
    ready_for script old m process c.get.result y kept act c.reserve.new.self c.requires.1.1.1.0 c.requires.1.1.1.1.0 c.requires.1.1.1.1.1 c.get.ensures.value
    c.index_mut-it.ensures.value begun c.reserve.ensures.same.entries in
    let p : Place = place script x m process y kept act r in
    let called = call_of_script script x m process y kept act r c.at.result (c.at.ensures y r.here.there) in
    let call : p.call ≡ c.call_at-call.result.now = same_Some p.call c.call_at-call.result.now (sym called.0 ∙ c.call_at-call.ensures) in
    let fd : fd_of p ≡ Some c.unwrap.result = sym (fd_kept script x m process y kept act r c.fd.result c.fd.ensures) ∙ c.unwrap.ensures in
    let command : IsCommandOf p c.command_of-command.result = c.command_of-command.ensures.command p call fd in
    let new : Process _ = record y { call = Some c.submitted.new.self; queue = c.submit.new.self } in
    let ends : EndsTurn (with_process x process new) c.end_turn.new.self process process rows.Submit =
    subst (λ (a : ℕ). EndsTurn (with_process x process new) c.end_turn.new.self process a rows.Submit) c.processor.ensures
    (subst (λ (n : ℕ). EndsTurn (with_process x n new) c.end_turn.new.self process c.processor.result rows.Submit) c.get.ensures.value
    c.end_turn.ensures.ends) in
    subst (λ (turn : Turn). TookTurn g.T.Tables script old c.end_turn.new.self m process turn) (sym c.end_turn.ensures.answer)
    (took_submit script x m r.v p y kept r.here r.reached c.args.piece r.acts.next c.command_of-command.result c.submit.new.self c.submitted.new.self
    c.submit.ensures.queues c.submitted.ensures command c.command_of-command.ensures.piece
    old c.end_turn.new.self c.reserve.ensures.same.events c.reserve.ensures.same.turns ends)
