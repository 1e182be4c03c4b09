use Rattle.std.proofs.Common.{◌≡◌, ℕ, Option, None, Some, refl, sym, ap, ◌∙◌, subst}
use Rattle.std.specs.Prelude.{is_some}
use Rattle.bd_base.specs.declared.script.Call.{Call}
use Rattle.bd_base.specs.declared.script.Process.{Process as ScriptProcess}
use Rattle.std.proofs.lemmas.Option.{same_Some}
use Rattle.bd_entry.proofs.Slots.{some_of}
use Rattle.bd_machine.specs.declared.process.Process.{Process}
use Rattle.bd_machine.specs.Turns.{HasBegun, IsAt, StaysAt}
use Rattle.bd_machine.proofs.ProcessorBegins.{IsNew, begun_step, call_within, called_at, none_of, process_read, process_there, user_read}
use Rattle.bd_machine.proofs.ProcessorSteps.{begun_now, with_process}
use Rattle.bd_turns.specs.State.{running}
use Rattle.bd_machine.proofs.parts.Parts.begin.Goals as goal

pub call_at-call-requires : goal.call_at-call-requires
call_at-call-requires g c =
    let x = c.args.self.now in
    let is : IsAt g.T.Tables c.args.script.now x g.m = c.requires.1.1.1.0 in
    let place = some_of (running g.m c.args.p) c.requires.1.1.1.1.1 in
    let there = process_read x c.args.p c.get.result c.index.result.now c.get.ensures.value
    (process_there c.args.script.now x g.m c.args.p is.shows c.requires.1.1.1.1.0) c.index.ensures in
    let called = called_at c.args.script.now x g.m c.args.p c.index.result.now place.0 c.at.result is.shows there place.1
    (c.at.ensures c.index.result.now there) in
    ap (λ (o : Option Call). is_some o) called.0

pub begin-requires : goal.begin-requires
begin-requires g c =
    call_within c.args.script.now c.args.self.now g.m c.at.result c.call_at-call.result.now c.requires.1.1.1.0 c.call_at-call.ensures

pub returns-clause-stays : goal.returns-clause-stays
returns-clause-stays g c =
    let x = c.args.self.now in
    let script = c.args.script.now in
    let process = c.args.p in
    let is : IsAt g.T.Tables script x g.m = c.requires.1.1.1.0 in
    let place = some_of (running g.m process) c.requires.1.1.1.1.1 in
    let within = process_there script x g.m process is.shows c.requires.1.1.1.1.0 in
    let seen = process_read x process c.get.result c.index.result.now c.get.ensures.value within c.index.ensures in
    let y = c.index_mut.result.now in
    let there = process_read x process c.get-3.result y c.get-3.ensures.value within c.index_mut.ensures.value in
    let same : c.index.result.now ≡ y = same_Some c.index.result.now y (sym seen ∙ there) in
    let none : y.call ≡ None =
    none_of y.call (ap (λ (z : Process _). is_some z.call) (sym same) ∙ sym c.is_some.ensures ∙ c.if-is_some.false) in
    let called = called_at script x g.m process y place.0 c.at.result is.shows there place.1 (c.at.ensures y there) in
    let call : place.0.call ≡ c.call_at-call.result.now = same_Some place.0.call c.call_at-call.result.now (sym called.0 ∙ c.call_at-call.ensures) in
    let new : IsNew g.m process place.0.call c.in_ok-begun.begun =
    record {
      call_is = c.in_ok-begun.ensures.call ∙ sym call;
      process_is = c.in_ok-begun.ensures.process;
      user = c.in_ok-begun.ensures.user ∙ ap (λ (it : ScriptProcess). it.uid) (sym c.index-as_slice-get.is)
          ∙ sym
          (user_read script x g.m process c.get-2.result c.as_slice.result.now c.index-as_slice-get.result is.shows c.requires.1.1.1.1.0
          c.as_slice.ensures c.get-2.ensures.value c.index-as_slice-get.is);
      entries = c.in_ok-begun.ensures.entries;
      outstanding = c.in_ok-begun.ensures.outstanding;
    } in
    let new_parts = λ (n : ℕ). with_process x n (record y { call = Some c.in_ok-begun.begun }) in
    subst (λ (n : ℕ). StaysAt g.T.Tables script x (new_parts n) g.m) (sym c.get-3.ensures.value)
    (record { shows = begun_step script x g.m process y place.0 c.in_ok-begun.begun is.shows there place.1 none new; events = refl; turns = refl })

pub returns-clause-begun : goal.returns-clause-begun
returns-clause-begun g c =
    let x = c.args.self.now in
    let process = c.args.p in
    let is : IsAt g.T.Tables c.args.script.now x g.m = c.requires.1.1.1.0 in
    let within = process_there c.args.script.now x g.m process is.shows c.requires.1.1.1.1.0 in
    let y = c.index_mut.result.now in
    let there = process_read x process c.get-3.result y c.get-3.ensures.value within c.index_mut.ensures.value in
    subst (λ (n : ℕ). HasBegun (with_process x n (record y { call = Some c.in_ok-begun.begun })) process) (sym c.get-3.ensures.value)
    (begun_now x process y (record y { call = Some c.in_ok-begun.begun }) there refl)
