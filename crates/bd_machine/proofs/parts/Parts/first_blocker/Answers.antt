use Rattle.std.proofs.Common.{◌≡◌, ℕ, get_or, Option, sym, ap, ◌∙◌}
use Rattle.std.specs.Prelude.{is_some}
use Rattle.std.proofs.lemmas.Option.{same_Some}
use Rattle.bd_base.specs.declared.script.Call.{Call}
use Rattle.bd_base.specs.declared.script.Process.{Process as ScriptProcess}
use Rattle.bd_entry.proofs.Slots.{some_of}
use Rattle.bd_machine.specs.Turns.{IsAt}
use Rattle.bd_machine.proofs.ProcessorBegins.{call_within, called_at, element_there, process_there, user_read}
use Rattle.bd_machine.proofs.ProcessorWaits.{blocker_first}
use Rattle.bd_turns.specs.State.{running}
use Rattle.bd_machine.proofs.parts.Parts.first_blocker.Goals as goal

pub call_at-call-requires : goal.call_at-call-requires
call_at-call-requires g c =
    let x = c.args.self.now in
    let is : IsAt g.T.Tables c.args.script.now x g.m = c.requires.1.1.1.0 in
    let place = some_of (running g.m c.args.p) c.requires.1.1.1.1.1.0 in
    let mine = element_there x c.args.p (process_there c.args.script.now x g.m c.args.p is.shows c.requires.1.1.1.1.0) in
    let called = called_at c.args.script.now x g.m c.args.p mine.0 place.0 c.at.result is.shows mine.1 place.1 (c.at.ensures mine.0 mine.1) in
    ap (λ (o : Option Call). is_some o) called.0

pub first_blocker-requires : goal.first_blocker-requires
first_blocker-requires g c =
    call_within c.args.script.now c.args.self.now g.m c.at.result c.call_at-call.result.now c.requires.1.1.1.0 c.call_at-call.ensures

pub returns-clause-blocker : goal.returns-clause-blocker
returns-clause-blocker g c =
    let x = c.args.self.now in
    let script = c.args.script.now in
    let process = c.args.p in
    let is : IsAt g.T.Tables script x g.m = c.requires.1.1.1.0 in
    let place = some_of (running g.m process) c.requires.1.1.1.1.1.0 in
    let mine = element_there x process (process_there script x g.m process is.shows c.requires.1.1.1.1.0) in
    let called = called_at script x g.m process mine.0 place.0 c.at.result is.shows mine.1 place.1 (c.at.ensures mine.0 mine.1) in
    let call : c.call_at-call.result.now ≡ place.0.call = same_Some c.call_at-call.result.now place.0.call (sym c.call_at-call.ensures ∙ called.0) in
    let uid : ℕ = (get_or c.as_slice.result.now c.get.result c.index-as_slice-get.result).uid in
    let user = user_read script x g.m process c.get.result c.as_slice.result.now c.index-as_slice-get.result is.shows c.requires.1.1.1.1.0
    c.as_slice.ensures c.get.ensures.value c.index-as_slice-get.is ∙ ap (λ (it : ScriptProcess). it.uid) c.index-as_slice-get.is in
    blocker_first script x g.m process place.0 mine.0 is.shows place.1 mine.1 (c.requires.1.1.1.1.1.1 mine.0 mine.1)
    c.call_at-call.result.now uid c.fs.result.now c.descriptors.result.now c.first_blocker.result call user c.fs.ensures c.descriptors.ensures
    c.first_blocker.ensures.blocker
