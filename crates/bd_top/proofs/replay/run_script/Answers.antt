use Rattle.std.proofs.Common.{◌≡◌, List, refl, sym, ap, ◌∙◌, subst}
use Rattle.bd_base.specs.declared.script.Script.{Script}
use Rattle.bd_entry.specs.declared.entry.Entry.{Entry}
use Rattle.bd_entry.specs.History.{InOrder, Legal}
use Rattle.bd_entry.specs.Store.{Store, start_store}
use Rattle.bd_image.specs.Volumes.{image_of}
use Rattle.bd_machine.specs.Machine.{HasRun, IsLeft, Progress, shown}
use Rattle.bd_machine.proofs.ShowingMachine.{of_state}
use Rattle.bd_turns.specs.declared.turn.Event.{Event}
use Rattle.bd_turns.specs.Course.{IsCourse, visible}
use Rattle.bd_turns.specs.State.{State, boot_state}
use Rattle.bd_top.specs.Runs.{run_text}
use Rattle.bd_top.proofs.replay.run_script.Goals as goal

pub returns : goal.returns
returns c =
    let script = c.args.script in
    let start : Store = start_store c.args.volume script in
    let m : Progress = shown c.in_ok-machine.machine in
    let ran : HasRun c.args.volume script m = c.in_ok-machine.ensures in
    let run = c.in_ok-volume.field-0 in
    let left : IsLeft m run = c.in_ok-volume.ensures in
    let journal_is : m.state.journal ≡ run.journal = sym left.journal in
    let journal_read : c.journal.result.now ≡ m.state.journal =
    of_state c.in_ok-machine.machine (λ (state : State). c.journal.result.now ≡ state.journal) c.journal.ensures.journal in
    let trace_is : m.trace ≡ run.trace = sym left.trace in
    record {
      store = m.state.store;
      legal = subst (λ (journal : List Entry). Legal script start journal m.state.store) journal_is ran.history.legal;
      in_order = subst (λ (journal : List Entry). InOrder script journal) journal_is ran.in_order;
      state = m.state;
      course = subst (λ (trace : List Event). IsCourse start script trace m.state) trace_is ran.course;
      journal_is = journal_is;
      store_is = refl;
      shown = ap (λ (trace : List Event). visible (boot_state start script) trace) left.trace ∙ ran.visible_is ∙ journal_is;
      image_is = c.in_ok-image.ensures.image ∙ ap image_of left.volume;
      accepted = c.in_ok-image.ensures.accepted;
      text_is =
          c.in_ok-text.ensures
          ∙ ap (λ (s : Script). run_text s c.args.print c.journal.result.now c.trace.result.now) (c.script.ensures ∙ ran.script_is)
          ∙ ap (λ (journal : List Entry). run_text script c.args.print journal c.trace.result.now) (journal_read ∙ journal_is)
          ∙ ap (λ (trace : List Event). run_text script c.args.print run.journal trace) (c.trace.ensures ∙ trace_is);
    }
