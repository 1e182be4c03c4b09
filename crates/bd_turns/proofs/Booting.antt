-- A machine begins with a history, and sound.
use Rattle.std.proofs.Common.{◌≡◌, ℕ, Bool, true, List, [], Some, refl, sym, ap, ◌∙◌, subst, arith}
use Rattle.std.specs.Prelude.{All}
use Rattle.std.specs.List.{list_any}
use Rattle.std.proofs.lemmas.Bool.{and_left, false≢true}
use Rattle.std.proofs.lemmas.List.{length-map}
use Rattle.std.proofs.lemmas.List.Elements.{All-nil}
use Rattle.bd_base.specs.declared.script.Process.{Process}
use Rattle.bd_base.specs.declared.script.Script.{Script}
use Rattle.bd_base.specs.declared.volume.Volume.{Volume}
use Rattle.bd_base.specs.Scripts.{IsWithinLimits}
use Rattle.bd_base.specs.Volumes.{IsSoundVolume}
use Rattle.bd_entry.specs.declared.entry.Entry.{Entry}
use Rattle.bd_entry.specs.Actions.{is_for_device, is_none_of}
use Rattle.bd_entry.specs.Calls.{Place, is_ended_by}
use Rattle.bd_entry.specs.Promises.{is_whole_refusal}
use Rattle.bd_entry.specs.Store.{start_store}
use Rattle.bd_entry.proofs.HistoryLaws.{is_call}
use Rattle.bd_entry.proofs.StoreLaws.{start_is_valid}
use Rattle.bd_tables.specs.declared.state.Walk.TheVariants as walks
use Rattle.bd_turns.proofs.HoldsAtBoot.{all_new, holds_at_boot, within_at_boot}
use Rattle.bd_turns.proofs.KeptCommands.{no_commands}
use Rattle.bd_turns.proofs.RunningPlaces.{runs_at}
use Rattle.bd_turns.proofs.StayingDescriptors.{none_unended}
use Rattle.bd_turns.proofs.TablesAtBoot.{tables_at_boot}
use Rattle.bd_turns.specs.Reached.{BootIsReached}
use Rattle.bd_turns.specs.Sound.{AreCallsSound, is_clear_at}
use Rattle.bd_turns.specs.State.{Progress, State, boot_state, has_ended, new_progress, outstanding, progress_of, running}

module _ (v : Volume) (script : Script) (sound : IsSoundVolume v) (limits : IsWithinLimits script) where
  -- the state before the first turn
  abbrev m : State
  m = boot_state (start_store v script) script

  new : (process : ℕ) → progress_of m process ≡ new_progress
  new process = all_new script.processes process

  none_outstanding : (process : ℕ) → outstanding (progress_of m process) ≡ []
  none_outstanding process = ap outstanding (new process)

  -- a running call has no entry
  no_entry : (process : ℕ) (p : Place) → running m process ≡ Some p → p.before ≡ []
  no_entry process p is = (runs_at m process p is).before_is

  none_any : {A : Type 0} (test : Entry → Bool) (process : ℕ) (p : Place) → running m process ≡ Some p → list_any test p.before ≡ true → A
  none_any test process p is some = absurd (false≢true (sym (ap (list_any test) (no_entry process p is)) ∙ some))

  boot_calls : AreCallsSound m
  boot_calls = record {
    limits = limits;
    processes = record {
      progress = length-map script.processes (λ (p : Process). new_progress);
      walks = length-map script.processes (λ (p : Process). walks.Idle);
      ended = λ process. omega (ap (λ (x : Progress). x.ended) (new process), arith);
    };
    valid = start_is_valid v script sound limits;
    in_turn = record {
      finished = λ process call lt. absurd (omega (lt, ap (λ (x : Progress). x.ended) (new process), arith));
      later = λ process call lt. refl;
    };
    commands = record {
      of_running = λ process p is. no_commands p (progress_of m process) (none_outstanding process);
      none = λ process is. none_outstanding process;
    };
    for_device = λ process p is goes.
        subst (All (λ piece. is_for_device m.store p piece ≡ true)) (sym (none_outstanding process))
        (All-nil (λ piece. is_for_device m.store p piece ≡ true));
    unended = λ process p is.
        ap (λ (before : List Entry). has_ended p.call before (progress_of m process)) (no_entry process p is)
        ∙ and_left (is_ended_by p.call []) (is_none_of (outstanding (progress_of m process)))
        (none_unended p.call p.at (is_call script p.at p.call limits (runs_at m process p is).called));
    unrefused = λ process p is. ap (list_any is_whole_refusal) (no_entry process p is);
    clears_held = λ process p key is some. none_any (is_clear_at key) process p is some;
  }

pub boot_is_reached : BootIsReached
boot_is_reached v script sound limits = record {
  history = record { sound = sound; limits = limits; legal = refl; in_order = tt };
  sound = record {
    calls = boot_calls v script sound limits;
    tables_are = tables_at_boot v script;
    holds_are = holds_at_boot (start_store v script) script;
  };
  within = within_at_boot (start_store v script) script;
}
