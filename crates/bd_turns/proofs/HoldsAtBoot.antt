-- Before the first turn nothing is held, revoked or posted.
use Rattle.std.proofs.Common.{◌≡◌, ℕ, zero, suc, List, [], ◌∷◌, map, Some, refl, sym, ap, ◌∙◌}
use Rattle.std.specs.Prelude.{slice_index_or}
use Rattle.std.specs.List.{list_any}
use Rattle.std.specs.FinMap as fin
use Rattle.std.specs.FinMap.{get-empty}
use Rattle.std.proofs.lemmas.Bool.{both_ways, false≢true}
use Rattle.std.proofs.lemmas.Option.{none-some}
use Rattle.bd_base.specs.declared.key.Key.{Key}
use Rattle.bd_base.specs.declared.script.Process.{Process}
use Rattle.bd_base.specs.declared.script.Script.{Script}
use Rattle.bd_base.specs.Keys.{key_cmp}
use Rattle.bd_entry.specs.Actions.{has_begun}
use Rattle.bd_entry.specs.Calls.{Place, opened_fd}
use Rattle.bd_entry.specs.Store.{Store}
use Rattle.bd_tables.specs.declared.state.Right.{Right}
use Rattle.bd_turns.specs.Processors.{running_of}
use Rattle.bd_turns.specs.Sound.{AreHoldsSound, is_clear, is_release}
use Rattle.bd_turns.specs.State.{Progress, State, boot_state, new_progress, outstanding, progress_of, running}
use Rattle.bd_turns.proofs.ActionsOfCalls.{empty-unbegun, held_from}
use Rattle.bd_turns.specs.Rest.{AreWithinTurns}
use Rattle.bd_turns.proofs.RunningPlaces.{runs_at}

-- no process has begun
pub all_new : (processes : List Process) (q : ℕ) → let new : Process → Progress = λ p. new_progress in
    slice_index_or (map new processes) q new_progress ≡ new_progress
all_new [] q = refl
all_new (p ∷ processes) zero = refl
all_new (p ∷ processes) (suc q) = all_new processes q

module _ (start : Store) (script : Script) where
  abbrev m : State
  m = boot_state start script

  progress_new : (q : ℕ) → progress_of m q ≡ new_progress
  progress_new q = all_new script.processes q

  held_none : (q file : ℕ) → (progress_of m q).held ≡ Some file → ⊥
  held_none q file held = none-some file (sym (ap (λ (x : Progress). x.held) (progress_new q)) ∙ held)

  no_entries : (q : ℕ) (p : Place) → running m q ≡ Some p → p.before ≡ []
  no_entries q p is = (runs_at m q p is).before_is

  no_right : (key : Key) (right : Right) → fin.get m.tables.rights key ≡ Some right → ⊥
  no_right key right is = none-some right (sym (get-empty key_cmp key) ∙ is)

  -- so is the column of holds
  pub holds_at_boot : AreHoldsSound m
  holds_at_boot = record {
    posted = record {
      differ = λ i j first second a b same. absurd (none-some first a);
      by_running = λ number post is. absurd (none-some post is);
      state_of = λ number post is. absurd (none-some post is);
      drained = λ key right swept is state. absurd (no_right key right is);
      held = λ number post right is is_right. absurd (none-some post is);
    };
    revoked = λ key right is revoked. absurd (no_right key right is);
    one_unposted = λ first second a b is_a is_b same revoked_a revoked_b none_a none_b. absurd (no_right first a is_a);
    held_once = λ file first second a b. absurd (held_none first file (held_from file (progress_of m first) a));
    holds = λ q file held. absurd (held_none q file held);
    begun_holding = λ q p is through some. absurd (some (no_entries q p is));
    opened = λ q fd p is opens of. absurd (none-some fd (sym (ap opened_fd (no_entries q p is)) ∙ of));
    allowed = λ q p is keeps begun.
        absurd (both_ways (has_begun (running_of m p)) (empty-unbegun m p (no_entries q p is) (ap outstanding (progress_new p.at.process))) begun);
    truncating = λ q p fd size is call. record {
      without_rights = λ released file of. absurd (false≢true (sym (ap (list_any is_release) (no_entries q p is)) ∙ released));
      lowers = λ cleared unreleased file of. absurd (false≢true (sym (ap (list_any is_clear) (no_entries q p is)) ∙ cleared));
    };
  }

  -- no call has begun, so none took a turn
  pub within_at_boot : AreWithinTurns m
  within_at_boot = record {
    none = λ q none. ap (λ (x : Progress). x.used) (progress_new q);
    new = λ q p is unbegun. (ap (λ (x : Progress). x.used) (progress_new q), ap (λ (x : Progress). x.held) (progress_new q));
    within = λ q p is begun.
        absurd (both_ways (has_begun (running_of m p)) (empty-unbegun m p (no_entries q p is) (ap outstanding (progress_new p.at.process))) begun);
  }
