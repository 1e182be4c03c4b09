-- What of a process of the machine stays where the abstract machine has it, as the state goes on.
use Rattle.std.proofs.Common.{◌≡◌, ◌⊎◌, inl, inr, ⊎_elim, ℕ, Bool, true, false, List, Option, None, Some, refl, sym, ap, ◌∙◌, subst}
use Rattle.std.specs.Prelude.{slice_index_or}
use Rattle.std.specs.Option.{option_map}
use Rattle.bd_base.specs.declared.journal.At.{At}
use Rattle.bd_base.specs.declared.script.Call.{Call}
use Rattle.bd_base.specs.declared.script.Script.{Script}
use Rattle.bd_entry.specs.declared.entry.Entry.{Entry}
use Rattle.bd_entry.specs.Calls.{Place, call_at, entries_of}
use Rattle.bd_kernel.specs.Turns as kernel
use Rattle.bd_machine.specs.declared.process.Process.{Process}
use Rattle.bd_machine.specs.Shows.{IsCallAt, IsEngineHere, IsPassWhere, IsProcessAt, does_walk, phase_of, progress_shown}
use Rattle.bd_turns.proofs.Cases.{running_process}
use Rattle.bd_turns.specs.State.{Phase, State, outstanding, place_of, progress_of, running, running_at}
use Rattle.bd_tables.specs.declared.sides.Tables as sides

-- the running call of a process is the same where as many calls have ended and its call has the same entries
pub running_kept : (m n : State) (process : ℕ) → n.script ≡ m.script → (progress_of n process).ended ≡ (progress_of m process).ended →
    entries_of (running_at m process) n.journal ≡ entries_of (running_at m process) m.journal →
    running n process ≡ running m process
running_kept m n process script ended entries =
    let at : running_at n process ≡ running_at m process =
    ap (λ (k : ℕ). record { process = process; call = k }) ended in
    ap (λ (a : At). option_map (place_of n a) (call_at n.script a)) at
    ∙ ap (λ (s : Script). option_map (place_of n (running_at m process)) (call_at s (running_at m process))) script
    ∙ ap
    (λ (before : List Entry). option_map
    (λ (c : Call). record { call = c; at = running_at m process; before = before }) (call_at m.script (running_at m process)))
    entries

-- the state has the same running call of the process, with the same commands, and the same users
pub record KeepsProcess (m n : State) (process : ℕ) : Type 0 where
  pub running_is : running n process ≡ running m process
  pub uids : n.store.uids ≡ m.store.uids
  pub outstanding_is : outstanding (progress_of n process) ≡ outstanding (progress_of m process)

-- the pass of the process is where it was
pub record KeepsPass {T P : Type 0} (K : sides.Ghosts T P) (old new : T) (process : ℕ) : Type 0 where
  pub lent : (pass : P) → K.process pass ≡ process → K.is_of old pass → K.is_of new pass
  pub here : K.lies old process → K.lies new process
  pub going : K.apart old → K.apart new

pub pass_kept : {T P : Type 0} {K : sides.Ghosts T P} (old new : T) (process : ℕ) (walks : Bool) (pass : Option P) →
    KeepsPass K old new process → IsPassWhere K walks old process pass → IsPassWhere K walks new process pass
pass_kept old new process true None keeps is = is
pass_kept old new process true (Some pass) keeps is = (is.0, keeps.lent pass is.0 is.1)
pass_kept old new process false pass keeps is = (keeps.here is.0, is.1)

-- the engine of the process is where it was
pub engine_kept : {T P : Type 0} {K : sides.Ghosts T P} (old new : T) (process : ℕ) (phase : Option Phase) (z : Process P) →
    KeepsPass K old new process → K.apart old ⊎ IsEngineHere K old process phase z →
    K.apart new ⊎ IsEngineHere K new process phase z
engine_kept {T} {P} {K} old new process phase z keeps is =
    ⊎_elim {C = K.apart new ⊎ IsEngineHere K new process phase z}
    (λ apart. inl (keeps.going apart))
    (λ here. inr (record {
      phase_is = here.phase_is;
      pass = pass_kept old new process (does_walk z.phase z.hand) z.pass keeps here.pass;
    }))
    is

-- nothing of a process but its phase, its hand and its pass is of its engine
pub engine_of_same : {T P : Type 0} {K : sides.Ghosts T P} (t : T) (process : ℕ) (phase : Option Phase) (z w : Process P) →
    w.phase ≡ z.phase → w.hand ≡ z.hand → w.pass ≡ z.pass → K.apart t ⊎ IsEngineHere K t process phase z →
    K.apart t ⊎ IsEngineHere K t process phase w
engine_of_same {T} {P} {K} t process phase z w same_phase same_hand same_pass is =
    ⊎_elim {C = K.apart t ⊎ IsEngineHere K t process phase w}
    (λ apart. inl apart)
    (λ here. inr (record {
      phase_is = here.phase_is ∙ ap phase_of (sym same_phase);
      pass =
          subst (λ f. IsPassWhere K (does_walk f w.hand) t process w.pass) (sym same_phase)
          (subst (λ h. IsPassWhere K (does_walk z.phase h) t process w.pass) (sym same_hand)
          (subst (IsPassWhere K (does_walk z.phase z.hand) t process) (sym same_pass) here.pass));
    }))
    is

module _ (m n : State) (process : ℕ) (keeps : KeepsProcess m n process) where
  -- its commands, by the place of its running call
  same_outstanding : (p : Place) → running m process ≡ Some p →
      outstanding (progress_of n p.at.process) ≡ outstanding (progress_of m p.at.process)
  same_outstanding p runs =
      subst (λ (k : ℕ). outstanding (progress_of n k) ≡ outstanding (progress_of m k))
      (sym (running_process m process p runs)) keeps.outstanding_is

  -- what was kept of the running call
  call_kept : (p : Place) → running m process ≡ Some p → (o : Option kernel.Progress) → IsCallAt m p o → IsCallAt n p o
  call_kept p runs None is =
      record { entries = is.entries; outstanding = same_outstanding p runs ∙ is.outstanding }
  call_kept p runs (Some c) is =
      record {
        call = is.call;
        process = is.process;
        uid = is.uid ∙ ap (λ (uids : List ℕ). slice_index_or uids p.at.process 0) (sym keeps.uids);
        entries = is.entries;
        outstanding = is.outstanding ∙ sym (same_outstanding p runs);
      }

  -- a process stays where the state has it; only what it holds and how many turns it took may be others
  pub process_kept : {T P : Type 0} {K : sides.Ghosts T P} (old new : T) (held new_held : Option ℕ) (z : Process P) (used : ℕ)
      (is : IsProcessAt K m held old process z) →
      progress_of n process ≡ progress_shown new_held is.phase (record z { used = used }) → KeepsPass K old new process →
      IsProcessAt K n new_held new process (record z { used = used })
  process_kept {T} {P} {K} old new held new_held z used is shown passes =
      record {
        phase = is.phase;
        progress = shown;
        call = λ p runs.
            let was = sym keeps.running_is ∙ runs in
            call_kept p was z.call (is.call p was);
        none = λ none. is.none (sym keeps.running_is ∙ none);
        submitted = λ p runs. is.submitted p (sym keeps.running_is ∙ runs);
        taken = is.taken;
        hand = λ p h runs there. is.hand p h (sym keeps.running_is ∙ runs) there;
        engine =
            engine_of_same {K = K} new process is.phase z (record z { used = used }) refl refl refl
            (engine_kept {K = K} old new process is.phase z passes is.engine);
      }
