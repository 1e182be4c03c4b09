-- A step of one process in the parts, and in the state that they show.
use Rattle.std.proofs.Common.{◌≡◌, ◌⊎◌, ℕ, ◌<◌, length, Option, None, Some, refl, sym, ap, ◌∙◌, subst, arith}
use Rattle.std.specs.Prelude.{slice_index_or, All}
use Rattle.std.specs.Option.{option_map, option_to_list}
use Rattle.std.proofs.lemmas.List.{get_or-set_same, get_or-set_other, length-set}
use Rattle.std.proofs.lemmas.Option.{none-some, same_Some, slice_get_within}
use Rattle.bd_base.specs.declared.journal.At.{At}
use Rattle.bd_base.specs.declared.script.Script.{Script}
use Rattle.bd_entry.specs.Calls.{Place, call_at}
use Rattle.bd_kernel.specs.Disks.{DiskState, IsDiskOf}
use Rattle.bd_kernel.specs.Turns as kernel
use Rattle.bd_machine.specs.declared.parts.Parts.{Parts}
use Rattle.bd_machine.specs.declared.process.Hand.{Hand}
use Rattle.bd_machine.specs.declared.process.Process.{Process}
use Rattle.bd_machine.specs.Engines.{Becomes}
use Rattle.bd_machine.specs.Logs.{LogState}
use Rattle.bd_machine.specs.Shows.{IsCallAt, IsCommandOf, IsEngineHere, IsHandOf, IsProcessAt, Shows, progress_shown}
use Rattle.bd_machine.specs.Turns.{process_in}
use Rattle.bd_machine.proofs.Showing.{KeepsPasses, one_steps}
use Rattle.bd_tables.specs.State.{TableState}
use Rattle.bd_turns.specs.State.{Phase, Progress, State, new_progress, outstanding, place_of, progress_of, running, with_progress}
use Rattle.bd_turns.proofs.RunningPlaces.{runs_at}
use Rattle.bd_tables.specs.declared.sides.Tables as sides

-- the process of the parts is another one now, and so are the tables, as the state is to have them
pub record ProcessSteps {T M P : Type 0} (K : sides.Ghosts T P) (x y : Parts T M P) (m : State) (p : Place) (q : ℕ) (it z : Process P)
    (t : T) (tables : TableState) (g : Progress) : Type 0 where
  pub phase : Option Phase
  pub becomes : Becomes x y q t z
  pub tables_are : K.shows t tables
  pub passes : KeepsPasses K x.tables t q
  pub call : z.call ≡ it.call
  pub progress : g ≡ progress_shown (slice_index_or x.disk.held q None) phase z
  pub ended : z.ended ≡ it.ended
  pub outstanding_is : outstanding g ≡ outstanding (progress_of m q)
  pub submitted : All (IsCommandOf p) z.queue.submitted
  pub taken : z.queue.in_hand ≡ option_to_list (option_map (λ (h : Hand). h.command) z.hand)
  pub hand : (h : Hand) → z.hand ≡ Some h → IsHandOf p phase h
  pub engine : K.apart t ⊎ IsEngineHere K t q phase z

module _ {T M P : Type 0} {K : sides.Ghosts T P} (script : Script) (x y : Parts T M P) (m : State) (p : Place) (q : ℕ) (it z : Process P) (t : T)
    (tables : TableState) (g : Progress)
    (shows : Shows K script x m) (runs : running m q ≡ Some p) (there : process_in x q ≡ Some it)
    (s : ProcessSteps K x y m p q it z t tables g) where
  -- the state after the step
  abbrev next : State
  next = with_progress (record m { tables = tables }) q g

  within : q < length m.processes
  within =
      let inside : q < length x.processes.items = slice_get_within x.processes.items q it there in
      omega (arith, inside, shows.count, shows.progresses)

  now : progress_of next q ≡ g
  now = get_or-set_same m.processes q g new_progress within

  same_ended : (progress_of next q).ended ≡ (progress_of m q).ended
  same_ended =
      ap (λ (n : Progress). n.ended) now ∙ ap (λ (n : Progress). n.ended) s.progress ∙ s.ended
      ∙ sym (ap (λ (n : Progress). n.ended) (shows.each q it there).progress)

  -- the running call is the same
  pub still_runs : running next q ≡ Some p
  still_runs =
      ap (λ (n : ℕ). option_map (place_of m (record { process = q; call = n })) (call_at m.script (record { process = q; call = n }))) same_ended
      ∙ runs

  process_is : p.at.process ≡ q
  process_is = ap (λ (at : At). at.process) (runs_at m q p runs).at_is

  commands_same : outstanding (progress_of next p.at.process) ≡ outstanding (progress_of m p.at.process)
  commands_same =
      subst (λ (n : ℕ). outstanding (progress_of next n) ≡ outstanding (progress_of m n)) (sym process_is) (ap outstanding now ∙ s.outstanding_is)

  call_stays : (o : Option kernel.Progress) → IsCallAt m p o → IsCallAt next p o
  call_stays None is = record { entries = is.entries; outstanding = commands_same ∙ is.outstanding }
  call_stays (Some c) is = record {
    call = is.call;
    process = is.process;
    uid = is.uid;
    entries = is.entries;
    outstanding = is.outstanding ∙ sym commands_same;
  }

  same_place : (r : Place) → running next q ≡ Some r → p ≡ r
  same_place r is = same_Some p r (sym still_runs ∙ is)

  process_at : IsProcessAt K next (slice_index_or x.disk.held q None) t q z
  process_at =
      let here = call_stays z.call (subst (IsCallAt m p) (sym s.call) ((shows.each q it there).call p runs)) in
      record {
        phase = s.phase;
        progress = now ∙ s.progress;
        call = λ r is. subst (λ (k : Place). IsCallAt next k z.call) (same_place r is) here;
        none = λ is. absurd (none-some p (sym is ∙ still_runs));
        submitted = λ r is. subst (λ (k : Place). All (IsCommandOf k) z.queue.submitted) (same_place r is) s.submitted;
        taken = s.taken;
        hand = λ r h is in_hand. subst (λ (k : Place). IsHandOf k s.phase h) (same_place r is) (s.hand h in_hand);
        engine = s.engine;
      }

  pub steps_shown : Shows K script y next
  steps_shown =
      one_steps script x y m next q shows
      (record {
        state = record {
          script = refl;
          uids = refl;
          posted = refl;
          count = length-set m.processes q g;
          progress = λ other differ. get_or-set_other m.processes q other g new_progress differ;
          entries = λ at differ. refl;
        };
        parts = s.becomes.others;
        passes = subst (λ (new : T). KeepsPasses K x.tables new q) (sym s.becomes.tables_are) s.passes;
        holds = record {
          count = ap (λ (d : DiskState). length d.held) s.becomes.disk;
          others = λ other differ. ap (λ (d : DiskState). slice_index_or d.held other None) s.becomes.disk;
        };
        disk = subst (λ (d : DiskState). IsDiskOf d m.store) (sym s.becomes.disk) shows.disk;
        journal = shows.journal ∙ ap (λ (l : LogState). l.entries) (sym s.becomes.log);
        tables = subst (λ (new : T). K.shows new tables) (sym s.becomes.tables_are) s.tables_are;
        mine = λ k is.
            subst (λ (d : DiskState). IsProcessAt K next (slice_index_or d.held q None) y.tables q k) (sym s.becomes.disk)
            (subst (λ (new : T). IsProcessAt K next (slice_index_or x.disk.held q None) new q k) (sym s.becomes.tables_are)
            (subst (IsProcessAt K next (slice_index_or x.disk.held q None) t q) (same_Some z k (sym s.becomes.mine ∙ is)) process_at));
      })
