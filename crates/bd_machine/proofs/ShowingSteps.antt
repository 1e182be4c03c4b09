-- One process takes a step: what the parts of a machine show then.
use Rattle.std.proofs.Common.{◌≡◌, ◌≢◌, ℕ, ◌<◌, List, length, Option, None, Some, refl, sym, ap, ◌∙◌, subst, ⊎_elim}
use Rattle.std.specs.Prelude.{slice_index_or, slice_set}
use Rattle.std.proofs.lemmas.Bool.{cases_eq}
use Rattle.std.proofs.lemmas.List.{get_or-set_other, get_or-set_same, length-set}
use Rattle.bd_base.specs.declared.journal.At.{At}
use Rattle.bd_base.specs.declared.script.Script.{Script}
use Rattle.bd_entry.specs.Calls.{entries_of}
use Rattle.bd_kernel.specs.Disks.{IsDiskOf}
use Rattle.bd_machine.specs.declared.parts.Parts.{Parts}
use Rattle.bd_machine.specs.declared.process.Process.{Process}
use Rattle.bd_machine.specs.Shows.{IsProcessAt, Shows, progress_shown}
use Rattle.bd_machine.specs.Turns.{OthersStay, PassesStay, process_in, with_hold}
use Rattle.bd_tables.specs.State.{TableState}
use Rattle.bd_machine.proofs.ShowingKept.{process_kept, running_kept}
use Rattle.bd_turns.proofs.DoneTurns.{progress_of-other, progress_of-set}
use Rattle.bd_turns.specs.State.{Progress, State, outstanding, progress_of, running_at, with_progress}
use Rattle.bd_tables.specs.declared.sides.Tables as sides

-- ---- one process takes a step

-- every process but this one is as it was: its progress and the entries of its calls
pub record KeepsOthers (m n : State) (process : ℕ) : Type 0 where
  pub script : n.script ≡ m.script
  pub uids : n.store.uids ≡ m.store.uids
  pub posted : n.posted ≡ m.posted
  pub count : length n.processes ≡ length m.processes
  pub progress : (other : ℕ) → other ≢ process → progress_of n other ≡ progress_of m other
  pub entries : (at : At) → at.process ≢ process → entries_of at n.journal ≡ entries_of at m.journal

-- the passes of all processes but this one are where they were
pub record KeepsPasses {T P : Type 0} (K : sides.Ghosts T P) (old new : T) (process : ℕ) : Type 0 where
  pub lent : (pass : P) → K.process pass ≢ process → K.is_of old pass → K.is_of new pass
  pub here : (other : ℕ) → other ≢ process → K.lies old other → K.lies new other
  pub going : K.apart old → K.apart new

-- the files that all processes but this one hold are as they were
pub record KeepsHolds (old new : List (Option ℕ)) (process : ℕ) : Type 0 where
  pub count : length new ≡ length old
  pub others : (other : ℕ) → other ≢ process → slice_index_or new other None ≡ slice_index_or old other None

-- the parts and the state took a step of one process, after which the process is where the state has it
pub record OneSteps {T M P : Type 0} (K : sides.Ghosts T P) (x y : Parts T M P) (m n : State) (process : ℕ) : Type 0 where
  pub state : KeepsOthers m n process
  pub parts : OthersStay x y process
  pub passes : KeepsPasses K x.tables y.tables process
  pub holds : KeepsHolds x.disk.held y.disk.held process
  pub disk : IsDiskOf y.disk n.store
  pub journal : n.journal ≡ y.log.entries
  pub tables : K.shows y.tables n.tables
  pub mine : (z : Process P) → process_in y process ≡ Some z →
      IsProcessAt K n (slice_index_or y.disk.held process None) y.tables process z

pub one_steps : {T M P : Type 0} {K : sides.Ghosts T P} (script : Script) (x y : Parts T M P) (m n : State) (process : ℕ) →
    Shows K script x m → OneSteps K x y m n process → Shows K script y n
one_steps {T} {M} {P} {K} script x y m n process shows steps =
    record {
      script_is = steps.state.script ∙ shows.script_is;
      disk = steps.disk;
      users = steps.state.uids ∙ shows.users;
      holders = steps.holds.count ∙ shows.holders;
      journal = steps.journal;
      tables = steps.tables;
      posted = steps.state.posted ∙ shows.posted;
      count = steps.parts.count ∙ shows.count;
      progresses = steps.state.count ∙ shows.progresses;
      each = each;
    }
  where
    -- another process is where it was
    other : (q : ℕ) (z : Process P) → q ≢ process → process_in y q ≡ Some z →
        IsProcessAt K n (slice_index_or y.disk.held q None) y.tables q z
    other q z differ there =
        let was : IsProcessAt K m (slice_index_or x.disk.held q None) x.tables q z =
        shows.each q z (sym (steps.parts.others q differ) ∙ there) in
        let same : progress_of n q ≡ progress_of m q = steps.state.progress q differ in
        process_kept m n q
        (record {
          running_is =
              running_kept m n q steps.state.script (ap (λ (g : Progress). g.ended) same)
              (steps.state.entries (running_at m q) differ);
          uids = steps.state.uids;
          outstanding_is = ap outstanding same;
        })
        x.tables y.tables (slice_index_or x.disk.held q None) (slice_index_or y.disk.held q None) z z.used was
        (same ∙ was.progress ∙ ap (λ (h : Option ℕ). progress_shown h was.phase z) (sym (steps.holds.others q differ)))
        (record {
          lent = λ pass of. steps.passes.lent pass (λ mine. differ (sym of ∙ mine));
          here = steps.passes.here q differ;
          going = steps.passes.going;
        })

    each : (q : ℕ) (z : Process P) → process_in y q ≡ Some z → IsProcessAt K n (slice_index_or y.disk.held q None) y.tables q z
    each q z there =
        ⊎_elim {C = IsProcessAt K n (slice_index_or y.disk.held q None) y.tables q z}
        (λ same.
        subst (λ (k : ℕ). IsProcessAt K n (slice_index_or y.disk.held k None) y.tables k z) (sym same)
        (steps.mine z (ap (process_in y) (sym same) ∙ there)))
        (λ differ. other q z differ there)
        (cases_eq q process)

-- ---- tables

-- the tables change, and no pass is lent or taken back
pub tables_step : {T M P : Type 0} {K : sides.Ghosts T P} (script : Script) (x : Parts T M P) (m : State) (new : T)
    (tables : TableState) → Shows K script x m → PassesStay K x.tables new → K.shows new tables →
    Shows K script (record x { tables = new }) (record m { tables = tables })
tables_step script x m new tables shows passes shown =
    record {
      script_is = shows.script_is;
      disk = shows.disk;
      users = shows.users;
      holders = shows.holders;
      journal = shows.journal;
      tables = shown;
      posted = shows.posted;
      count = shows.count;
      progresses = shows.progresses;
      each = λ process z there.
          let was = shows.each process z there in
          process_kept m (record m { tables = tables }) process
          (record { running_is = refl; uids = refl; outstanding_is = refl }) x.tables new
          (slice_index_or x.disk.held process None) (slice_index_or x.disk.held process None) z z.used was was.progress
          (record {
            lent = λ pass of lent. passes.lent pass lent;
            here = passes.engines.lying process;
            going = passes.engines.going;
          });
    }

-- ---- holds

-- the process holds this file, or none
module _ {T M P : Type 0} {K : sides.Ghosts T P} (script : Script) (x : Parts T M P) (m : State) (process : ℕ) (file : Option ℕ)
    (shows : Shows K script x m) (there : process < length script.processes) where
  abbrev held : Progress
  held = record (progress_of m process) { held = file }

  abbrev n : State
  n = with_progress m process held

  now : progress_of n process ≡ held
  now = progress_of-set m process held (subst (λ (k : ℕ). process < k) (sym shows.progresses) there)

  mine : (z : Process P) → process_in x process ≡ Some z →
      IsProcessAt K n (slice_index_or (slice_set x.disk.held process file) process None) x.tables process z
  mine z is =
      let was = shows.each process z is in
      let holds : slice_index_or (slice_set x.disk.held process file) process None ≡ file =
      get_or-set_same x.disk.held process file None (subst (λ (k : ℕ). process < k) (sym shows.holders) there) in
      process_kept m n process
      (record {
        running_is = running_kept m n process refl (ap (λ (g : Progress). g.ended) now) refl;
        uids = refl;
        outstanding_is = ap outstanding now;
      })
      x.tables x.tables (slice_index_or x.disk.held process None)
      (slice_index_or (slice_set x.disk.held process file) process None) z z.used was
      (now ∙ ap (λ (g : Progress). record g { held = file }) was.progress
      ∙ ap (λ (h : Option ℕ). progress_shown h was.phase z) (sym holds))
      (record { lent = λ pass of lent. lent; here = λ here. here; going = λ apart. apart })

  pub hold_step : Shows K script (with_hold x process file)
      (with_progress m process (record (progress_of m process) { held = file }))
  hold_step =
      one_steps script x (with_hold x process file) m n process shows
      (record {
        state = record {
          script = refl;
          uids = refl;
          posted = refl;
          count = length-set m.processes process held;
          progress = λ other differ. progress_of-other m process held other differ;
          entries = λ at differ. refl;
        };
        parts = record { count = refl; others = λ other differ. refl };
        passes = record { lent = λ pass other lent. lent; here = λ other differ here. here; going = λ apart. apart };
        holds = record {
          count = length-set x.disk.held process file;
          others = λ other differ. get_or-set_other x.disk.held process other file None differ;
        };
        disk = record { total = shows.disk.total; files = shows.disk.files; bytes = shows.disk.bytes; opens = shows.disk.opens };
        journal = shows.journal;
        tables = shows.tables;
        mine = mine;
      })
