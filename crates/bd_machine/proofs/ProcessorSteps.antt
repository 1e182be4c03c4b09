-- A process takes a step by itself: its queues, what is kept of its call, and how far it is.
use Rattle.std.proofs.Common.{◌≡◌, ◌≢◌, ℕ, ◌<◌, List, length, Option, None, Some, refl, sym, ap, ◌∙◌, subst, arith, ⊎_elim}
use Rattle.std.specs.Prelude.{slice_get, slice_index_or, slice_set, IsSome}
use Rattle.std.specs.Option.{option_map}
use Rattle.std.specs.Vec.{with_item}
use Rattle.std.proofs.lemmas.Bool.{cases_lt}
use Rattle.std.proofs.lemmas.List.{get_or-set_other, get_or-set_same, length-set}
use Rattle.std.proofs.lemmas.Option.{same_Some, slice_get-get_or, slice_get_past, slice_get_within}
use Rattle.bd_base.specs.declared.journal.At.{At}
use Rattle.bd_base.specs.declared.script.Call.{Call}
use Rattle.bd_base.specs.declared.script.Script.{Script}
use Rattle.bd_entry.specs.declared.entry.Entry.{Entry}
use Rattle.bd_entry.specs.Calls.{Place, call_at, entries_of}
use Rattle.bd_machine.specs.declared.parts.Parts.{Parts}
use Rattle.bd_machine.specs.declared.process.Process.{Process}
use Rattle.bd_machine.specs.Shows.{IsProcessAt, Shows}
use Rattle.bd_machine.specs.Turns.{HasBegun, OthersStay, process_in}
use Rattle.bd_machine.proofs.Showing.{OneSteps, one_steps}
use Rattle.bd_turns.specs.State.{Progress, State, progress_of, running, with_progress}
use Rattle.bd_turns.proofs.DoneTurns.{progress_of-other}
use Rattle.bd_tables.specs.declared.sides.Tables as sides

-- ---- lists in which one element is another

pub get_set_same : {X : Type 0} (xs : List X) (i : ℕ) (x : X) → i < length xs → slice_get (slice_set xs i x) i ≡ Some x
get_set_same xs i x within =
    slice_get-get_or (slice_set xs i x) i x (omega (arith, within, length-set xs i x)) ∙ ap Some (get_or-set_same xs i x x within)

pub get_set_other : {X : Type 0} (xs : List X) (i j : ℕ) (x : X) → j ≢ i → slice_get (slice_set xs i x) j ≡ slice_get xs j
get_set_other xs i j x differ =
    ⊎_elim
    (λ below.
    slice_get-get_or (slice_set xs i x) j x (omega (arith, below, length-set xs i x))
    ∙ ap Some (get_or-set_other xs i j x x differ) ∙ sym (slice_get-get_or xs j x below))
    (λ past. slice_get_past (slice_set xs i x) j (omega (arith, past, length-set xs i x)) ∙ sym (slice_get_past xs j past))
    (cases_lt j (length xs))

-- ---- the running call of a process

abbrev running_from : (script : Script) (journal : List Entry) (process ended : ℕ) → Option Place
running_from script journal process ended =
    let at : At = record { process = process; call = ended } in
    option_map (λ (call : Call). record { call = call; at = at; before = entries_of at journal }) (call_at script at)

-- the same call runs where as many calls have ended, and the entries are the same
pub running_kept : (m n : State) (process : ℕ) → n.script ≡ m.script → n.journal ≡ m.journal →
    (progress_of n process).ended ≡ (progress_of m process).ended → running n process ≡ running m process
running_kept m n process script journal ended = λ i. running_from (script i) (journal i) process (ended i)

-- ---- one process is another

-- the parts with this in the place of a process
abbrev pub with_process : {T M P : Type 0} → Parts T M P → ℕ → Process P → Parts T M P
with_process x process new = record x { processes = with_item x.processes process new }

module _ {T M P : Type 0} (x : Parts T M P) (process : ℕ) (old new : Process P) (there : process_in x process ≡ Some old) where
  others_stay : OthersStay x (with_process x process new) process
  others_stay = record {
    count = length-set x.processes.items process new;
    others = λ other differ. get_set_other x.processes.items process other new differ;
  }

  pub takes_place : process_in (with_process x process new) process ≡ Some new
  takes_place = get_set_same x.processes.items process new (slice_get_within x.processes.items process old there)

  -- its call was begun where that of the new one was
  pub begun_now : IsSome new.call → HasBegun (with_process x process new) process
  begun_now begun = record { it = new; there = takes_place; begun = begun }

  -- the parts show the state with this progress of the process, where that is where the process is
  pub own_step : {K : sides.Ghosts T P} (script : Script) (m : State) (progress : Progress) → Shows K script x m →
      IsProcessAt K (with_progress m process progress) (slice_index_or x.disk.held process None) x.tables process new →
      Shows K script (with_process x process new) (with_progress m process progress)
  own_step {K} script m progress shows at =
      let y = with_process x process new in
      let n = with_progress m process progress in
      let steps : OneSteps K x y m n process =
      record {
        state = record {
          script = refl;
          uids = refl;
          posted = refl;
          count = length-set m.processes process progress;
          progress = λ other differ. progress_of-other m process progress other differ;
          entries = λ at differ. refl;
        };
        parts = others_stay;
        passes = record { lent = λ pass differ is. is; here = λ other differ is. is; going = λ apart. apart };
        holds = record { count = refl; others = λ other differ. refl };
        disk = shows.disk;
        journal = shows.journal;
        tables = shows.tables;
        mine = λ z is.
            subst (IsProcessAt K n (slice_index_or x.disk.held process None) x.tables process)
            (same_Some new z (sym takes_place ∙ is)) at;
      } in
      one_steps script x y m n process shows steps

  -- so they show the same state, where the process stays where it is
  pub same_step : {K : sides.Ghosts T P} (script : Script) (m : State) → Shows K script x m →
      IsProcessAt K m (slice_index_or x.disk.held process None) x.tables process new → Shows K script (with_process x process new) m
  same_step {K} script m shows at =
      let y = with_process x process new in
      let steps : OneSteps K x y m m process =
      record {
        state = record {
          script = refl;
          uids = refl;
          posted = refl;
          count = refl;
          progress = λ other differ. refl;
          entries = λ at differ. refl;
        };
        parts = others_stay;
        passes = record { lent = λ pass differ is. is; here = λ other differ is. is; going = λ apart. apart };
        holds = record { count = refl; others = λ other differ. refl };
        disk = shows.disk;
        journal = shows.journal;
        tables = shows.tables;
        mine = λ z is.
            subst (IsProcessAt K m (slice_index_or x.disk.held process None) x.tables process)
            (same_Some new z (sym takes_place ∙ is)) at;
      } in
      one_steps script x y m m process shows steps
