-- What is known as a device engine takes a turn: the running call of its process, and what is kept of it.
use Rattle.std.proofs.Common.{◌≡◌, ◌≢◌, ℕ, ◌+◌, ◌<◌, ◌≤◌, Bool, true, false, [], length, Option, None, Some, refl, sym, ap, ◌∙◌, subst, arith}
use Rattle.std.specs.Prelude.{slice_get, slice_index_or}
use Rattle.std.specs.Option.{option_map_or}
use Rattle.std.proofs.lemmas.Option.{same_Some, slice_get_within}
use Rattle.bd_base.specs.declared.journal.At.{At}
use Rattle.bd_base.specs.declared.limits.TheConstants.{CALLS}
use Rattle.bd_base.specs.declared.script.Process.{Process as ScriptProcess}
use Rattle.bd_base.specs.declared.script.Script.{Script}
use Rattle.bd_base.specs.Scripts.{IsCall, IsProcess, IsWithinLimits}
use Rattle.bd_entry.specs.Actions.{has_begun}
use Rattle.bd_entry.specs.Calls.{Place, calls_of, entries_of}
use Rattle.bd_entry.proofs.CallPieces.{All-slice_get}
use Rattle.bd_entry.proofs.HistoryLaws.{is_call}
use Rattle.bd_kernel.specs.Turns as kernel
use Rattle.bd_machine.specs.declared.parts.Parts.{Parts}
use Rattle.bd_machine.specs.declared.process.Process.{Process}
use Rattle.bd_machine.specs.Shows.{IsCallAt, IsCallKept, IsProcessAt}
use Rattle.bd_machine.specs.Turns.{AreFew, IsAt, Sight, process_in}
use Rattle.bd_turns.specs.Processors.{running_of}
use Rattle.bd_turns.specs.Rest.{AreWithinTurns}
use Rattle.bd_turns.specs.Sound.{Sound}
use Rattle.bd_turns.specs.State.{Progress, State, outstanding, progress_of, running}
use Rattle.bd_turns.specs.Turns.{turns_per_call}
use Rattle.bd_turns.proofs.RunningPlaces.{runs_at}
use Rattle.bd_tables.specs.declared.sides.Tables as sides

-- the running call of a process with commands, and what is kept of it
pub record Working {T M P : Type 0} (K : sides.Ghosts T P) (g : Sight) (x : Parts T M P) (q : ℕ) (it : Process P) : Type 0 where
  pub place : Place
  pub running_is : running g.state q ≡ Some place
  pub process_is : place.at.process ≡ q
  pub at_is : place.at ≡ record { process = q; call = it.ended }
  pub there : q < length g.script.processes
  pub is_shown : IsProcessAt K g.state (slice_index_or x.disk.held q None) x.tables q it
  pub within : IsCall place.call
  pub call : kernel.Progress
  pub call_is : it.call ≡ Some call
  pub kept : IsCallKept g.state place call
  pub few : AreFew x q
  pub later : entries_of (record { process = place.at.process; call = place.at.call + 1 }) g.state.journal ≡ []
  pub sound : Sound g.state

-- no process has more calls than a script may have
calls_few : (script : Script) → IsWithinLimits script → (process : ℕ) → length (calls_of script process) ≤ CALLS
calls_few script limits process = by (slice_get script.processes process) refl
  where
    by : (o : Option ScriptProcess) → slice_get script.processes process ≡ o →
        length (option_map_or (λ (p : ScriptProcess). p.calls) o []) ≤ CALLS
    by None is = omega arith
    by (Some p) is = (All-slice_get IsProcess script.processes process p limits.processes is).count

-- a running call took few turns so far
used_few : (m : State) → AreWithinTurns m → (q : ℕ) (p : Place) → running m q ≡ Some p → (progress_of m q).used < turns_per_call
used_few m within q p is = by (has_begun (running_of m p)) refl
  where
    by : (b : Bool) → has_begun (running_of m p) ≡ b → (progress_of m q).used < turns_per_call
    by true begun = let few = within.within q p is begun in omega (arith, few)
    by false fresh = let none = (within.new q p is fresh).0 in omega (arith, none)

-- a call with commands outstanding was begun
begun_call : (m : State) (p : Place) (o : Option kernel.Progress) → IsCallAt m p o → outstanding (progress_of m p.at.process) ≢ [] →
    (c : kernel.Progress) × (o ≡ Some c) × IsCallKept m p c
begun_call m p None is some = absurd (some is.outstanding)
begun_call m p (Some c) is some = (c, refl, is)

-- a process with commands outstanding has a running call that was begun
pub working : {T M P : Type 0} {K : sides.Ghosts T P} (g : Sight) (x : Parts T M P) (q : ℕ) (it : Process P) → IsAt K g.script x g.state →
    process_in x q ≡ Some it →
    outstanding (progress_of g.state q) ≢ [] → Working K g x q it
working {T} {M} {P} {K} g x q it at there some = by (running g.state q) refl
  where
    by : (o : Option Place) → running g.state q ≡ o → Working K g x q it
    by None none = absurd (some (at.reached.1.sound.calls.commands.none q none))
    by (Some p) is =
        let m : State = g.state in
        let reached = at.reached.1 in
        let calls = reached.sound.calls in
        let runs = runs_at m q p is in
        let is_at = at.shows.each q it there in
        let process_is : p.at.process ≡ q = ap (λ (at : At). at.process) runs.at_is in
        let number_is : p.at.call ≡ (progress_of m q).ended = ap (λ (at : At). at.call) runs.at_is in
        let some_here : outstanding (progress_of m p.at.process) ≢ [] =
        subst (λ (n : ℕ). outstanding (progress_of m n) ≢ []) (sym process_is) some in
        let kept = begun_call m p it.call (is_at.call p is) some_here in
        let below : p.at.call < length (calls_of m.script p.at.process) =
        slice_get_within (calls_of m.script p.at.process) p.at.call p.call runs.called in
        let most : length (calls_of m.script p.at.process) ≤ CALLS = calls_few m.script calls.limits p.at.process in
        let ended : (progress_of m q).ended ≡ it.ended = ap (λ (n : Progress). n.ended) is_at.progress in
        let used : (progress_of m q).used ≡ it.used = ap (λ (n : Progress). n.used) is_at.progress in
        let few_turns = used_few m reached.within q p is in
        let inside : q < length x.processes.items = slice_get_within x.processes.items q it there in
        let count : length x.processes.items ≡ length g.script.processes = at.shows.count in
        record {
          place = p;
          running_is = is;
          process_is = process_is;
          at_is = runs.at_is ∙ ap (λ (n : ℕ). record { process = q; call = n }) ended;
          there = omega (arith, inside, count);
          is_shown = is_at;
          within = is_call m.script p.at p.call calls.limits runs.called;
          call = kept.0;
          call_is = kept.1;
          kept = kept.2;
          few = record {
            calls = λ y is_y. subst (λ (z : Process P). z.ended < CALLS) (same_Some it y (sym there ∙ is_y)) (omega (arith, number_is, below, most, ended));
            turns = λ y is_y.
                subst (λ (z : Process P). z.used < turns_per_call) (same_Some it y (sym there ∙ is_y)) (omega (arith, used, few_turns));
          };
          later =
              subst (λ (n : ℕ). entries_of (record { process = n; call = p.at.call + 1 }) m.journal ≡ []) (sym process_is)
              (calls.in_turn.later q (p.at.call + 1) (omega (arith, number_is)));
          sound = reached.sound;
        }
