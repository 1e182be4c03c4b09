-- Whether a process has a running call, by how many of its calls have ended.
use Rattle.std.proofs.Common.{◌≡◌, ◌≢◌, ℕ, ◌<◌, List, [], length, Option, None, Some, refl, ap, ◌∙◌, arith, get_or}
use Rattle.std.specs.Prelude.{is_some, slice_get}
use Rattle.std.specs.Option.{option_map, option_map_or}
use Rattle.std.proofs.lemmas.Option.{slice_get_past, slice_get_read}
use Rattle.bd_base.specs.declared.script.Call.{Call}
use Rattle.bd_base.specs.declared.script.Process.{Process as ScriptProcess}
use Rattle.bd_base.specs.declared.script.Script.{Script}
use Rattle.bd_entry.specs.Calls.{calls_of}
use Rattle.bd_entry.proofs.Slots.{some_of}
use Rattle.bd_machine.specs.declared.parts.Parts.{Parts}
use Rattle.bd_machine.specs.declared.process.Process.{Process}
use Rattle.bd_machine.specs.Turns.{IsAt, IsRunning, process_in}
use Rattle.bd_turns.specs.State.{Progress, State, place_of, progress_of, running, running_at}
use Rattle.bd_turns.proofs.FoundElements.{slice_get-there}
use Rattle.bd_tables.specs.declared.sides.Tables as sides

-- a process of the script at an index
pub process_of_script : (script : Script) (process i : ℕ) (processes : List ScriptProcess) (it : ScriptProcess) → process < length script.processes →
    processes ≡ script.processes → i ≡ process → it ≡ get_or processes i it → slice_get script.processes process ≡ Some it
process_of_script script process i processes it within all same is =
    slice_get_read script.processes (length script.processes) process it refl within
    (is ∙ ap (λ (ps : List ScriptProcess). get_or ps i it) all ∙ ap (λ (n : ℕ). get_or script.processes n it) same)

module _ {T M P : Type 0} {K : sides.Ghosts T P} (script : Script) (x : Parts T M P) (m : State) (process : ℕ) (y : Process P) (it : ScriptProcess)
    (is : IsAt K script x m)
    (there : process_in x process ≡ Some y) (of : slice_get script.processes process ≡ Some it) where
  calls_are : calls_of m.script process ≡ it.calls
  calls_are =
      ap (λ (s : Script). calls_of s process) is.shows.script_is
      ∙ ap (λ (o : Option ScriptProcess). option_map_or (λ (p : ScriptProcess). p.calls) o []) of

  count : length (calls_of m.script process) ≡ length it.calls
  count = ap (λ (calls : List Call). length calls) calls_are

  ended : (progress_of m process).ended ≡ y.ended
  ended = ap (λ (g : Progress). g.ended) (is.shows.each process y there).progress

  -- none runs where all have ended
  pub none_runs : y.ended ≡ length it.calls → running m process ≡ None
  none_runs all =
      let same = ended in
      let long = count in
      ap (λ (o : Option Call). option_map (place_of m (running_at m process)) o)
      (slice_get_past (calls_of m.script process) (progress_of m process).ended (omega (arith, same, long, all)))

  -- and one runs where not
  pub one_runs : y.ended ≢ length it.calls → IsRunning m process
  one_runs differ =
      let same = ended in
      let long = count in
      let most = is.reached.1.sound.calls.processes.ended process in
      let below : (progress_of m process).ended < length (calls_of m.script process) = omega (arith, same, long, most, differ) in
      let call = some_of (slice_get (calls_of m.script process) (progress_of m process).ended)
      (slice_get-there (calls_of m.script process) (progress_of m process).ended below) in
      ap (λ (o : Option Call). is_some (option_map (place_of m (running_at m process)) o)) call.1
