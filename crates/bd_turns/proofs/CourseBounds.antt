-- How long a run is at most.
use Rattle.std.proofs.Common.{◌≡◌, ℕ, ◌+◌, ◌*◌, ◌-◌, ◌≤◌, List, [], ◌∷◌, length, map, replicate, Option, None, Some, refl, sym, ap, ◌∙◌, subst, arith}
use Rattle.std.specs.Prelude.{slice_get, sum}
use Rattle.std.specs.Option.{option_map_or}
use Rattle.std.specs.List.{flat_map}
use Rattle.std.proofs.lemmas.List.{length-append, length-replicate}
use Rattle.std.proofs.lemmas.Nat.{mul-le}
use Rattle.bd_base.specs.declared.script.Item.{Item}
use Rattle.bd_base.specs.declared.script.Process.{Process}
use Rattle.bd_base.specs.declared.script.ScheduleLine.{ScheduleLine}
use Rattle.bd_base.specs.declared.script.Script.{Script}
use Rattle.bd_base.specs.Scripts.{IsProcess, IsWithinLimits, total_turns, turns_of}
use Rattle.bd_entry.specs.Calls.{calls_of}
use Rattle.bd_entry.proofs.CallPieces.{All-slice_get}
use Rattle.bd_turns.specs.Course.{actor_count, scheduled, scheduled_by, state_at}
use Rattle.bd_turns.specs.CourseLaws.{RunsAreShort}
use Rattle.bd_turns.specs.State.{Progress, State, progress_of}
use Rattle.bd_turns.specs.Turns.{process_count, rest_of}
use Rattle.bd_turns.proofs.CourseStates.{runs_keep_scripts}
use Rattle.bd_turns.proofs.Sums.{sum_bound, sum_from}

-- ---- how many turns the schedule has

of_items : (items : List Item) → length (flat_map (λ (item : Item). replicate item.turns item.actor) items) ≡ turns_of items
of_items [] = refl
of_items (item ∷ items) =
    length-append (replicate item.turns item.actor) (flat_map (λ (item : Item). replicate item.turns item.actor) items)
    ∙ ap (λ (n : ℕ). n + length (flat_map (λ (item : Item). replicate item.turns item.actor) items)) (length-replicate item.turns item.actor)
    ∙ ap (λ (n : ℕ). item.turns + n) (of_items items)

of_lines : (lines : List ScheduleLine) → length (flat_map scheduled_by lines) ≡ total_turns lines
of_lines [] = refl
of_lines (line ∷ lines) =
    length-append (scheduled_by line) (flat_map scheduled_by lines)
    ∙ ap (λ (n : ℕ). n + length (flat_map scheduled_by lines)) (of_items line.items)
    ∙ ap (λ (n : ℕ). turns_of line.items + n) (of_lines lines)

-- the schedule has as many turns as its lines say
pub length-scheduled : (script : Script) → length (scheduled script) ≡ total_turns script.schedule
length-scheduled script = of_lines script.schedule

-- ---- how large the rest is

-- a process of a script within the limits has not too many calls
calls_bound : (script : Script) (limits : IsWithinLimits script) (process : ℕ) → length (calls_of script process) ≤ 256
calls_bound script limits process = of_process (slice_get script.processes process) refl
  where
    of_process : (o : Option Process) → slice_get script.processes process ≡ o →
        length (option_map_or (λ (p : Process). p.calls) o []) ≤ 256
    of_process None none = omega arith
    of_process (Some p) is = (All-slice_get IsProcess script.processes process p limits.processes is).count

rest_bound : (m : State) → IsWithinLimits m.script → rest_of m ≤ 25000 * (16 * 256)
rest_bound m limits =
    let open_calls : ℕ → ℕ = λ i. length (calls_of m.script i) - (progress_of m i).ended in
    let count : ℕ = process_count m in
    let used : ℕ = sum (map (λ (progress : Progress). progress.used) m.processes) in
    let few : count ≤ 16 = limits.process_count in
    let each : sum_from open_calls 0 count ≤ count * 256 =
    sum_bound open_calls 0 count 256 (λ i. let bound = calls_bound m.script limits i in omega (arith, bound)) in
    let is : rest_of m ≡ 25000 * sum_from open_calls 0 count - used = refl in
    omega (arith, few, each, is)

pub runs_are_short : RunsAreShort
runs_are_short start script limits =
    let turns : ℕ = length (scheduled script) in
    let m : State = state_at start script turns in
    let lines = limits.turns in
    let turns_bound : turns ≤ 1000000 = omega (arith, lines, length-scheduled script) in
    let rest : rest_of m ≤ 25000 * (16 * 256) =
    rest_bound m (subst IsWithinLimits (sym (runs_keep_scripts start script turns)) limits) in
    let processes : length script.processes ≤ 16 = limits.process_count in
    let product : rest_of m * actor_count script ≤ 25000 * (16 * 256) * (2 * 16 + 1) =
    mul-le (rest_of m) (actor_count script) (25000 * (16 * 256)) (2 * 16 + 1) rest (omega (arith, processes)) in
    omega (arith, turns_bound, product)
