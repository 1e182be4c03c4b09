-- A run ends: in each round of turns after the schedule the rest falls, as long as a call has not ended.
use Rattle.std.proofs.Common.{◌≡◌, ◌⊎◌, inl, inr, ℕ, zero, suc, ◌+◌, ◌*◌, ◌-◌, ◌/◌, ◌%◌, ◌<◌, ◌≤◌, Bool, true, false, length, Option, None, Some, refl, sym, ap, ◌∙◌, subst, arith, ⊎_elim}
use Rattle.std.proofs.Math.Nat.{div-add-mod, mod-lt}
use Rattle.std.specs.List.{find, range_with_len}
use Rattle.std.proofs.lemmas.Bool.{both_ways, cases_Bool, cases_lt}
use Rattle.std.proofs.lemmas.Nat.{mod-mul-add}
use Rattle.bd_base.specs.declared.script.Script.{Script}
use Rattle.bd_base.specs.declared.volume.Volume.{Volume}
use Rattle.bd_base.specs.Scripts.{IsWithinLimits}
use Rattle.bd_base.specs.Volumes.{IsSoundVolume}
use Rattle.bd_base.proofs.Ranges.{IsLowest, find-range_fails, find-range_lowest}
use Rattle.bd_entry.specs.Store.{Store, start_store}
use Rattle.bd_turns.specs.declared.turn.Row.{Row}
use Rattle.bd_turns.specs.declared.turn.Turn.{Turn}
use Rattle.bd_turns.specs.declared.turn.Turn.TheVariants.{Did, Idle, Waits}
use Rattle.bd_turns.specs.Course.{actor_at, actor_count, scheduled, state_at}
use Rattle.bd_turns.specs.CourseLaws.{RunsEnd, latest_end}
use Rattle.bd_turns.specs.State.{State}
use Rattle.bd_turns.specs.Turns.{LowersRest, SomeActorActs, all_ended, answer_of, rest_of}
use Rattle.bd_turns.proofs.CourseStates.{actor_at-rounds, runs_are_reached, runs_keep_scripts, turns_are_of_actors}
use Rattle.bd_turns.proofs.FallingRest.{rest_falls}
use Rattle.bd_turns.proofs.NeverStuck.{never_stuck}

-- ---- rounds

-- from each number on, each remainder comes within a round
pub record ComesWithin (count n a : ℕ) : Type 0 where
  pub steps : ℕ
  pub within : steps < count
  pub comes : (n + steps) % count ≡ a

each_comes : (count n a : ℕ) → a < count → ComesWithin count n a
each_comes count n a below = by (cases_lt a (n % count))
  where
    parts : count * (n / count) + n % count ≡ n
    parts = div-add-mod n count

    least : n % count < count
    least = mod-lt n {m = count} (omega (arith, below))

    by : (a < n % count) ⊎ (n % count ≤ a) → ComesWithin count n a
    by (inl above) =
        let sum : n + (count + a - n % count) ≡ (n / count + 1) * count + a = grind (arith, parts, least, above) in
        record {
          steps = count + a - n % count;
          within = omega (arith, above);
          comes = ap (λ (k : ℕ). k % count) sum ∙ mod-mul-add (n / count + 1) count a below;
        }
    by (inr up_to) =
        let sum : n + (a - n % count) ≡ n / count * count + a = grind (arith, parts, up_to) in
        record {
          steps = a - n % count;
          within = omega (arith, below);
          comes = ap (λ (k : ℕ). k % count) sum ∙ mod-mul-add (n / count) count a below;
        }

-- ---- the first turn at which all calls have ended

-- all calls have ended after so many turns, which lie between these numbers
pub record EndsBetween (start : Store) (script : Script) (low high : ℕ) : Type 0 where
  pub turn : ℕ
  pub from : low ≤ turn
  pub to : turn ≤ high
  pub ended : all_ended (state_at start script turn) ≡ true

ends_at_once : (start : Store) (script : Script) (low high : ℕ) → low ≤ high → all_ended (state_at start script low) ≡ true →
    EndsBetween start script low high
ends_at_once start script low high ordered ended =
    record { turn = low; from = omega arith; to = ordered; ended = ended }

-- the first number from the low one on that passes a test, where a later one does
first_that : (p : ℕ → Bool) (low turn : ℕ) → low ≤ turn → p turn ≡ true → (b : ℕ) × IsLowest p low (turn - low + 1) b
first_that p low turn from passes = by (find p (range_with_len low (turn - low + 1))) refl
  where
    by : (o : Option ℕ) → find p (range_with_len low (turn - low + 1)) ≡ o → (b : ℕ) × IsLowest p low (turn - low + 1) b
    by None none = absurd (both_ways (p turn) (find-range_fails p low (turn - low + 1) none turn from (omega arith)) passes)
    by (Some b) found = (b, find-range_lowest p low (turn - low + 1) b found)

up_to : (b low turn high : ℕ) → b < low + (turn - low + 1) → low ≤ turn → turn ≤ high → b ≤ high
up_to b low turn high below from to = omega (arith, below, from, to)

-- ---- each round

-- within a round the rest falls
pub record FallsSoon (start : Store) (script : Script) (n : ℕ) : Type 0 where
  pub steps : ℕ
  pub within : steps < actor_count script
  pub falls : rest_of (state_at start script (suc (n + steps))) < rest_of (state_at start script n)

module _ (v : Volume) (script : Script) (sound : IsSoundVolume v) (limits : IsWithinLimits script) where
  abbrev start : Store
  start = start_store v script

  abbrev at : ℕ → State
  at = state_at start script

  abbrev count : ℕ
  count = actor_count script

  -- how many turns the schedule has
  abbrev turns : ℕ
  turns = length (scheduled script)

  -- the rest after so many turns
  abbrev rest : ℕ → ℕ
  rest n = rest_of (at n)

  one_turn : (n : ℕ) → LowersRest (answer_of (at n) (actor_at script n)) (at n) (at (suc n))
  one_turn n =
      rest_falls v (at n) (actor_at script n) (runs_are_reached v script n sound limits)
      (subst (λ (s : Script). actor_at script n < 2 * length s.processes + 1) (sym (runs_keep_scripts start script n))
      (turns_are_of_actors script n limits))

  -- no turn raises the rest
  never_rises : (answer : Turn) (old new : State) → LowersRest answer old new → rest_of new ≤ rest_of old
  never_rises (Did row) old new lowers = let less : rest_of new < rest_of old = lowers in omega (arith, less)
  never_rises Idle old new same = let is : rest_of new ≡ rest_of old = ap rest_of same in omega (arith, is)
  never_rises (Waits wait) old new same = let is : rest_of new ≡ rest_of old = ap rest_of same in omega (arith, is)

  stays_low : (n k : ℕ) → rest (n + k) ≤ rest n
  stays_low n zero = let none : n + 0 ≡ n = omega arith in let is : rest (n + 0) ≡ rest n = ap rest none in omega (arith, is)
  stays_low n (suc k) =
      let next : n + suc k ≡ suc (n + k) = omega arith in
      let is : rest (n + suc k) ≡ rest (suc (n + k)) = ap rest next in
      let one : rest (suc (n + k)) ≤ rest (n + k) =
      never_rises (answer_of (at (n + k)) (actor_at script (n + k))) (at (n + k)) (at (suc (n + k))) (one_turn (n + k)) in
      let before : rest (n + k) ≤ rest n = stays_low n k in
      omega (arith, is, one, before)

  -- a turn that changes nothing puts it off
  put_off : (n steps : ℕ) → at (suc n) ≡ at n → (at (suc n) ≡ at n → rest (suc (suc n + steps)) < rest (suc n)) →
      rest (suc (n + suc steps)) < rest n
  put_off n steps same later =
      let next : suc (n + suc steps) ≡ suc (suc n + steps) = omega arith in
      let falls : rest (suc (suc n + steps)) < rest (suc n) = later same in
      let as_before : rest (suc n) ≡ rest n = ap rest_of same in
      let is : rest (suc (n + suc steps)) ≡ rest (suc (suc n + steps)) = ap rest next in
      omega (arith, falls, as_before, is)

  -- the rest is lower once it fell, and another turn puts that off
  goes_on : (n steps : ℕ) (answer : Turn) → LowersRest answer (at n) (at (suc n)) →
      (at (suc n) ≡ at n → rest (suc (suc n + steps)) < rest (suc n)) → rest (suc (n + suc steps)) < rest n
  goes_on n steps (Did row) lowers later =
      let next : suc (n + suc steps) ≡ suc n + suc steps = omega arith in
      let less : rest (suc n) < rest n = lowers in
      let low : rest (suc n + suc steps) ≤ rest (suc n) = stays_low (suc n) (suc steps) in
      let is : rest (suc (n + suc steps)) ≡ rest (suc n + suc steps) = ap rest next in
      omega (arith, less, low, is)
  goes_on n steps Idle same later = put_off n steps same later
  goes_on n steps (Waits wait) same later = put_off n steps same later

  -- where an actor's turn would have an effect, and that actor's turn comes so many turns later, the rest is lower then
  falls_by : (steps n actor : ℕ) (row : Row) → answer_of (at n) actor ≡ Did row → actor_at script (n + steps) ≡ actor →
      rest (suc (n + steps)) < rest n
  falls_by zero n actor row acts is =
      let none : n + 0 ≡ n = omega arith in
      let actor_is : actor_at script n ≡ actor = ap (actor_at script) (sym none) ∙ is in
      let less : rest (suc n) < rest n =
      subst (λ (answer : Turn). LowersRest answer (at n) (at (suc n))) (ap (answer_of (at n)) actor_is ∙ acts) (one_turn n) in
      subst (λ (k : ℕ). rest (suc k) < rest n) (sym none) less
  falls_by (suc steps) n actor row acts is =
      let next : suc n + steps ≡ n + suc steps = omega arith in
      goes_on n steps (answer_of (at n) (actor_at script n)) (one_turn n)
      (λ same. falls_by steps (suc n) actor row (ap (λ (m : State). answer_of m actor) same ∙ acts) (ap (actor_at script) next ∙ is))

  -- so in each round after the schedule
  falls_in_round : (n : ℕ) → turns ≤ n → all_ended (at n) ≡ false → FallsSoon start script n
  falls_in_round n after open_still =
      let acts : SomeActorActs (at n) = never_stuck v (at n) (runs_are_reached v script n sound limits) open_still in
      let below : acts.0 < count =
      subst (λ (s : Script). acts.0 < 2 * length s.processes + 1) (runs_keep_scripts start script n) acts.2 in
      let comes = each_comes count (n - turns) acts.0 below in
      let number : n + comes.steps - turns ≡ n - turns + comes.steps = omega (arith, after) in
      record {
        steps = comes.steps;
        within = comes.within;
        falls =
            falls_by comes.steps n acts.0 acts.1 acts.3
            (actor_at-rounds script (n + comes.steps) (omega (arith, after)) ∙ ap (λ (k : ℕ). k % count) number ∙ comes.comes);
      }

  -- all calls end before the rest has fallen in so many rounds
  ends_by : (most n : ℕ) → turns ≤ n → rest n ≤ most → EndsBetween start script n (n + most * count)
  ends_by zero n after small =
      ⊎_elim
      (λ ended. ends_at_once start script n (n + 0 * count) (omega arith) ended)
      (λ open_still. let falls = (falls_in_round n after open_still).falls in absurd (omega (arith, falls, small)))
      (cases_Bool (all_ended (at n)))
  ends_by (suc most) n after small =
      ⊎_elim
      (λ ended. ends_at_once start script n (n + suc most * count) (omega arith) ended)
      (λ open_still.
      let soon = falls_in_round n after open_still in
      let falls = soon.falls in
      let within = soon.within in
      let late = ends_by most (suc (n + soon.steps)) (omega (arith, after)) (omega (arith, falls, small)) in
      let from = late.from in
      let to = late.to in
      let product : suc most * count ≡ count + most * count = grind arith in
      record { turn = late.turn; from = omega (arith, from); to = omega (arith, to, within, product); ended = late.ended })
      (cases_Bool (all_ended (at n)))

pub runs_end : RunsEnd
runs_end v script sound limits =
    let start : Store = start_store v script in
    let turns : ℕ = length (scheduled script) in
    let late = ends_by v script sound limits (rest_of (state_at start script turns)) turns (omega arith) (omega arith) in
    let first = first_that (λ k. all_ended (state_at start script k)) turns late.turn late.from late.ended in
    record {
      turns = first.0;
      ends = record { after_schedule = first.1.from; ended = first.1.passes; not_before = first.1.before };
      bound = up_to first.0 turns late.turn (latest_end start script) first.1.to late.from late.to;
    }
