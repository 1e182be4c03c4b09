-- The turns after the schedule: in rounds, until all calls have ended.
use Rattle.std.proofs.Common.{◌≡◌, ℕ, ◌+◌, ◌*◌, ◌-◌, ◌/◌, ◌%◌, ◌^◌, ◌<◌, ◌≤◌, Bool, true, false, length, Option, Some, refl, sym, ap, ◌∙◌, subst, arith, ⊎_elim}
use Rattle.std.specs.Option.{SomeIff}
use Rattle.std.proofs.Math.Nat.{add-mul-mod_self_left, div-add-mod, mod-eq_of_lt}
use Rattle.std.proofs.lemmas.Bool.{both_ways, cases_eq, cases_lt}
use Rattle.bd_base.specs.declared.limits.TheConstants.{ACTORS}
use Rattle.bd_base.specs.declared.script.Script.{Script}
use Rattle.bd_base.specs.declared.volume.Volume.{Volume}
use Rattle.bd_base.specs.Scripts.{IsWithinLimits}
use Rattle.bd_base.specs.Volumes.{IsSoundVolume}
use Rattle.bd_entry.specs.History.{InOrder}
use Rattle.bd_entry.specs.Laws.{IsHistory}
use Rattle.bd_entry.specs.Store.{Store, start_store}
use Rattle.bd_machine.specs.Machine.{HasRun, Progress, booted, stepped}
use Rattle.bd_machine.specs.Tasks.{IsAtEnd, IsTask, Task, after_turns, task_of}
use Rattle.bd_machine.proofs.CourseTurns.{actor_fits, one_more_turn, script_there}
use Rattle.bd_turns.specs.Course.{EndsAt, actor_at, actor_count, scheduled, state_at}
use Rattle.bd_turns.specs.CourseLaws.{RunEnd, latest_end, longest_run}
use Rattle.bd_turns.specs.Reached.{IsActor, IsReached}
use Rattle.bd_turns.specs.State.{State}
use Rattle.bd_turns.specs.Turns.{all_ended}
use Rattle.bd_turns.proofs.CourseBounds.{runs_are_short}
use Rattle.bd_turns.proofs.CourseEnds.{runs_end}
use Rattle.bd_turns.proofs.CourseOrder.{ends_are_in_order}
use Rattle.bd_turns.proofs.CourseStates.{actor_at-rounds, events_show_journals, runs_are_reached, runs_keep_scripts}

-- who takes the turn after one that was not scheduled
pub next_in_round : (script : Script) (n next : ℕ) → length (scheduled script) ≤ n →
    next ≡ (n - length (scheduled script)) % actor_count script →
    (next + 1) % actor_count script ≡ (n + 1 - length (scheduled script)) % actor_count script
next_in_round script n next after is =
    let count : ℕ = actor_count script in
    let past : ℕ = n - length (scheduled script) in
    let parts : count * (past / count) + past % count ≡ past = div-add-mod past count in
    let number : next + 1 + count * (past / count) ≡ n + 1 - length (scheduled script) = omega (arith, after, is, parts) in
    sym (add-mul-mod_self_left (next + 1) count (past / count)) ∙ ap (λ (k : ℕ). k % count) number

-- so many turns were taken, the last of them in rounds of these actors, of whom this one is next, and not all calls had
-- ended before
pub record IsInRounds (t : Task) (p : Progress) (next actors : ℕ) : Type 0 where
  pub is : p ≡ after_turns t p.turns
  pub after : length (scheduled t.script) ≤ p.turns
  pub next_is : next ≡ (p.turns - length (scheduled t.script)) % actor_count t.script
  pub actors_are : actors ≡ actor_count t.script
  pub open_before : (k : ℕ) → length (scheduled t.script) ≤ k → k < p.turns → all_ended (state_at t.start t.script k) ≡ false

-- the rounds begin with the first actor
pub rounds_begin : (t : Task) (p : Progress) (actors : ℕ) → p ≡ after_turns t (length (scheduled t.script)) →
    actors ≡ actor_count p.state.script → IsInRounds t p 0 actors
rounds_begin t p actors at count_is =
    let turns : p.turns ≡ length (scheduled t.script) = ap (λ (q : Progress). q.turns) at in
    let none : p.turns - length (scheduled t.script) ≡ 0 = omega (arith, turns) in
    let zero_is : 0 % actor_count t.script ≡ 0 = mod-eq_of_lt (omega arith) in
    record {
      is = at ∙ ap (after_turns t) (sym turns);
      after = omega (arith, turns);
      next_is = sym zero_is ∙ ap (λ (n : ℕ). n % actor_count t.script) (sym none);
      actors_are = count_is ∙ ap actor_count (script_there t (length (scheduled t.script)) p at);
      open_before = λ k from to. absurd (omega (arith, turns, from, to));
    }

-- the next actor is the one whose turn it is
next_actor : (t : Task) (p : Progress) (next actors : ℕ) → IsInRounds t p next actors → actor_at t.script p.turns ≡ next
next_actor t p next actors rounds = actor_at-rounds t.script p.turns rounds.after ∙ sym rounds.next_is

-- so it is an actor of the machine
pub next_fits : (t : Task) (p : Progress) (next actors : ℕ) → IsTask t → IsInRounds t p next actors → IsActor p.state next
next_fits t p next actors is rounds =
    let fits : IsActor (state_at t.start t.script p.turns) next =
    subst (IsActor (state_at t.start t.script p.turns)) (next_actor t p next actors rounds) (actor_fits t p.turns is) in
    subst (λ (q : Progress). IsActor q.state next) (sym rounds.is) fits

-- the actor of this number, where it is made, is that number
pub actor_made : (number made : ℕ) (o : Option ℕ) → SomeIff o (number < ACTORS) number → o ≡ Some made → made ≡ number
actor_made number made o from found = (subst (λ (x : Option ℕ). SomeIff x (number < ACTORS) number) found from).1

-- a task's run ends
end_of : (t : Task) → IsTask t → RunEnd t.start t.script
end_of t is = subst (λ (start : Store). RunEnd start t.script) (sym is.start_is) (runs_end is.volume t.script is.sound is.limits)

-- a test that failed so far and fails now has failed up to the next number
fails_on : (test : ℕ → Bool) (low a b : ℕ) → b ≡ a + 1 → test a ≡ false → ((k : ℕ) → low ≤ k → k < a → test k ≡ false) →
    (k : ℕ) → low ≤ k → k < b → test k ≡ false
fails_on test low a b is now so_far k from to =
    ⊎_elim
    (λ same. ap test same ∙ now)
    (λ differ. so_far k from (omega (arith, to, is, differ)))
    (cases_eq k a)

-- while a call has not ended the run has not
before_end : (t : Task) (p : Progress) (next actors : ℕ) → IsTask t → IsInRounds t p next actors → all_ended p.state ≡ false →
    p.turns < longest_run
before_end t p next actors is rounds open_still =
    ⊎_elim
    (λ before. below p.turns end.turns (latest_end t.start t.script) longest_run before end.bound (runs_are_short t.start t.script is.limits))
    (λ past.
    absurd
    (both_ways (test end.turns)
    (fails_on test (length (scheduled t.script)) p.turns (p.turns + 1) refl now rounds.open_before end.turns end.ends.after_schedule
    (within end.turns p.turns past)) end.ends.ended))
    (cases_lt p.turns end.turns)
  where
    test : ℕ → Bool
    test n = all_ended (state_at t.start t.script n)

    end : RunEnd t.start t.script
    end = end_of t is

    now : test p.turns ≡ false
    now = sym (ap (λ (q : Progress). all_ended q.state) rounds.is) ∙ open_still

    below : (a b c d : ℕ) → a < b → b ≤ c → c ≤ d → a < d
    below a b c d first second third = omega arith

    within : (a b : ℕ) → a ≤ b → a < b + 1
    within a b most = omega arith

-- a turn of the next actor is one of the rounds, and leaves fewer
pub record GoesOn (t : Task) (p q : Progress) (next actors : ℕ) : Type 0 where
  pub rounds : IsInRounds t q next actors
  pub fewer : longest_run - q.turns < longest_run - p.turns

pub rounds_go_on : (t : Task) (p q : Progress) (next actors : ℕ) → IsTask t → IsInRounds t p next actors → all_ended p.state ≡ false →
    q ≡ stepped p next → GoesOn t p q ((next + 1) % actors) actors
rounds_go_on t p q next actors is rounds open_still step = record {
  rounds = record {
    is = there ∙ ap (after_turns t) (sym turns);
    after = later (length (scheduled t.script)) p.turns q.turns rounds.after turns;
    next_is =
        ap (λ (n : ℕ). (next + 1) % n) rounds.actors_are
        ∙ next_in_round t.script p.turns next rounds.after rounds.next_is
        ∙ ap (λ (n : ℕ). (n - length (scheduled t.script)) % actor_count t.script) (sym turns);
    actors_are = rounds.actors_are;
    open_before =
        fails_on (λ n. all_ended (state_at t.start t.script n)) (length (scheduled t.script)) p.turns q.turns turns now rounds.open_before;
  };
  fewer = falls longest_run p.turns q.turns bound turns;
}
  where
    bound : p.turns < longest_run
    bound = before_end t p next actors is rounds open_still

    now : all_ended (state_at t.start t.script p.turns) ≡ false
    now = sym (ap (λ (x : Progress). all_ended x.state) rounds.is) ∙ open_still

    small : (n : ℕ) → n < longest_run → n + 1 ≤ 2 ^ 64 - 1
    small n below = omega arith

    there : q ≡ after_turns t (p.turns + 1)
    there =
        step
        ∙ ap (λ (x : Progress). stepped x next) rounds.is
        ∙ ap (stepped (after_turns t p.turns)) (sym (next_actor t p next actors rounds))
        ∙ one_more_turn t p.turns (small p.turns bound)

    turns : q.turns ≡ p.turns + 1
    turns = ap (λ (x : Progress). x.turns) there

    later : (s a b : ℕ) → s ≤ a → b ≡ a + 1 → s ≤ b
    later s a b from is = omega arith

    falls : (most a b : ℕ) → a < most → b ≡ a + 1 → most - b < most - a
    falls most a b below is = omega arith

-- where all calls have ended the run has
pub rounds_end : (t : Task) (p : Progress) (next actors : ℕ) → IsInRounds t p next actors → all_ended p.state ≡ true → IsAtEnd t p
rounds_end t p next actors rounds ended = record {
  turns = p.turns;
  ends = record {
    after_schedule = rounds.after;
    ended = sym (ap (λ (q : Progress). all_ended q.state) rounds.is) ∙ ended;
    not_before = rounds.open_before;
  };
  is = rounds.is;
}

-- ---- the whole run

-- the machine after the last turn has run the script
pub has_run : (v : Volume) (script : Script) (p : Progress) → IsSoundVolume v → IsWithinLimits script →
    IsAtEnd (record { start = start_store v script; script = script }) p → HasRun v script p
has_run v script p sound limits end = subst (HasRun v script) (sym end.is) (at_end end.turns end.ends)
  where
    at_end : (n : ℕ) → EndsAt (start_store v script) script n →
        HasRun v script (after_turns (record { start = start_store v script; script = script }) n)
    at_end n ends =
        let start : Store = start_store v script in
        let m : State = state_at start script n in
        let reached : IsReached v m = runs_are_reached v script n sound limits in
        let same : m.script ≡ script = runs_keep_scripts start script n in
        record {
          script_is = same;
          course = record { turns = n; ends = ends; trace_is = refl; state_is = refl };
          history = subst (λ (s : Script). IsHistory v s m.journal m.store) same reached.history;
          in_order = subst (λ (s : Script). InOrder s m.journal) same (ends_are_in_order v m reached ends.ended);
          visible_is = events_show_journals start script n;
        }

-- what a machine runs before its first turn
booted_task : (v : Volume) (script : Script) (p : Progress) → p ≡ booted v script →
    task_of p ≡ record { start = start_store v script; script = script }
booted_task v script p at = ap task_of at

pub booted_is_task : (v : Volume) (script : Script) (p : Progress) → IsSoundVolume v → IsWithinLimits script → p ≡ booted v script →
    IsTask (task_of p)
booted_is_task v script p sound limits at =
    subst IsTask (sym (booted_task v script p at)) (record { volume = v; sound = sound; start_is = refl; limits = limits })

pub booted_at_start : (v : Volume) (script : Script) (p : Progress) → p ≡ booted v script → p ≡ after_turns (task_of p) 0
booted_at_start v script p at = at ∙ ap (λ (t : Task). after_turns t 0) (sym (booted_task v script p at))

pub booted_has_run : (v : Volume) (script : Script) (p q : Progress) → IsSoundVolume v → IsWithinLimits script → p ≡ booted v script →
    IsAtEnd (task_of p) q → HasRun v script q
booted_has_run v script p q sound limits at end =
    has_run v script q sound limits (subst (λ (t : Task). IsAtEnd t q) (booted_task v script p at) end)
