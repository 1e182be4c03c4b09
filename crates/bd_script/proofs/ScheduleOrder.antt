-- The lines of a script are good: its schedule lines, and the whole.
use Rattle.std.specs.Prelude.{All, cond, nat_eq}
use Rattle.std.specs.List.{flat_map}
use Rattle.std.proofs.Common.{◌≡◌, ℕ, ◌+◌, ◌*◌, ◌≤◌, Bool, true, false, List, [], ◌∷◌, ◌++◌, length, map, refl, ap, ◌∙◌, subst, arith}
use Rattle.std.proofs.lemmas.Bool.Decides.{nat_tests}
use Rattle.std.proofs.lemmas.List.{length-map}
use Rattle.std.proofs.lemmas.List.Elements.{All-cons, All-head, All-nil, All-tail}
use Rattle.bd_base.specs.declared.limits.TheConstants.{SCHEDULES, TURNS}
use Rattle.bd_base.specs.declared.script.Item.{Item}
use Rattle.bd_base.specs.declared.script.Process.{Process}
use Rattle.bd_base.specs.declared.script.ScheduleLine.{ScheduleLine}
use Rattle.bd_base.specs.declared.script.Script.{Script}
use Rattle.bd_script.proofs.LineOrder.{AreGood, IsGood, after, after-append, after-last, after-processes, count, good-append, good-at, good-processes}
use Rattle.bd_script.specs.Rules.{Counts, HasTurns, actor_of, counts_of, last_calls, turns_written}
use Rattle.bd_base.specs.Scripts.{IsItem, IsSchedule, IsWithinLimits, total_turns, turns_of}
use Rattle.bd_script.specs.Texts.{Alone, Form, Times, Written, process_lines, schedule_line, script_lines, written_item}

-- what is written of an item in its range
pub record IsWritten (i : Item) (w : Written) : Type 0 where
  pub has_turns : HasTurns w
  pub actor : actor_of w ≡ i.actor
  pub turns : (more : List Written) → turns_written (w ∷ more) ≡ i.turns + turns_written more

written-is : (processes : ℕ) (i : Item) → IsItem processes i → (b : Bool) → nat_eq i.turns 1 ≡ b
    → IsWritten i (cond b (Alone i.actor) (Times i.actor i.turns))
written-is processes i is true same =
    let one : i.turns ≡ 1 = grind (arith, nat_tests, same) in
    record { has_turns = tt; actor = refl; turns = λ more. omega (arith, one) }
written-is processes i is false same =
    let many : 2 ≤ i.turns = grind (arith, nat_tests, same, is.some) in
    record { has_turns = (many, is.most); actor = refl; turns = λ more. refl }

pub item-written : (processes : ℕ) (i : Item) → IsItem processes i → IsWritten i (written_item i)
item-written processes i is = written-is processes i is (nat_eq i.turns 1) refl

written-turns : (processes : ℕ) (items : List Item) → All (IsItem processes) items → turns_written (map written_item items) ≡ turns_of items
written-turns processes [] are = refl
written-turns processes (i ∷ items) are =
    let first = item-written processes i (All-head (IsItem processes) i items are) in
    first.turns (map written_item items) ∙ ap (λ (n : ℕ). i.turns + n) (written-turns processes items (All-tail (IsItem processes) i items are))

written-range : (processes : ℕ) (items : List Item) → All (IsItem processes) items → All HasTurns (map written_item items)
written-range processes [] are = All-nil HasTurns
written-range processes (i ∷ items) are =
    All-cons HasTurns (written_item i) (map written_item items) (item-written processes i (All-head (IsItem processes) i items are)).has_turns
    (written-range processes items (All-tail (IsItem processes) i items are))

written-actors : (processes : ℕ) (items : List Item) → All (IsItem processes) items → All (λ (w : Written). actor_of w ≤ 2 * processes)
    (map written_item items)
written-actors processes [] are = All-nil (λ (w : Written). actor_of w ≤ 2 * processes)
written-actors processes (i ∷ items) are =
    let is = All-head (IsItem processes) i items are in
    All-cons (λ (w : Written). actor_of w ≤ 2 * processes) (written_item i) (map written_item items)
    (omega (arith, is.actor, (item-written processes i is).actor)) (written-actors processes items (All-tail (IsItem processes) i items are))

good-schedule : (c : Counts) (ls : List ScheduleLine) → c.schedules + length ls ≤ SCHEDULES → c.turns + total_turns ls ≤ TURNS → All
    (IsSchedule c.processes) ls → AreGood c (map schedule_line ls)
good-schedule c [] few turns are = tt
good-schedule c (l ∷ ls) few turns are =
    let is : IsSchedule c.processes l = All-head (IsSchedule c.processes) l ls are in
    let size : length (map written_item l.items) ≡ length l.items = length-map l.items written_item in
    let sum = written-turns c.processes l.items is.items in (
      record {
        is_form = omega (arith, size, is.some);
        in_range = written-range c.processes l.items is.items;
        in_order = tt;
        has_place = (omega (arith, few), omega (arith, size, is.most), omega (arith, sum, turns));
        has_actors = written-actors c.processes l.items is.items;
      },
      good-schedule (count c (schedule_line l)) ls (omega (arith, few)) (omega (arith, sum, turns)) (All-tail (IsSchedule c.processes) l ls are),
    )

after-schedule : (c : Counts) (processes : ℕ) (ls : List ScheduleLine) → All (IsSchedule processes) ls →
    let d = after c (map schedule_line ls) in (d.processes ≡ c.processes) × (d.calls ≡ c.calls) × (d.schedules ≡ c.schedules + length ls)
    × (d.turns ≡ c.turns + total_turns ls)
after-schedule c processes [] are = (refl, refl, omega arith, omega arith)
after-schedule c processes (l ∷ ls) are =
    let is : IsSchedule processes l = All-head (IsSchedule processes) l ls are in
    let sum = written-turns processes l.items is.items in
    let more = after-schedule (count c (schedule_line l)) processes ls (All-tail (IsSchedule processes) l ls are) in
    (more.0, more.1, omega (arith, more.2), omega (arith, more.3, sum))

-- the counts before the first line after the header
abbrev pub start : Counts
start = record { processes = 0; calls = 0; schedules = 0; turns = 0 }

-- the lines of a script within the limits are good
pub script-good : (s : Script) → IsWithinLimits s → AreGood start (script_lines s)
script-good s is =
    let d : Counts = after start (flat_map process_lines s.processes) in
    let counts = after-processes start s.processes in
    let same : length s.processes ≡ d.processes = omega (arith, counts.0) in
    good-append start (flat_map process_lines s.processes) (map schedule_line s.schedule) (good-processes start s.processes refl
    (omega (arith, is.process_count)) is.processes)
    (good-schedule d s.schedule (omega (arith, counts.1, is.schedule_count)) (omega (arith, counts.2, is.turns))
    (subst (λ (n : ℕ). All (IsSchedule n) s.schedule) same is.schedule))

calls-after : (ps : List Process) → (after start (flat_map process_lines ps)).calls ≡ last_calls ps
calls-after [] = refl
calls-after (p ∷ ps) = after-last start p ps

counts-same : (c d : Counts) → c.processes ≡ d.processes → c.calls ≡ d.calls → c.schedules ≡ d.schedules → c.turns ≡ d.turns → c ≡ d
counts-same c d p q r s =
    ap (λ (n : ℕ). let e : Counts = record { processes = n; calls = c.calls; schedules = c.schedules; turns = c.turns } in e) p
    ∙ ap (λ (n : ℕ). let e : Counts = record { processes = d.processes; calls = n; schedules = c.schedules; turns = c.turns } in e) q
    ∙ ap (λ (n : ℕ). let e : Counts = record { processes = d.processes; calls = d.calls; schedules = n; turns = c.turns } in e) r
    ∙ ap (λ (n : ℕ). let e : Counts = record { processes = d.processes; calls = d.calls; schedules = d.schedules; turns = n } in e) s

-- the counts after the lines of a script are its counts
pub script-counts : (s : Script) → IsWithinLimits s → after start (script_lines s) ≡ counts_of s
script-counts s is =
    let d : Counts = after start (flat_map process_lines s.processes) in
    let processes = after-processes start s.processes in
    let schedule = after-schedule d (length s.processes) s.schedule is.schedule in
    after-append start (flat_map process_lines s.processes) (map schedule_line s.schedule)
    ∙ counts-same (after d (map schedule_line s.schedule)) (counts_of s) (omega (arith, schedule.0, processes.0)) (schedule.1 ∙ calls-after s.processes)
    (omega (arith, schedule.2, processes.1)) (omega (arith, schedule.3, processes.2))

-- the line of a script after those of another is good after it
pub next-good : (s t : Script) (f : Form) (more : List Form) → IsWithinLimits s → IsWithinLimits t → script_lines t ≡ script_lines s ++ f ∷ more
    → IsGood (counts_of s) f
next-good s t f more is_s is_t lines =
    subst (λ (c : Counts). IsGood c f) (script-counts s is_s) (good-at start (script_lines s) f more (subst (AreGood start) lines (script-good t is_t)))
