-- Drafts with one more schedule line.
use Rattle.std.specs.Prelude.{All, nat_eq}
use Rattle.std.specs.List.{flat_map}
use Rattle.std.specs.Option.{option_to_list}
use Rattle.std.proofs.Common.{◌≡◌, ℕ, ◌+◌, ◌-◌, ◌*◌, ◌^◌, ◌<◌, ◌≤◌, min, false, List, [], ◌∷◌, ◌++◌, length, map, take, refl, sym, ap, ◌∙◌, subst, append_assoc, length-append, arith}
use Rattle.std.proofs.lemmas.Bool.Decides.{nat_tests}
use Rattle.std.proofs.lemmas.List.{length-map, length-take, map_push, take_all}
use Rattle.std.proofs.lemmas.List.Elements.{All-cons, All-head, All-nil, All-push, All-tail}
use Rattle.bd_base.specs.declared.script.ScheduleLine.{ScheduleLine}
use Rattle.bd_script.specs.declared.fault.Fault.{Fault}
use Rattle.bd_script.specs.declared.fault.Fault.TheVariants.{Form as FormFault, Range, Order, Place, Actor, OutOfMemory}
use Rattle.bd_base.specs.declared.limits.TheConstants.{ITEMS, SCHEDULES}
use Rattle.bd_script.specs.declared.schedules.Turns.{Turns}
use Rattle.bd_script.specs.Drafts.{IsDraft, Parts, RefusesForm, parts, script_of}
use Rattle.bd_script.specs.Rules.{HasPlace, HasTurns, actor_of, counts_of, turns_written}
use Rattle.bd_script.specs.Schedules.{item_of, kept_of, kept_turns, RefusesActors}
use Rattle.bd_base.specs.Scripts.{IsItem, IsSchedule, total_turns, turns_of}
use Rattle.bd_script.specs.Texts.{Alone, Form, ScheduleForm, Times, Written, process_lines, schedule_line, written_item}
use Rattle.bd_script.proofs.DraftLines.{IsMore}

-- where not too many are kept, all are
pub kept-whole : (kept : List Turns) (ws : List Written) → kept ≡ map kept_of (take (ITEMS + 1) ws) → length kept ≤ ITEMS → (length ws ≤ ITEMS)
    × (kept ≡ map kept_of ws)
kept-whole kept ws are few =
    let count : length kept ≡ min (ITEMS + 1) (length ws) = ap length are ∙ length-map (take (ITEMS + 1) ws) kept_of ∙ length-take (ITEMS + 1) ws in
    let short : length ws ≤ ITEMS = omega (arith, count) in
    (short, are ∙ ap (map kept_of) (take_all (ITEMS + 1) ws (omega arith)))

pub kept-long : (kept : List Turns) (ws : List Written) → kept ≡ map kept_of (take (ITEMS + 1) ws) → ITEMS < length kept → ITEMS < length ws
kept-long kept ws are many =
    let count : length kept ≡ min (ITEMS + 1) (length ws) = ap length are ∙ length-map (take (ITEMS + 1) ws) kept_of ∙ length-take (ITEMS + 1) ws in
    omega (arith, count)

pub kept-turns : (ws : List Written) → kept_turns (map kept_of ws) ≡ turns_written ws
kept-turns [] = refl
kept-turns (Alone actor ∷ ws) = omega (arith, kept-turns ws)
kept-turns (Times actor turns ∷ ws) = omega (arith, kept-turns ws)

pub item-turns : (kept : List Turns) → turns_of (map item_of kept) ≡ kept_turns kept
item-turns [] = refl
item-turns (t ∷ kept) = omega (arith, item-turns kept)

pub total_turns-push : (ls : List ScheduleLine) (l : ScheduleLine) → total_turns (ls ++ l ∷ []) ≡ total_turns ls + turns_of l.items
total_turns-push [] l = omega arith
total_turns-push (k ∷ ls) l = omega (arith, total_turns-push ls l)

-- actors that are there are kept as they are
written-back : (last : ℕ) (w : Written) → last < 2 ^ 64 - 1 → HasTurns w → (kept_of w).actor ≤ last → written_item (item_of (kept_of w)) ≡ w
written-back last (Alone actor) small has there = let same : min actor (2 ^ 64 - 1) ≡ actor = omega arith in ap (λ (n : ℕ). let w : Written = Alone n
    in w) same
written-back last (Times actor turns) small has there =
    let same : min actor (2 ^ 64 - 1) ≡ actor = omega arith in
    let many : nat_eq turns 1 ≡ false = grind (arith, nat_tests, has.0) in
    rw many (ap (λ (n : ℕ). let w : Written = Times n turns in w) same)

pub all-written-back : (last : ℕ) (ws : List Written) → last < 2 ^ 64 - 1 → All HasTurns ws → All (λ (t : Turns). t.actor ≤ last) (map kept_of ws)
    → map written_item (map item_of (map kept_of ws)) ≡ ws
all-written-back last [] small has there = refl
all-written-back last (w ∷ ws) small has there =
    let first = written-back last w small (All-head HasTurns w ws has) (All-head (λ (t : Turns). t.actor ≤ last) (kept_of w) (map kept_of ws) there) in
    let more = all-written-back last ws small (All-tail HasTurns w ws has) (All-tail (λ (t : Turns). t.actor ≤ last) (kept_of w) (map kept_of ws) there) in
    ap (λ (v : Written). v ∷ map written_item (map item_of (map kept_of ws))) first ∙ ap (λ (l : List Written). w ∷ l) more

one-item : (processes : ℕ) (w : Written) → HasTurns w → (kept_of w).actor ≤ 2 * processes → IsItem processes (item_of (kept_of w))
one-item processes (Alone actor) has there = record { actor = there; some = omega arith; most = omega arith }
one-item processes (Times actor turns) has there = record { actor = there; some = omega (arith, has.0); most = has.1 }

pub all-items : (processes : ℕ) (ws : List Written) → All HasTurns ws → All (λ (t : Turns). t.actor ≤ 2 * processes) (map kept_of ws) → All
    (IsItem processes) (map item_of (map kept_of ws))
all-items processes [] has there = All-nil (IsItem processes)
all-items processes (w ∷ ws) has there =
    All-cons (IsItem processes) (item_of (kept_of w)) (map item_of (map kept_of ws))
    (one-item processes w (All-head HasTurns w ws has) (All-head (λ (t : Turns). t.actor ≤ 2 * processes) (kept_of w) (map kept_of ws) there))
    (all-items processes ws (All-tail HasTurns w ws has) (All-tail (λ (t : Turns). t.actor ≤ 2 * processes) (kept_of w) (map kept_of ws) there))

-- actors that are there are kept at most as great
pub kept-actors : (last : ℕ) (ws : List Written) → All (λ (w : Written). actor_of w ≤ last) ws → All (λ (t : Turns). t.actor ≤ last)
    (map kept_of ws)
kept-actors last [] there = All-nil (λ (t : Turns). t.actor ≤ last)
kept-actors last (w ∷ ws) there =
    let first = All-head (λ (w : Written). actor_of w ≤ last) w ws there in
    All-cons (λ (t : Turns). t.actor ≤ last) (kept_of w) (map kept_of ws) (omega (arith, first))
    (kept-actors last ws (All-tail (λ (w : Written). actor_of w ≤ last) w ws there))

-- there is one more schedule line
pub more-items : (d : Parts) (ws : List Written) (left : ℕ) → IsDraft d → length d.schedule < SCHEDULES → 1 ≤ length ws → length ws ≤ ITEMS
    → All HasTurns ws → left + turns_written ws ≡ d.left →
    All (λ (t : Turns). t.actor ≤ 2 * length (script_of d).processes) (map kept_of ws) →
    IsMore d (ScheduleForm ws) (parts d.processes d.last (d.schedule ++ record { items = map item_of (map kept_of ws) } ∷ []) left)
more-items d ws left is room some few has turns there =
    let line : ScheduleLine = record { items = map item_of (map kept_of ws) } in
    let processes : ℕ = length (script_of d).processes in
    let count : length (map item_of (map kept_of ws)) ≡ length ws = length-map (map kept_of ws) item_of ∙ length-map ws kept_of in
    let schedule : IsSchedule processes line = record { some = omega (arith, count); most = omega (arith, count); items = all-items processes ws has there } in
    let sum : turns_of line.items ≡ turns_written ws = item-turns (map kept_of ws) ∙ kept-turns ws in
    let total = total_turns-push d.schedule line in
    let back : map written_item line.items ≡ ws = all-written-back (2 * processes) ws (omega (arith, is.limits.process_count)) has there in
    let before : List Form = flat_map process_lines (d.processes ++ option_to_list d.last) in
    record {
      is_draft = record {
        limits = record {
          process_count = is.limits.process_count;
          processes = is.limits.processes;
          schedule_count = omega (arith, room, length-append d.schedule (line ∷ []));
          schedule = All-push (IsSchedule processes) d.schedule line is.limits.schedule schedule;
          turns = omega (arith, total, sum, turns, is.left);
        };
        no_last = is.no_last;
        left = omega (arith, total, sum, turns, is.left);
      };
      more = ap (λ (l : List Form). before ++ l) (map_push schedule_line d.schedule line) ∙ sym (append_assoc before (map schedule_line d.schedule)
          (schedule_line line ∷ []))
          ∙ ap (λ (l : List Written). (before ++ map schedule_line d.schedule) ++ ScheduleForm l ∷ []) back;
    }

-- an actor that is not there breaks the last rule alone
pub actor-refused : (d : Parts) (kept : List Turns) (ws : List Written) (last : ℕ) → kept ≡ map kept_of ws → last ≡ 2 * length (script_of d).processes
    → HasPlace (counts_of (script_of d)) (ScheduleForm ws) →
    (fault : Fault) → RefusesActors kept last fault → RefusesForm (script_of d) (ScheduleForm ws) fault
actor-refused d kept ws last are same place Actor refused = (
  tt,
  place,
  λ actors. refused (subst (All (λ (t : Turns). t.actor ≤ last)) (sym are)
      (kept-actors last ws (subst (λ (n : ℕ). All (λ (w : Written). actor_of w ≤ n) ws) (sym same) actors))),
)
actor-refused d kept ws last are same place FormFault refused = absurd refused
actor-refused d kept ws last are same place Range refused = absurd refused
actor-refused d kept ws last are same place Order refused = absurd refused
actor-refused d kept ws last are same place Place refused = absurd refused
actor-refused d kept ws last are same place OutOfMemory refused = tt
