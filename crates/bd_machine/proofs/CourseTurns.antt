-- The turns of a whole run, as a machine takes them.
use Rattle.std.proofs.Common.{◌≡◌, ℕ, suc, ◌+◌, ◌*◌, ◌-◌, ◌^◌, ◌<◌, ◌≤◌, List, [], ◌∷◌, ◌++◌, length, take, get_or, Option, Some, sym, ap, ◌∙◌, subst, arith}
use Rattle.std.specs.Prelude.{min, slice_get, slice_index}
use Rattle.std.specs.Option.{option_map_or, unwrap_or}
use Rattle.std.specs.List.{flat_map}
use Rattle.std.proofs.Math.Nat.{min-eq_left}
use Rattle.std.proofs.Math.Seq.{take-length}
use Rattle.std.proofs.lemmas.Grind.{flat_map-append}
use Rattle.std.proofs.lemmas.List.{append-nil, get_or-replicate, length-append, length-replicate, take_more}
use Rattle.std.proofs.lemmas.List.Concat.{get_or-flat_map}
use Rattle.std.proofs.lemmas.List.Folds.{length-flat_map-take}
use Rattle.std.proofs.lemmas.Option.{slice_get_within, unwrap_or-slice_get}
use Rattle.bd_base.specs.declared.script.Item.{Item}
use Rattle.bd_base.specs.declared.script.ScheduleLine.{ScheduleLine}
use Rattle.bd_base.specs.declared.script.Script.{Script}
use Rattle.bd_base.specs.Scripts.{IsSchedule}
use Rattle.bd_entry.specs.Store.{Store}
use Rattle.bd_entry.proofs.CallPieces.{All-slice_get}
use Rattle.bd_machine.specs.Machine.{Progress, stepped}
use Rattle.bd_machine.specs.Tasks.{IsItemAt, IsTask, ItemAt, Task, after_turns, turns_before, turns_of_item, turns_within}
use Rattle.bd_turns.specs.Course.{actor_at, event_of, events_to, scheduled, scheduled_by, state_at}
use Rattle.bd_turns.specs.Reached.{IsActor}
use Rattle.bd_turns.specs.State.{State}
use Rattle.bd_turns.specs.Turns.{after_turn, answer_of}
use Rattle.bd_turns.proofs.CourseBounds.{length-scheduled}
use Rattle.bd_turns.proofs.CourseStates.{actor_at-scheduled, runs_keep_scripts, turns_are_of_actors}

-- ---- one turn

-- who takes a turn is an actor of the state before it
pub actor_fits : (t : Task) (n : ℕ) → IsTask t → IsActor (state_at t.start t.script n) (actor_at t.script n)
actor_fits t n is =
    subst (λ (s : Script). actor_at t.script n < 2 * length s.processes + 1) (sym (runs_keep_scripts t.start t.script n))
    (turns_are_of_actors t.script n is.limits)

-- the script of a machine is the task's
pub script_there : (t : Task) (n : ℕ) (p : Progress) → p ≡ after_turns t n → p.state.script ≡ t.script
script_there t n p at = ap (λ (q : Progress). q.state.script) at ∙ runs_keep_scripts t.start t.script n

-- a turn of that actor is the next one
pub one_more_turn : (t : Task) (n : ℕ) → n + 1 ≤ 2 ^ 64 - 1 → stepped (after_turns t n) (actor_at t.script n) ≡ after_turns t (n + 1)
one_more_turn t n bound =
    let m : State = state_at t.start t.script n in
    let actor : ℕ = actor_at t.script n in
    let counted : min (n + 1) (2 ^ 64 - 1) ≡ suc n = min-eq_left bound ∙ (let one : n + 1 ≡ suc n = omega arith in one) in
    let named : suc n ≡ n + 1 = omega arith in
    let p : ℕ → Progress = λ turns.
    record { state = after_turn m actor; trace = events_to t.start t.script n ++ event_of n actor (answer_of m actor); turns = turns } in
    ap p counted
    ∙ ap (after_turns t) named

-- ---- the schedule

-- the items of a line of the schedule, none of a line that is not there
abbrev pub items_of_line : Script → ℕ → List Item
items_of_line script i = option_map_or (λ (line : ScheduleLine). line.items) (slice_get script.schedule i) []

-- a line of the schedule, with its items
pub record IsLineAt (script : Script) (i : ℕ) (line : ScheduleLine) : Type 0 where
  pub below : i < length script.schedule
  pub is : line ≡ get_or script.schedule i line
  pub items : items_of_line script i ≡ line.items
  pub few : length line.items ≤ 64

-- each line that a machine's script has is one of the task's
pub line_at : (t : Task) (n i : ℕ) (p : Progress) (line : ScheduleLine) → IsTask t → p ≡ after_turns t n →
    slice_get p.state.script.schedule i ≡ Some line → IsLineAt t.script i line
line_at t n i p line is at found =
    let there : slice_get t.script.schedule i ≡ Some line =
    subst (λ (s : Script). slice_get s.schedule i ≡ Some line) (script_there t n p at) found in
    record {
      below = slice_get_within t.script.schedule i line there;
      is = sym (ap (λ (o : Option ScheduleLine). unwrap_or o line) there) ∙ unwrap_or-slice_get t.script.schedule i line;
      items = ap (λ (o : Option ScheduleLine). option_map_or (λ (x : ScheduleLine). x.items) o []) there;
      few = (All-slice_get (IsSchedule (length t.script.processes)) t.script.schedule i line is.limits.schedule there).most;
    }

-- the lists of the first elements and of one more
before_more : {X : Type 0} (f : X → List ℕ) (xs : List X) (i : ℕ) (x : X) → i < length xs → x ≡ get_or xs i x →
    length (flat_map f (take (i + 1) xs)) ≡ length (flat_map f (take i xs)) + length (f x)
before_more f xs i x below is =
    ap (λ (ys : List _). length (flat_map f ys)) (take_more xs i x below)
    ∙ ap length (flat_map-append f (take i xs) (get_or xs i x ∷ []))
    ∙ length-append (flat_map f (take i xs)) (flat_map f (get_or xs i x ∷ []))
    ∙ ap (λ (ys : List ℕ). length (flat_map f (take i xs)) + length ys) (append-nil (f (get_or xs i x)))
    ∙ ap (λ (y : _). length (flat_map f (take i xs)) + length (f y)) (sym is)

-- after a line's turns come those of the next line
pub next_line : (script : Script) (i : ℕ) (line : ScheduleLine) → IsLineAt script i line →
    turns_before script (i + 1) ≡ turns_before script i + turns_within (items_of_line script i) (length line.items)
next_line script i line at =
    before_more scheduled_by script.schedule i line at.below at.is
    ∙ ap (λ (items : List Item). turns_before script i + length (flat_map turns_of_item items)) (sym (take-length line.items))
    ∙ ap (λ (items : List Item). turns_before script i + turns_within items (length line.items)) (sym at.items)

-- after an item's turns come those of the next item
pub next_item : (script : Script) (i number : ℕ) (line : ScheduleLine) (item : Item) → IsLineAt script i line →
    number < length line.items → item ≡ get_or line.items number item →
    turns_within (items_of_line script i) (number + 1) ≡ turns_within (items_of_line script i) number + item.turns
next_item script i number line item at below is =
    ap (λ (items : List Item). turns_within items (number + 1)) at.items
    ∙ before_more turns_of_item line.items number item below is
    ∙ ap (λ (n : ℕ). turns_within line.items number + n) (length-replicate item.turns item.actor)
    ∙ ap (λ (items : List Item). turns_within items number + item.turns) (sym at.items)

-- the lines together have all turns of the schedule
pub all_lines : (script : Script) → turns_before script (length script.schedule) ≡ length (scheduled script)
all_lines script = ap (λ (lines : List ScheduleLine). length (flat_map scheduled_by lines)) (take-length script.schedule)

-- the turns of an item of a line are scheduled for its actor
pub item_is_at : (t : Task) (i number : ℕ) (line : ScheduleLine) (item : Item) → IsTask t → IsLineAt t.script i line →
    number < length line.items → item ≡ get_or line.items number item →
    IsItemAt (record { task = t; turns = turns_before t.script i + turns_within (items_of_line t.script i) number }) item
item_is_at t i number line item is at item_below item_is =
    let script : Script = t.script in
    let before : ℕ = turns_before script i in
    let within : ℕ = turns_within line.items number in
    let of_item : length (turns_of_item (get_or line.items number item)) ≡ item.turns =
    ap (λ (x : Item). length (turns_of_item x)) (sym item_is) ∙ length-replicate item.turns item.actor in
    let item_fits : within + length (turns_of_item (get_or line.items number item)) ≤ length (scheduled_by line) =
    length-flat_map-take turns_of_item line.items number item item_below in
    let of_line : length (scheduled_by (get_or script.schedule i line)) ≡ length (scheduled_by line) =
    ap (λ (x : ScheduleLine). length (scheduled_by x)) (sym at.is) in
    let line_fits : before + length (scheduled_by (get_or script.schedule i line)) ≤ length (scheduled script) =
    length-flat_map-take scheduled_by script.schedule i line at.below in
    let most = is.limits.turns in
    let all_turns : length (scheduled script) ≤ 1000000 = omega (arith, most, length-scheduled script) in
    subst (λ (items : List Item). IsItemAt (record { task = t; turns = before + turns_within items number }) item) (sym at.items)
    (record {
      task = is;
      scheduled = omega (arith, of_item, item_fits, of_line, line_fits, all_turns);
      actors = λ j below.
          let number_is : before + within + j ≡ before + (within + j) = omega arith in
          actor_at-scheduled script (before + within + j) (omega (arith, below, of_item, item_fits, of_line, line_fits))
          ∙ ap (slice_index (scheduled script)) number_is
          ∙ get_or-flat_map scheduled_by script.schedule i (within + j) line 0 at.below (omega (arith, below, of_item, item_fits, of_line))
          ∙ ap (λ (x : ScheduleLine). slice_index (scheduled_by x) (within + j)) (sym at.is)
          ∙ get_or-flat_map turns_of_item line.items number j item 0 item_below (omega (arith, below, of_item))
          ∙ ap (λ (x : Item). slice_index (turns_of_item x) j) (sym item_is)
          ∙ get_or-replicate item.turns j item.actor 0 below;
    })

-- how many turns come before an item of a line
abbrev pub so_far : Task → ℕ → ℕ → ℕ
so_far t i number = turns_before t.script i + turns_within (items_of_line t.script i) number

-- where so many turns were taken, the item's are next
pub item_there : (t : Task) (i number : ℕ) (line : ScheduleLine) (item : Item) (p : Progress) → IsTask t → IsLineAt t.script i line →
    number < length line.items → item ≡ get_or line.items number item → p ≡ after_turns t (so_far t i number) →
    IsItemAt (record { task = t; turns = p.turns }) item × (p ≡ after_turns t p.turns)
item_there t i number line item p is at below item_is there =
    let turns : p.turns ≡ so_far t i number = ap (λ (q : Progress). q.turns) there in (
      subst (λ (n : ℕ). IsItemAt (record { task = t; turns = n }) item) (sym turns) (item_is_at t i number line item is at below item_is),
      there ∙ ap (after_turns t) (sym turns),
    )

-- and then the next item's
pub item_taken : (t : Task) (i number : ℕ) (line : ScheduleLine) (item : Item) (p q : Progress) → IsLineAt t.script i line →
    number < length line.items → item ≡ get_or line.items number item → p ≡ after_turns t (so_far t i number) →
    q ≡ after_turns t (p.turns + item.turns) → q ≡ after_turns t (so_far t i (number + 1))
item_taken t i number line item p q at below item_is there taken =
    let turns : p.turns ≡ so_far t i number = ap (λ (x : Progress). x.turns) there in
    let more = next_item t.script i number line item at below item_is in
    let sum : p.turns + item.turns ≡ so_far t i (number + 1) = omega (arith, turns, more) in
    taken ∙ ap (after_turns t) sum

-- ---- the turns of an item

-- so its actor may take the next of them
pub item_fits : (g : ItemAt) (item : Item) (j : ℕ) (p : Progress) → IsItemAt g item → j < item.turns →
    p ≡ after_turns g.task (g.turns + j) → IsActor p.state item.actor
item_fits g item j p is below at =
    let start : Store = g.task.start in
    let actor : IsActor (state_at start g.task.script (g.turns + j)) item.actor =
    subst (IsActor (state_at start g.task.script (g.turns + j))) (is.actors j below) (actor_fits g.task (g.turns + j) is.task) in
    subst (λ (q : Progress). IsActor q.state item.actor) (sym at) actor

-- and then one turn more was taken
pub item_goes_on : (g : ItemAt) (item : Item) (j : ℕ) (p q : Progress) → IsItemAt g item → j < item.turns →
    p ≡ after_turns g.task (g.turns + j) → q ≡ stepped p item.actor → q ≡ after_turns g.task (g.turns + (j + 1))
item_goes_on g item j p q is below at step =
    let few = is.scheduled in
    let number : g.turns + j + 1 ≡ g.turns + (j + 1) = omega arith in
    step
    ∙ ap (λ (x : Progress). stepped x item.actor) at
    ∙ ap (stepped (after_turns g.task (g.turns + j))) (sym (is.actors j below))
    ∙ one_more_turn g.task (g.turns + j) (omega (arith, few, below))
    ∙ ap (after_turns g.task) number
