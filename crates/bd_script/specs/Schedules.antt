-- What the steps of reading a schedule line answer.
use Rattle.std.specs.Prelude.{◌≡◌, ◌≢◌, ℕ, ◌+◌, ◌-◌, ◌^◌, ◌≤◌, min, Bool, true, false, Option, None, Some, List, [], ◌∷◌, ◌++◌, length, map, take, All}
use Rattle.bd_base.specs.declared.script.Item.{Item}
use Rattle.bd_script.specs.declared.fault.Fault.{Fault}
use Rattle.bd_script.specs.declared.fault.Fault.TheVariants.{Form as FormFault, Actor, OutOfMemory}
use Rattle.bd_base.specs.declared.limits.TheConstants.{ITEMS}
use Rattle.bd_script.specs.declared.schedules.Scan.{Scan}
use Rattle.bd_script.specs.declared.schedules.Turns.{Turns}
use Rattle.bd_script.specs.Reading.{Refuses}
use Rattle.bd_script.specs.Rules.{HasTurns, actor_of}
use Rattle.bd_script.specs.Texts.{Written, Alone, Times, items_text, written_text}

-- how many turns an item has
abbrev pub turns_in : Written → ℕ
turns_in (Alone actor) = 1
turns_in (Times actor turns) = turns

-- what is kept of an item whose turns are in their range
abbrev pub kept_of : Written → Turns
kept_of w = record { actor = min (actor_of w) (2 ^ 64 - 1); turns = turns_in w }

-- the number of an actor as far as 64 bits go
abbrev pub IsCapped : ℕ → ℕ → Type 0
IsCapped actor capped = capped ≡ min actor (2 ^ 64 - 1)

-- the turns that were read of an item: none where they are out of their range
abbrev pub AreTurns : Option ℕ → Written → Type 0
AreTurns None w = ¬ HasTurns w
AreTurns (Some turns) w = HasTurns w × (turns ≡ turns_in w)

-- what is kept of the items so far, where all are in range: no more than one item past the limit
abbrev pub AreKept : Bool → List Turns → List Written → Type 0
AreKept true kept done = All HasTurns done × (kept ≡ map kept_of (take (ITEMS + 1) done))
AreKept false kept done = ¬ All HasTurns done

-- the text is that of an item of this actor, which has these turns
abbrev pub IsItemRead : List ℕ → ℕ → Option ℕ → Type 0
IsItemRead text actor turns =
    (w : Written) × (text ≡ written_text w) × IsCapped (actor_of w) actor × AreTurns turns w

-- one item more was read after any others
abbrev pub TakesScheduleItem : Scan → List ℕ → Scan → Type 0
TakesScheduleItem scan text new =
    (w : Written) × (text ≡ written_text w)
    × ((done : List Written) → AreKept scan.in_range scan.kept.items done
    → AreKept new.in_range new.kept.items (done ++ w ∷ []))

-- the text is that of items in their ranges, of which these are kept
abbrev pub AreItemsRead : List ℕ → List Turns → Type 0
AreItemsRead text kept =
    (items : List Written) × (1 ≤ length items) × (text ≡ items_text items) × All HasTurns items
    × (kept ≡ map kept_of (take (ITEMS + 1) items))

-- the turns that these have together
abbrev pub kept_turns : List Turns → ℕ
kept_turns [] = 0
kept_turns (t ∷ ts) = t.turns + kept_turns ts

-- the item of an actor that is there
abbrev pub item_of : Turns → Item
item_of t = record { actor = t.actor; turns = t.turns }

-- why one item is not read: no item has this text
abbrev pub RefusesItem : List ℕ → Fault → Type 0
RefusesItem text FormFault = (w : Written) → text ≢ written_text w
RefusesItem text OutOfMemory = Unit {0}
RefusesItem text fault = ⊥

-- why items are not read
abbrev pub RefusesItems : List ℕ → Fault → Type 0
RefusesItems text fault =
    Refuses items_text (λ (items : List Written). 1 ≤ length items)
    (λ (items : List Written). All HasTurns items) text fault

-- why there are no items of these actors
abbrev pub RefusesActors : List Turns → ℕ → Fault → Type 0
RefusesActors kept last Actor = ¬ All (λ (t : Turns). t.actor ≤ last) kept
RefusesActors kept last OutOfMemory = Unit {0}
RefusesActors kept last fault = ⊥
