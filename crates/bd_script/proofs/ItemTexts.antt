-- How far the items of a schedule line were read.
use Rattle.std.specs.Prelude.{nat_eq, All}
use Rattle.std.proofs.Common.{◌≡◌, ◌≢◌, ℕ, ◌+◌, ◌<◌, ◌≤◌, min, Bool, true, false, List, [], ◌∷◌, ◌++◌, length, map, take, refl, sym, ap, ◌∙◌, subst, append_assoc, append-nil, length-append, arith}
use Rattle.std.proofs.lemmas.Bool.Decides.{nat_tests}
use Rattle.std.proofs.lemmas.List.{get_or_append_left, get_or_at, length-map, length-take, map_push, take_all, take-append-le}
use Rattle.std.proofs.lemmas.List.Elements.{All-push}
use Rattle.bd_blocks.proofs.FieldTexts.{append-has_no, no_split, unique_split}
use Rattle.bd_blocks.proofs.NumberTexts.{number-has_no}
use Rattle.bd_blocks.specs.Texts.{has_byte, number_text}
use Rattle.bd_script.specs.declared.fault.Fault.{Fault}
use Rattle.bd_script.specs.declared.fault.Fault.TheVariants.{Form as FormFault, Range, Order, Place, Actor, OutOfMemory}
use Rattle.bd_base.specs.declared.limits.TheConstants.{ITEMS}
use Rattle.bd_script.specs.declared.schedules.Turns.{Turns}
use Rattle.bd_blocks.specs.declared.text.TheConstants.{SPACE}
use Rattle.bd_script.specs.Rules.{HasTurns}
use Rattle.bd_script.specs.Schedules.{AreKept, RefusesItems, kept_of, RefusesItem}
use Rattle.bd_script.specs.Texts.{Alone, Times, Written, items_text, later_items, written_text}

-- items, each with a space after it
abbrev pub done_text : List Written → List ℕ
done_text [] = []
done_text (w ∷ ws) = written_text w ++ SPACE ∷ done_text ws

-- these items stand before the rest, and this is kept of them
pub record Scanned (text rest : List ℕ) (in_range : Bool) (kept : List Turns) : Type 0 where
  pub done : List Written
  pub split : text ≡ done_text done ++ rest
  pub are_kept : AreKept in_range kept done

-- no space or LF stands in an item
pub written-has_no : (byte : ℕ) → byte < 42 → (w : Written) → has_byte byte (written_text w) ≡ false
written-has_no byte low (Alone actor) = number-has_no byte (omega arith) actor
written-has_no byte low (Times actor turns) =
    let star : nat_eq byte 42 ≡ false = grind (arith, nat_tests) in
    append-has_no byte (number_text actor) (42 ∷ number_text turns) (number-has_no byte (omega arith) actor)
    (rw star (number-has_no byte (omega arith) turns))

-- items after those that were read
pub items-after : (done : List Written) (rest : List ℕ) (items : List Written) → 1 ≤ length items → done_text done ++ rest ≡ items_text items
    → (more : List Written) × (1 ≤ length more) × (rest ≡ items_text more)
items-after [] rest items some same = (items, some, same)
items-after (d ∷ done) rest [] some same = absurd (omega arith)
items-after (d ∷ done) rest (w ∷ []) some same =
    absurd (no_split SPACE (written_text w) (written_text d) (done_text done ++ rest) (written-has_no SPACE (omega arith) w)
    (sym (append-nil (written_text w)) ∙ sym same ∙ append_assoc (written_text d) (SPACE ∷ done_text done) rest))
items-after (d ∷ done) rest (w ∷ v ∷ items) some same =
    items-after done rest (v ∷ items) (omega arith)
    (unique_split SPACE (written_text d) (written_text w) (done_text done ++ rest) (items_text (v ∷ items)) (written-has_no SPACE (omega arith) d)
    (written-has_no SPACE (omega arith) w)
    (sym (append_assoc (written_text d) (SPACE ∷ done_text done) rest) ∙ same)).1

-- a field in front that is no item
pub front-fault : (rest field next : List ℕ) → rest ≡ field ++ SPACE ∷ next → has_byte SPACE field ≡ false
    → ((w : Written) → field ≢ written_text w)
    → (items : List Written) → 1 ≤ length items → rest ≢ items_text items
front-fault rest field next split none no_item [] some same = absurd (omega arith)
front-fault rest field next split none no_item (w ∷ []) some same =
    no_split SPACE (written_text w) field next (written-has_no SPACE (omega arith) w) (sym (append-nil (written_text w)) ∙ sym same ∙ split)
front-fault rest field next split none no_item (w ∷ v ∷ items) some same =
    no_item w (unique_split SPACE field (written_text w) next (items_text (v ∷ items)) none (written-has_no SPACE (omega arith) w) (sym split ∙ same)).0

-- the last field that is no item
pub last-fault : (rest : List ℕ) → has_byte SPACE rest ≡ false → ((w : Written) → rest ≢ written_text w) → (items : List Written)
    → 1 ≤ length items
    → rest ≢ items_text items
last-fault rest none no_item [] some same = absurd (omega arith)
last-fault rest none no_item (w ∷ []) some same = no_item w (same ∙ append-nil (written_text w))
last-fault rest none no_item (w ∷ v ∷ items) some same = no_split SPACE rest (written_text w) (items_text (v ∷ items)) none same

-- no items have a text whose rest has none
pub no-items : (text rest : List ℕ) (done : List Written) → text ≡ done_text done ++ rest → ((items : List Written) → 1 ≤ length items
    → rest ≢ items_text items) → (items : List Written) → 1 ≤ length items → text ≢ items_text items
no-items text rest done split none items some same = let more = items-after done rest items some (sym split ∙ same) in none more.0 more.1 more.2

done_text-more : (done : List Written) (w : Written) (next : List ℕ)
    → done_text (done ++ w ∷ []) ++ next ≡ done_text done ++ (written_text w ++ SPACE ∷ next)
done_text-more [] w next = append_assoc (written_text w) (SPACE ∷ []) next
done_text-more (d ∷ done) w next =
    append_assoc (written_text d) (SPACE ∷ done_text (done ++ w ∷ [])) next ∙ ap (λ (l : List ℕ). written_text d ++ SPACE ∷ l)
    (done_text-more done w next)
    ∙ sym (append_assoc (written_text d) (SPACE ∷ done_text done) (written_text w ++ SPACE ∷ next))

-- one more item was read
pub scan-step : (text rest field next : List ℕ) (old new : Bool) (kept more : List Turns) (s : Scanned text rest old kept) (w : Written)
    → rest ≡ field ++ SPACE ∷ next → field ≡ written_text w →
    ((done : List Written) → AreKept old kept done → AreKept new more (done ++ w ∷ [])) → Scanned text next new more
scan-step text rest field next old new kept more s w split is keeps = record {
  done = s.done ++ w ∷ [];
  split = s.split ∙ ap (λ (l : List ℕ). done_text s.done ++ l) (split ∙ ap (λ (l : List ℕ). l ++ SPACE ∷ next) is)
      ∙ sym (done_text-more s.done w next);
  are_kept = keeps s.done s.are_kept;
}

later_items-space : (items : List Written) (w : Written) → later_items (items ++ w ∷ []) ≡ SPACE ∷ items_text (items ++ w ∷ [])
later_items-space [] w = refl
later_items-space (v ∷ items) w = refl

-- the text of the items with the last one
pub items_text-last : (done : List Written) (w : Written) → items_text (done ++ w ∷ []) ≡ done_text done ++ written_text w
items_text-last [] w = append-nil (written_text w)
items_text-last (d ∷ done) w =
    ap (λ (l : List ℕ). written_text d ++ l) (later_items-space done w ∙ ap (λ (l : List ℕ). SPACE ∷ l) (items_text-last done w))
    ∙ sym (append_assoc (written_text d) (SPACE ∷ done_text done) (written_text w))

not-all-front : (done : List Written) (w : Written) → ¬ All HasTurns done → ¬ All HasTurns (done ++ w ∷ [])
not-all-front done w none all = none (λ k d within. subst HasTurns (get_or_append_left done (w ∷ []) d k within)
    (all k d (omega (arith, length-append done (w ∷ [])))))

not-all-last : (done : List Written) (w : Written) → ¬ HasTurns w → ¬ All HasTurns (done ++ w ∷ [])
not-all-last done w none all = none (subst HasTurns (get_or_at done w [] w (length done) refl)
    (all (length done) w (omega (arith, length-append done (w ∷ [])))))

-- an item out of its range, or one after such an item
pub kept-none : (in_range : Bool) (kept : List Turns) (done : List Written) (w : Written) → ¬ HasTurns w → AreKept in_range kept done
    → AreKept false kept (done ++ w ∷ [])
kept-none true kept done w none are = not-all-last done w none
kept-none false kept done w none are = not-all-front done w are

-- an item in its range that is kept
pub kept-more : (in_range : Bool) (kept : List Turns) (done : List Written) (w : Written) → HasTurns w → length kept ≤ ITEMS
    → AreKept in_range kept done → AreKept in_range (kept ++ kept_of w ∷ []) (done ++ w ∷ [])
kept-more false kept done w has room are = not-all-front done w are
kept-more true kept done w has room are =
    let count : length kept ≡ min (ITEMS + 1) (length done) = ap length are.1 ∙ length-map (take (ITEMS + 1) done) kept_of
    ∙ length-take (ITEMS + 1) done in
    let short : length done ≤ ITEMS = omega (arith, count) in
    let old : take (ITEMS + 1) done ≡ done = take_all (ITEMS + 1) done (omega arith) in
    let new : take (ITEMS + 1) (done ++ w ∷ []) ≡ done ++ w ∷ [] = take_all (ITEMS + 1) (done ++ w ∷ []) (omega (arith, length-append done (w ∷ [])))
    in (
      All-push HasTurns done w are.0 has,
      ap (λ (l : List Turns). l ++ kept_of w ∷ []) (are.1 ∙ ap (map kept_of) old) ∙ sym (map_push kept_of done w) ∙ sym (ap (map kept_of) new),
    )

-- an item in its range past those that are kept
pub kept-past : (in_range : Bool) (kept : List Turns) (done : List Written) (w : Written) → HasTurns w → ITEMS < length kept
    → AreKept in_range kept done → AreKept in_range kept (done ++ w ∷ [])
kept-past false kept done w has full are = not-all-front done w are
kept-past true kept done w has full are =
    let count : length kept ≡ min (ITEMS + 1) (length done) = ap length are.1 ∙ length-map (take (ITEMS + 1) done) kept_of
    ∙ length-take (ITEMS + 1) done in
    let new : take (ITEMS + 1) (done ++ w ∷ []) ≡ take (ITEMS + 1) done = take-append-le (ITEMS + 1) done (w ∷ []) (omega (arith, count)) in
    (All-push HasTurns done w are.0 has, are.1 ∙ sym (ap (map kept_of) new))

-- a fault of one item is one of the items
pub items-refused : (text field : List ℕ) → (((w : Written) → field ≢ written_text w) → (items : List Written) → 1 ≤ length items
    → text ≢ items_text items) → (fault : Fault) → RefusesItem field fault → RefusesItems text fault
items-refused text field up FormFault refused = up refused
items-refused text field up Range refused = absurd refused
items-refused text field up Order refused = absurd refused
items-refused text field up Place refused = absurd refused
items-refused text field up Actor refused = absurd refused
items-refused text field up OutOfMemory refused = tt
