-- Each line of the cache stays one about a block of the part of its key.
use Rattle.std.proofs.Common.{◌≡◌, ℕ, zero, suc, ◌/◌, cond, Bool, true, false, List, [], ◌∷◌, set, Option, None, Some, refl, sym, subst}
use Rattle.std.specs.Option.{option_map_or}
use Rattle.std.proofs.lemmas.Option.{none-some, same_Some}
use Rattle.bd_base.specs.declared.key.Cell.{Cell}
use Rattle.bd_base.specs.declared.key.Key.{Key}
use Rattle.bd_base.specs.declared.limits.TheConstants.{PART_BLOCKS}
use Rattle.bd_entry.specs.declared.entry.Entry.{Entry}
use Rattle.bd_entry.specs.declared.entry.Entry.TheVariants as entries
use Rattle.bd_entry.specs.Calls.{Place}
use Rattle.bd_entry.specs.Store.{Descriptor, Store, descriptor_at}
use Rattle.bd_lines.specs.declared.lines.Line.{Line}
use Rattle.bd_lines.specs.Lines.{LineList, filled, is_of_key, line_at, line_of, swept, swept_line}
use Rattle.bd_tables.specs.declared.request.Request.{Request}
use Rattle.bd_tables.specs.State.{TableState, cell_of}
use Rattle.bd_turns.specs.Engines.{Step, request_of_piece}
use Rattle.bd_turns.specs.Sound.{AreLinesOfParts}
use Rattle.bd_turns.specs.State.{Posted, State}
use Rattle.bd_turns.specs.Turns.{attached_tables, tables_after}
use Rattle.bd_turns.proofs.EngineSteps.{IsChange, IsStep, completes, drains, enters, fills, looks, misses, moves, reads, retires, sweeps}
use Rattle.bd_turns.proofs.TablesOfSteps.{is_request}

-- ---- a line that changes

-- what a line holds is of its part
IsOfPart : Option Line → Type 0
IsOfPart slot = (line : Line) → slot ≡ Some line → line.index / PART_BLOCKS ≡ line.key.part

line_set : (lines : LineList) (c : ℕ) (slot : Option Line) (at : ℕ) → IsOfPart slot → IsOfPart (line_at lines at) →
    IsOfPart (line_at (set lines c slot) at)
line_set [] c slot at new old = old
line_set (x ∷ lines) zero slot zero new old = new
line_set (x ∷ lines) zero slot (suc at) new old = old
line_set (x ∷ lines) (suc c) slot zero new old = old
line_set (x ∷ lines) (suc c) slot (suc at) new old = line_set lines c slot at new old

filled_of_parts : (lines : LineList) (key : Key) (index : ℕ) (cell : Cell) → index / PART_BLOCKS ≡ key.part → AreLinesOfParts lines →
    AreLinesOfParts (filled lines key index cell)
unfolding IsOfPart
filled_of_parts lines key index cell of are c line is =
    let new : Line = record { key = key; index = index; cell = cell } in
    line_set lines (line_of key index) (Some new) c
    (λ l same. subst (λ (x : Line). x.index / PART_BLOCKS ≡ x.key.part) (same_Some new l same) of)
    (are c) line is

swept_of_part : (key : Key) (slot : Option Line) → IsOfPart slot → IsOfPart (swept_line key slot)
unfolding IsOfPart
swept_of_part key None of line is = of line is
swept_of_part key (Some old) of line is = by (is_of_key key old) is
  where
    by : (b : Bool) → cond b None (Some old) ≡ Some line → line.index / PART_BLOCKS ≡ line.key.part
    by true is = absurd (none-some line is)
    by false is = of line is

swept_of_parts : (lines : LineList) (c : ℕ) (key : Key) → AreLinesOfParts lines → AreLinesOfParts (swept lines c key)
unfolding IsOfPart
swept_of_parts lines c key are at line is =
    line_set lines c (swept_line key (line_at lines c)) at (swept_of_part key (line_at lines c) (are c)) (are at) line is

-- ---- turns

-- no entry of a processor changes a line
pub tables_after-lines : (s : Store) (tables : TableState) (e : Entry) → (tables_after s tables e).lines ≡ tables.lines
tables_after-lines s tables (entries.Attached at fd part) = by (descriptor_at s at.process fd)
  where
    by : (slot : Option Descriptor) → (option_map_or (attached_tables s tables at.process fd part) slot tables).lines ≡ tables.lines
    by None = refl
    by (Some d) = refl
tables_after-lines s tables (entries.Extended at file to None) = refl
tables_after-lines s tables (entries.Extended at file to (Some block)) = refl
tables_after-lines s tables e = refl

-- the request of a piece is about a block of the part of its key
pub request_of_part : (p : Place) (number : ℕ) (request : Request) → request_of_piece p number ≡ Some request →
    request.index / PART_BLOCKS ≡ request.key.part
request_of_part p number request is =
    subst (λ (r : Request). r.index / PART_BLOCKS ≡ r.key.part) (is_request p number request is).request_is refl

-- the step of an engine fills a line for its request at most
pub lines_after_step : (m : State) (p : Place) (step : Step) → IsStep m p step → AreLinesOfParts m.tables.lines → AreLinesOfParts step.tables.lines
lines_after_step m p step (enters number rest request none waiting of_piece is) are = subst (λ (x : Step). AreLinesOfParts x.tables.lines) (sym is) are
lines_after_step m p step (looks hand request in_hand phase of_piece is) are = subst (λ (x : Step). AreLinesOfParts x.tables.lines) (sym is) are
lines_after_step m p step (reads hand request in_hand phase of_piece is) are = subst (λ (x : Step). AreLinesOfParts x.tables.lines) (sym is) are
lines_after_step m p step (fills hand request completion in_hand phase of_piece told is) are =
    subst (λ (x : Step). AreLinesOfParts x.tables.lines) (sym is)
    (filled_of_parts m.tables.lines request.key request.index (cell_of completion) (request_of_part p hand.piece request of_piece) are)
lines_after_step m p step (moves hand completion entry in_hand phase told entry_is is) are =
    subst (λ (x : Step). AreLinesOfParts x.tables.lines) (sym is) are
lines_after_step m p step (misses hand found in_hand phase found_is is) are = subst (λ (x : Step). AreLinesOfParts x.tables.lines) (sym is) are
lines_after_step m p step (retires hand in_hand phase is) are = subst (λ (x : Step). AreLinesOfParts x.tables.lines) (sym is) are
lines_after_step m p step (completes hand in_hand phase is) are = subst (λ (x : Step). AreLinesOfParts x.tables.lines) (sym is) are

-- and the invalidation engine only empties lines
pub lines_after_change : (tables : TableState) (posted : List Posted) (after : TableState) → IsChange tables posted after →
    AreLinesOfParts tables.lines → AreLinesOfParts after.lines
lines_after_change tables posted after (drains post rest right is attached cleared nobody after_is) are =
    subst (λ (t : TableState). AreLinesOfParts t.lines) (sym after_is) are
lines_after_change tables posted after (sweeps post rest right swept line is attached drained next after_is) are =
    subst (λ (t : TableState). AreLinesOfParts t.lines) (sym after_is) (swept_of_parts tables.lines line post.key are)
