-- A call of which a piece has neither its access nor its miss is not finished in the journal.
use Rattle.std.proofs.Common.{◌≡◌, ℕ, zero, suc, ◌+◌, ◌<◌, Bool, true, false, ◌||◌, List, [], ◌∷◌, ◌++◌, length, None, refl, sym, subst, arith}
use Rattle.std.specs.Prelude.{nat_eq, IsSome, slice_get}
use Rattle.std.specs.List.{list_any, range_with_len}
use Rattle.std.proofs.lemmas.Bool.{both_ways, eq-eqb, false_from_ne_true, false≢true, or_from, or_left, or_parts}
use Rattle.std.proofs.lemmas.List.Elements.{All-contains}
use Rattle.std.proofs.lemmas.List.Sums.{AllPass-from_list_all}
use Rattle.bd_base.specs.declared.journal.At.{At}
use Rattle.bd_base.specs.declared.script.Call.{Call}
use Rattle.bd_base.specs.declared.script.Call.TheVariants.{Read, Write, RawRead, RawWrite}
use Rattle.bd_base.specs.Bounds.{Bounds}
use Rattle.bd_base.specs.Pieces.{Piece}
use Rattle.bd_base.proofs.Ranges.{range-of}
use Rattle.bd_entry.specs.declared.entry.Entry.{Entry}
use Rattle.bd_entry.specs.declared.entry.Entry.TheVariants.{Access, Missed, Refused}
use Rattle.bd_entry.specs.Calls.{are_all_answered, has_missed, is_answer_of, is_answered, is_end_of, is_ended_by, is_miss_of, piece_of_call, pieces_of_call, raw_piece}
use Rattle.bd_entry.specs.Laws.{AreOfCall}
use Rattle.bd_entry.specs.Promises.{is_whole_refusal}
use Rattle.bd_entry.specs.RulesOfCalls.{HasFieldsOf}
use Rattle.bd_entry.proofs.NextActs.{any-stricter, is_there}

-- where a piece is not answered, not all are
not_all_answered : (call : Call) (entries : List Entry) (number : ℕ) → is_answered number entries ≡ false →
    number < length (pieces_of_call call) → are_all_answered call entries ≡ false
not_all_answered call entries number unanswered within =
    let numbers = range_with_len 0 (length (pieces_of_call call)) in
    false_from_ne_true (are_all_answered call entries)
    (λ all.
    both_ways (is_answered number entries) unanswered
    (All-contains (λ n. is_answered n entries ≡ true) numbers number
    (AllPass-from_list_all (λ n. is_answered n entries) numbers all)
    (range-of 0 (length (pieces_of_call call)) number (omega arith, omega (within, arith)))))

-- ---- reads and writes

read_end : (fd off len : ℕ) (e : Entry) → is_end_of (Read fd off len) e ≡ true → is_whole_refusal e ≡ true
read_end fd off len (Refused at None reason) ends = refl
read_end fd off len e ends = absurd (false≢true ends)

write_end : (fd off : ℕ) (bytes : List ℕ) (e : Entry) → is_end_of (Write fd off bytes) e ≡ true → is_whole_refusal e ≡ true
write_end fd off bytes (Refused at None reason) ends = refl
write_end fd off bytes e ends = absurd (false≢true ends)

-- ---- raw commands

-- an entry tells of the piece: it is its answer, or its miss
abbrev tells_of : ℕ → Entry → Bool
tells_of number e = is_answer_of number e || is_miss_of number e

first_only : (only : Piece) (number : ℕ) → IsSome (slice_get (only ∷ []) number) → number ≡ 0
first_only only zero is = refl
first_only only (suc number) is = absurd (false≢true is)

raw_read_end : (address : ℕ) (range : Bounds) (at : At) (before : List Entry) (e : Entry) →
    HasFieldsOf (record { call = RawRead address range; at = at; before = before }) e →
    is_end_of (RawRead address range) e ≡ true → is_whole_refusal e ≡ false → tells_of 0 e ≡ true
raw_read_end address range at before (Access by piece fd file index block r wrote way bytes) fields ends whole =
    let first : piece ≡ 0 =
    first_only (raw_piece address range.lo range.hi) piece (is_there (piece_of_call (RawRead address range) piece) _ fields.1.piece) in
    or_left (nat_eq piece 0) false (eq-eqb piece 0 first)
raw_read_end address range at before (Missed by piece found) fields ends whole =
    eq-eqb piece 0 (first_only (raw_piece address range.lo range.hi) piece fields)
raw_read_end address range at before (Refused by None reason) fields ends whole = absurd (false≢true (sym whole))
raw_read_end address range at before e fields ends whole = absurd (false≢true ends)

raw_write_end : (address lo : ℕ) (bytes : List ℕ) (at : At) (before : List Entry) (e : Entry) →
    HasFieldsOf (record { call = RawWrite address lo bytes; at = at; before = before }) e →
    is_end_of (RawWrite address lo bytes) e ≡ true → is_whole_refusal e ≡ false → tells_of 0 e ≡ true
raw_write_end address lo bytes at before (Access by piece fd file index block r wrote way moved) fields ends whole =
    let first : piece ≡ 0 =
    first_only (raw_piece address lo (lo + length bytes)) piece (is_there (piece_of_call (RawWrite address lo bytes) piece) _ fields.1.piece) in
    or_left (nat_eq piece 0) false (eq-eqb piece 0 first)
raw_write_end address lo bytes at before (Missed by piece found) fields ends whole =
    eq-eqb piece 0 (first_only (raw_piece address lo (lo + length bytes)) piece fields)
raw_write_end address lo bytes at before (Refused by None reason) fields ends whole = absurd (false≢true (sym whole))
raw_write_end address lo bytes at before e fields ends whole = absurd (false≢true ends)

-- where no entry tells of a piece, none that would tell of it ends the call
abbrev EndsTell : Call → At → Type 0
EndsTell call at =
    (before : List Entry) (e : Entry) → HasFieldsOf (record { call = call; at = at; before = before }) e →
    is_end_of call e ≡ true → is_whole_refusal e ≡ false → tells_of 0 e ≡ true

none_ends : (call : Call) (at : At) → EndsTell call at → (before entries : List Entry) →
    AreOfCall (record { call = call; at = at; before = before }) entries → list_any is_whole_refusal entries ≡ false →
    is_answered 0 entries ≡ false → has_missed 0 entries ≡ false → list_any (is_end_of call) entries ≡ false
none_ends call at tell before [] of whole unanswered unmissed = refl
none_ends call at tell before (e ∷ entries) of whole unanswered unmissed =
    let w = or_parts (is_whole_refusal e) (list_any is_whole_refusal entries) whole in
    let a = or_parts (is_answer_of 0 e) (is_answered 0 entries) unanswered in
    let b = or_parts (is_miss_of 0 e) (has_missed 0 entries) unmissed in
    or_from (is_end_of call e) (list_any (is_end_of call) entries)
    (false_from_ne_true (is_end_of call e)
    (λ ends. both_ways (tells_of 0 e) (or_from (is_answer_of 0 e) (is_miss_of 0 e) a.0 b.0) (tell before e of.0.fields ends w.0)))
    (none_ends call at tell (before ++ e ∷ []) entries of.2 w.1 a.1 b.1)

-- ---- every call

-- a call is not finished by entries that refuse none of it as a whole, and tell nothing of one of its pieces
pub untold_unfinished : (call : Call) (at : At) (entries : List Entry) (number : ℕ) →
    AreOfCall (record { call = call; at = at; before = [] }) entries → list_any is_whole_refusal entries ≡ false →
    is_answered number entries ≡ false → has_missed number entries ≡ false → number < length (pieces_of_call call) →
    is_ended_by call entries ≡ false
untold_unfinished (Read fd off len) at entries number of whole unanswered unmissed within =
    or_from (list_any (is_end_of (Read fd off len)) entries) (are_all_answered (Read fd off len) entries)
    (any-stricter is_whole_refusal (is_end_of (Read fd off len)) entries (read_end fd off len) whole)
    (not_all_answered (Read fd off len) entries number unanswered within)
untold_unfinished (Write fd off bytes) at entries number of whole unanswered unmissed within =
    or_from (list_any (is_end_of (Write fd off bytes)) entries) (are_all_answered (Write fd off bytes) entries)
    (any-stricter is_whole_refusal (is_end_of (Write fd off bytes)) entries (write_end fd off bytes) whole)
    (not_all_answered (Write fd off bytes) entries number unanswered within)
untold_unfinished (RawRead address range) at entries number of whole unanswered unmissed within =
    let only : number ≡ 0 = omega (within, arith) in
    none_ends (RawRead address range) at (raw_read_end address range at) [] entries of whole
    (subst (λ (n : ℕ). is_answered n entries ≡ false) only unanswered)
    (subst (λ (n : ℕ). has_missed n entries ≡ false) only unmissed)
untold_unfinished (RawWrite address lo bytes) at entries number of whole unanswered unmissed within =
    let only : number ≡ 0 = omega (within, arith) in
    none_ends (RawWrite address lo bytes) at (raw_write_end address lo bytes at) [] entries of whole
    (subst (λ (n : ℕ). is_answered n entries ≡ false) only unanswered)
    (subst (λ (n : ℕ). has_missed n entries ≡ false) only unmissed)
untold_unfinished call at entries number of whole unanswered unmissed within = absurd (omega (within, arith))
