-- What a legal entry of an access, a miss or a detached right says of the store before it.
use Rattle.std.proofs.Common.{◌≡◌, ℕ, ◌<◌, ◌≤◌, Bool, true, false, ◌||◌, not, List, length, Option, None, Some, refl, sym, ap, ◌∙◌, subst, arith, ⊎_elim}
use Rattle.std.specs.Prelude.{nat_lt, slice_get}
use Rattle.std.specs.Option.{option_and_then}
use Rattle.std.proofs.lemmas.Bool.{both_ways, cases_lt, cond-false, le-ltb}
use Rattle.std.proofs.lemmas.Option.{MatchOption-at_some, same_Some, slice_get-get_or}
use Rattle.bd_base.specs.declared.script.Call.{Call}
use Rattle.bd_base.specs.declared.script.How.{How}
use Rattle.bd_base.specs.declared.script.How.TheVariants as hows
use Rattle.bd_base.specs.declared.script.Mode.TheVariants.{Rw}
use Rattle.bd_base.specs.declared.script.Script.{Script}
use Rattle.bd_base.specs.declared.volume.Volume.{Volume}
use Rattle.bd_base.specs.declared.journal.Found.TheVariants.{NoDirectory}
use Rattle.bd_base.specs.declared.journal.Way.{Way}
use Rattle.bd_base.specs.declared.journal.Way.TheVariants.{Direct, PastKnown, AfterMiss}
use Rattle.bd_base.specs.Files.{limit_of}
use Rattle.bd_base.specs.Pieces.{Piece}
use Rattle.bd_entry.specs.declared.entry.Entry.{Entry}
use Rattle.bd_entry.specs.declared.entry.Entry.TheVariants.{Access, Detached}
use Rattle.bd_entry.specs.Calls.{Place, at_of, entries_of, has_cleared, has_missed, is_raw, piece_end, piece_of_call}
use Rattle.bd_entry.specs.Laws.{IsNextOf}
use Rattle.bd_entry.specs.Promises.{AfterMissHasMissed, DetachedIsCleared, DirectAccessIsUnderRight, NoDirectoryIsNoRight, NoRightStands, PastKnownEndsAbove}
use Rattle.bd_entry.specs.Refusals.{descriptor_of, goes_direct}
use Rattle.bd_entry.specs.Rules.{Allowed, FitsCall, NextCall, RightBlock, RightFile, Rights, RightWay, WithinLimit, place_in}
use Rattle.bd_entry.specs.RulesOfCalls.{IsOfCall}
use Rattle.bd_entry.specs.RulesOfRights.{IsWay, IsWayBy, MayMiss, MayWrite, RawOrNot, ThePiece, part_of}
use Rattle.bd_entry.specs.Store.{Descriptor, Store, blocks_in, descriptor_at, is_plain, limit_in, size_in, work_of}
use Rattle.bd_entry.proofs.HistoryLaws.{is_call, work_is_of_running_call}
use Rattle.bd_entry.proofs.CallPieces.{piece_of_call-in_block}

-- ---- the place of the next entry

-- the store has of the call just the entries that the journal has
pub work-is_of_call : (v : Volume) (script : Script) (before : List Entry) (s : Store) (call : Call) (e : Entry) → IsNextOf v script before s call e →
    work_of s (at_of e).process ≡ entries_of (at_of e) before
work-is_of_call v script before s call e next = work_is_of_running_call v script before s (at_of e) next.history (next.fits NextCall)

-- the entry is one that its call makes at its place in the store
pub of_call-in_store : (v : Volume) (script : Script) (before : List Entry) (s : Store) (call : Call) (e : Entry) → IsNextOf v script before s call e →
    IsOfCall (place_in s call (at_of e)) e
of_call-in_store v script before s call e next =
    subst (λ (entries : List Entry). IsOfCall (record { call = call; at = at_of e; before = entries }) e)
    (sym (work-is_of_call v script before s call e next)) (MatchOption-at_some _ _ call next.call_is (next.fits FitsCall))

-- ---- direct accesses

-- a block that has bytes of a file below its limit is there
pub block_below_limit : (size : ℕ) (blocks : List ℕ) (index hi : ℕ) → 0 < hi → hi ≤ limit_of size blocks index →
    (current : ℕ) × (slice_get blocks index ≡ Some current)
block_below_limit size blocks index hi some below =
    ⊎_elim
    (λ within. (_, slice_get-get_or blocks index 0 within))
    (λ past.
    let none : limit_of size blocks index ≡ 0 = cond-false (nat_lt index (length blocks)) _ 0 (le-ltb index (length blocks) past) in
    absurd (omega arith))
    (cases_lt index (length blocks))

pub direct_access_is_under_right : DirectAccessIsUnderRight
direct_access_is_under_right v script before s call at piece fd file index block range wrote bytes next =
    let e = Access at piece fd file index block range wrote Direct bytes in
    let of : IsOfCall (place_in s call at) e = of_call-in_store v script before s call e next in
    let is_piece = of.fields.1.piece in
    let within = is_call script at call next.history.limits next.call_is in
    let in_block = piece_of_call-in_block call piece (record { index = index; range = range }) within is_piece in
    let right = next.keeps Rights in
    let of_file = next.keeps RightFile in
    let allowed = next.keeps Allowed in
    let inside : range.hi ≤ limit_in s file index = next.keeps WithinLimit in
    let some : range.lo < range.hi = in_block.some in
    let current = block_below_limit (size_in s file) (blocks_in s file) index range.hi (omega arith) inside in
    record {
      descriptor = right.0;
      is_open = right.1;
      of_file = ap (λ (d : Descriptor). d.file) (same_Some right.0 of_file.0 (sym right.1 ∙ of_file.1)) ∙ of_file.2;
      attached = right.2;
      allowed = λ writes.
          subst (λ (d : Descriptor). d.mode ≡ Rw) (same_Some allowed.0 right.0 (sym allowed.1 ∙ right.1))
          (subst (λ (b : Bool). MayWrite b allowed.0.mode) writes allowed.2);
      current = current.0;
      block_is = sym (next.keeps RightBlock) ∙ current.1;
      of_index = current.1;
      inside = inside;
    }

-- ---- accesses of the kernel by a direct descriptor

-- an access after a miss has its miss
after_miss_by : (how : How) (direct missed : Bool) → IsWayBy how direct missed AfterMiss → missed ≡ true
after_miss_by hows.Plain direct missed way = absurd (let no : AfterMiss ≡ Way.Plain = way in cc)
after_miss_by hows.Direct true missed way = way
after_miss_by hows.Direct false missed way = absurd way

after_miss_way : (slot : Option Descriptor) (piece : Piece) (missed : Bool) → IsWay slot piece missed AfterMiss → missed ≡ true
after_miss_way None piece missed way = way
after_miss_way (Some d) piece missed way = after_miss_by d.how (goes_direct d piece) missed way

after_miss : (raw : Bool) (s : Store) (p : Place) (number : ℕ) →
    RawOrNot raw (AfterMiss ≡ Direct) (ThePiece p number (λ piece. IsWay (descriptor_of s p) piece (has_missed number p.before) AfterMiss)) →
    has_missed number p.before ≡ true
after_miss true s p number way = absurd (let no : AfterMiss ≡ Direct = way in cc)
after_miss false s p number way = after_miss_way (descriptor_of s p) way.0 (has_missed number p.before) way.2

pub after_miss_has_missed : AfterMissHasMissed
after_miss_has_missed v script before s call at piece fd file index block range wrote bytes next =
    let e = Access at piece fd file index block range wrote AfterMiss bytes in
    subst (λ (entries : List Entry). has_missed piece entries ≡ true) (work-is_of_call v script before s call e next)
    (after_miss (is_raw call) s (place_in s call at) piece (next.keeps RightWay))

-- a piece that does not go direct by a direct descriptor ends above its known size
ends_above : (how : How) (known end : ℕ) (missed direct : Bool) → not (is_plain how || nat_lt known end) ≡ direct →
    IsWayBy how direct missed PastKnown → known < end
ends_above hows.Plain known end missed direct is way = absurd (let no : PastKnown ≡ Way.Plain = way in cc)
ends_above hows.Direct known end missed true is way = absurd way
ends_above hows.Direct known end missed false is way =
    ⊎_elim (λ above. above) (λ within. absurd (both_ways (not (nat_lt known end)) is (ap not (le-ltb known end within)))) (cases_lt known end)

past_known_way : (slot : Option Descriptor) (piece : Piece) (missed : Bool) → IsWay slot piece missed PastKnown →
    (d : Descriptor) × (slot ≡ Some d) × (d.known < piece_end piece)
past_known_way None piece missed way = absurd way
past_known_way (Some d) piece missed way = (d, refl, ends_above d.how d.known (piece_end piece) missed (goes_direct d piece) refl way)

past_known : (raw : Bool) (s : Store) (p : Place) (number : ℕ) →
    RawOrNot raw (PastKnown ≡ Direct) (ThePiece p number (λ piece. IsWay (descriptor_of s p) piece (has_missed number p.before) PastKnown)) →
    (piece : Piece) × (piece_of_call p.call number ≡ Some piece) × (d : Descriptor) × (descriptor_of s p ≡ Some d) × (d.known < piece_end piece)
past_known true s p number way = absurd (let no : PastKnown ≡ Direct = way in cc)
past_known false s p number way =
    let by = past_known_way (descriptor_of s p) way.0 (has_missed number p.before) way.2 in
    (way.0, way.1, by.0, by.1, by.2)

pub past_known_ends_above : PastKnownEndsAbove
past_known_ends_above v script before s call at piece fd file index block range wrote bytes next =
    let e = Access at piece fd file index block range wrote PastKnown bytes in
    let p = place_in s call at in
    let of : IsOfCall p e = of_call-in_store v script before s call e next in
    let by = past_known (is_raw call) s p piece (next.keeps RightWay) in
    let same : by.0 ≡ record { index = index; range = range } = same_Some by.0 (record { index = index; range = range }) (sym by.1 ∙ of.fields.1.piece) in (
      by.2,
      sym (ap (option_and_then (descriptor_at s at.process)) of.fields.0) ∙ by.3,
      subst (λ (other : Piece). by.2.known < piece_end other) same by.4,
    )

-- ---- rights that are taken away, and walks that find none

pub detached_is_cleared : DetachedIsCleared
detached_is_cleared v script before s call at owner fd part next =
    let e = Detached at owner fd part in
    subst (λ (entries : List Entry). has_cleared owner fd part entries ≡ true) (work-is_of_call v script before s call e next) (next.keeps Rights).2.1

no_right_stands : (s : Store) (writes : Bool) (slot : Option Descriptor) (piece : Piece) → MayMiss s writes slot NoDirectory piece →
    NoRightStands slot (part_of piece.index)
no_right_stands s writes None piece may = tt
no_right_stands s writes (Some d) piece may = may

pub no_directory_is_no_right : NoDirectoryIsNoRight
no_directory_is_no_right v script before s call at number next =
    let missed = next.keeps Rights in
    (missed.0, missed.1, no_right_stands s _ (descriptor_of s (place_in s call at)) missed.0 missed.2)
