-- What stays of open descriptors after an entry, and which entries end their calls.
use Rattle.std.proofs.Common.{◌≡◌, ◌≢◌, ℕ, ◌+◌, ◌-◌, ◌/◌, ◌<◌, ◌≤◌, true, false, ◌||◌, not, List, [], ◌∷◌, ◌++◌, length, Option, None, Some, refl, sym, ap, ◌∙◌, subst, arith, ⊎_elim}
use Rattle.std.specs.Prelude.{nat_lt}
use Rattle.std.specs.Option.{option_map_or}
use Rattle.std.specs.List.{range_with_len}
use Rattle.std.proofs.lemmas.Bool.{cases_Bool, false≢true, or_left}
use Rattle.std.proofs.lemmas.List.{length-map}
use Rattle.std.proofs.lemmas.List.FromFn.{length-range_with_len}
use Rattle.std.proofs.lemmas.Option.{none-some, same_Some}
use Rattle.bd_base.specs.declared.journal.At.{At}
use Rattle.bd_base.specs.declared.limits.TheConstants.{BLOCK_SIZE}
use Rattle.bd_base.specs.declared.script.Call.{Call}
use Rattle.bd_base.specs.declared.script.Call.TheVariants.{Read, Write, RawRead, RawWrite}
use Rattle.bd_base.specs.declared.script.How.{How}
use Rattle.bd_base.specs.Pieces.{Piece, piece_at, pieces}
use Rattle.bd_base.specs.Scripts.{IsCall}
use Rattle.bd_entry.specs.declared.entry.Entry.{Entry}
use Rattle.bd_entry.specs.declared.entry.Entry.TheVariants.{Closed}
use Rattle.bd_entry.specs.Actions.{is_for_device}
use Rattle.bd_entry.specs.Calls.{Place, at_of, is_ended_by, is_raw, named_fd, piece_end, piece_of_call}
use Rattle.bd_entry.specs.Effects.{after_change, effect_of}
use Rattle.bd_entry.specs.Refusals.{goes_direct}
use Rattle.bd_entry.specs.Rules.{place_in}
use Rattle.bd_entry.specs.RulesOfRights.{HasRightDescriptor, TheDescriptor}
use Rattle.bd_entry.specs.Store.{Descriptor, Store, descriptor_at, is_plain, work_of}
use Rattle.bd_entry.proofs.DescriptorSteps.{Becomes, after_change-becomes, is_close, slot-set_cases}
use Rattle.bd_entry.proofs.NextReady.{descriptor_stays}
use Rattle.bd_entry.proofs.WriteModes.{TheDescriptor-map, TheDescriptor-same}
use Rattle.bd_turns.proofs.CommandsInHand.{GoesDirectBy, goes_there}
use Rattle.bd_turns.proofs.UnfinishedCalls.{untold_unfinished}
use Rattle.bd_turns.proofs.FilesOfCalls.{changed_kept}

-- ---- entries that end their calls

-- a byte range has a piece
range_has_piece : (off len : ℕ) → 1 ≤ len → 0 < length (pieces off len)
range_has_piece off len some =
    let first = off / BLOCK_SIZE in
    let last = (off + len - 1) / BLOCK_SIZE in
    let order : first ≤ last = omega (some, arith) in
    let count : length (pieces off len) ≡ last + 1 - first =
    length-map (range_with_len first (last + 1 - first)) (piece_at off len) ∙ length-range_with_len first (last + 1 - first) in
    omega (order, count, arith)

-- a call within the limits is not ended by no entries
pub none_unended : (call : Call) (at : At) → IsCall call → is_ended_by call [] ≡ false
none_unended (Read fd off len) at within =
    untold_unfinished (Read fd off len) at [] 0 tt refl refl refl (range_has_piece off len within.2)
none_unended (Write fd off bytes) at within =
    untold_unfinished (Write fd off bytes) at [] 0 tt refl refl refl (range_has_piece off (length bytes) within.2.1)
none_unended (RawRead address range) at within = refl
none_unended (RawWrite address lo bytes) at within = refl
none_unended call at within = refl

-- ---- open descriptors

-- what is said of a descriptor rests on its way and its known size
abbrev RestsOnUse : (Descriptor → Type 0) → Type 0
RestsOnUse P = (d new : Descriptor) → new.how ≡ d.how → new.known ≡ d.known → P d → P new

-- it holds after an entry that neither closes the descriptor nor ends a call of its process
use_stays : (P : Descriptor → Type 0) → RestsOnUse P → (s : Store) (call : Call) (e : Entry) → HasRightDescriptor s (place_in s call (at_of e)) e →
    (process fd : ℕ) → (is_close e ≡ true → process ≢ (at_of e).process) →
    (is_ended_by call (work_of s (at_of e).process ++ e ∷ []) ≡ true → process ≢ (at_of e).process) →
    TheDescriptor (descriptor_at s process fd) P → TheDescriptor (descriptor_at (effect_of s (place_in s call (at_of e)) e) process fd) P
use_stays P rests = descriptor_stays P (λ d new mode how known is. rests d new how known is)

-- the descriptor is of this file
abbrev IsOf : ℕ → Descriptor → Type 0
IsOf file d = d.file ≡ file

-- the entry does not close this descriptor
abbrev pub LeavesOpen : Entry → ℕ → ℕ → Type 0
LeavesOpen e process fd = (at : At) (by : ℕ) → e ≡ Closed at by → process ≡ at.process → fd ≡ by → ⊥

file_changed : (s : Store) (call : Call) (e : Entry) → HasRightDescriptor s (place_in s call (at_of e)) e →
    (process fd file : ℕ) → LeavesOpen e process fd → TheDescriptor (descriptor_at s process fd) (IsOf file) →
    TheDescriptor (descriptor_at (after_change s e) process fd) (IsOf file)
file_changed s call e fits process fd file leaves has = by e refl (after_change-becomes s call e fits process fd)
  where
    stays : Becomes e process (descriptor_at s process fd) (descriptor_at (after_change s e) process fd) → is_close e ≡ false →
        TheDescriptor (descriptor_at (after_change s e) process fd) (IsOf file)
    stays becomes no_close =
        ⊎_elim
        (λ same.
        TheDescriptor-map (IsOf file) same.0 (λ d is. (same.1 d).file ∙ is) (descriptor_at s process fd)
        (descriptor_at (after_change s e) process fd) same.2 has)
        (λ others.
        ⊎_elim
        (λ new. absurd (none-some has.0 (sym new.0 ∙ has.1)))
        (λ gone. absurd (false≢true (sym no_close ∙ gone.0)))
        others)
        becomes

    by : (other : Entry) → e ≡ other → Becomes e process (descriptor_at s process fd) (descriptor_at (after_change s e) process fd) →
        TheDescriptor (descriptor_at (after_change s e) process fd) (IsOf file)
    by (Closed at closed) is becomes =
        subst (λ (x : Entry). TheDescriptor (descriptor_at (after_change s x) process fd) (IsOf file)) (sym is)
        (⊎_elim
        (λ same. TheDescriptor-same (IsOf file) (descriptor_at s process fd) _ same has)
        (λ gone. absurd (leaves at closed is gone.0 gone.1))
        (slot-set_cases s at.process closed None process fd))
    by other is becomes = stays becomes (ap is_close is)

-- an open descriptor keeps its file after an entry that does not close it
pub file_stays : (s : Store) (call : Call) (e : Entry) → HasRightDescriptor s (place_in s call (at_of e)) e →
    (process fd file : ℕ) → LeavesOpen e process fd → TheDescriptor (descriptor_at s process fd) (IsOf file) →
    TheDescriptor (descriptor_at (effect_of s (place_in s call (at_of e)) e) process fd) (IsOf file)
file_stays s call e fits process fd file leaves has =
    changed_kept (IsOf file) (λ d new same mode is. same ∙ is) s call e process fd (file_changed s call e fits process fd file leaves has)

-- ---- pieces for the device

-- the piece goes direct by the open descriptor
abbrev GoesBy : Piece → Descriptor → Type 0
GoesBy piece d = goes_direct d piece ≡ true

direct-rests : (piece : Piece) → RestsOnUse (GoesBy piece)
direct-rests piece d new how known is =
    ap (λ (h : How). not (is_plain h || nat_lt new.known (piece_end piece))) how
    ∙ ap (λ (size : ℕ). not (is_plain d.how || nat_lt size (piece_end piece))) known ∙ is

-- a piece goes direct by the descriptor that the call names
abbrev GoesByNamed : Store → ℕ → Call → ℕ → Type 0
GoesByNamed s process call number =
    (fd : ℕ) × (piece : Piece) × (named_fd call ≡ Some fd) × (piece_of_call call number ≡ Some piece)
    × TheDescriptor (descriptor_at s process fd) (GoesBy piece)

by_named : (s : Store) (call : Call) (at : At) (before : List Entry) (number : ℕ) → is_raw call ≡ false →
    GoesDirectBy s (record { call = call; at = at; before = before }) number → GoesByNamed s at.process call number
by_named s (Read fd off len) at before number raw goes = (fd, goes.piece, refl, goes.piece_is, (goes.d, goes.of, goes.direct))
by_named s (Write fd off bytes) at before number raw goes = (fd, goes.piece, refl, goes.piece_is, (goes.d, goes.of, goes.direct))
by_named s (RawRead address range) at before number raw goes = absurd (false≢true (sym raw))
by_named s (RawWrite address lo bytes) at before number raw goes = absurd (false≢true (sym raw))
by_named s call at before number raw goes = absurd (none-some goes.piece goes.piece_is)

named_goes : (s : Store) (process fd : ℕ) (call : Call) (number : ℕ) (piece : Piece) (d : Descriptor) → descriptor_at s process fd ≡ Some d →
    piece_of_call call number ≡ Some piece → goes_direct d piece ≡ true →
    option_map_or (λ d. option_map_or (goes_direct d) (piece_of_call call number) false) (descriptor_at s process fd) false ≡ true
named_goes s process fd call number piece d here is goes =
    ap (λ (o : Option Descriptor). option_map_or (λ d. option_map_or (goes_direct d) (piece_of_call call number) false) o false) here
    ∙ ap (λ (o : Option Piece). option_map_or (goes_direct d) o false) is ∙ goes

of_named : (s : Store) (call : Call) (at : At) (before : List Entry) (number : ℕ) → GoesByNamed s at.process call number →
    is_for_device s (record { call = call; at = at; before = before }) number ≡ true
of_named s (Read fd off len) at before number goes =
    let same : goes.0 ≡ fd = same_Some goes.0 fd (sym goes.2) in
    named_goes s at.process fd (Read fd off len) number goes.1 goes.4.0 (ap (descriptor_at s at.process) (sym same) ∙ goes.4.1) goes.3 goes.4.2
of_named s (Write fd off bytes) at before number goes =
    let same : goes.0 ≡ fd = same_Some goes.0 fd (sym goes.2) in
    named_goes s at.process fd (Write fd off bytes) number goes.1 goes.4.0 (ap (descriptor_at s at.process) (sym same) ∙ goes.4.1) goes.3 goes.4.2
of_named s (RawRead address range) at before number goes = refl
of_named s (RawWrite address lo bytes) at before number goes = refl
of_named s call at before number goes = absurd (none-some goes.1 goes.3)

-- a piece for the device is so still after an entry of another process, or one that does not end its call
pub for_device-stays : (s : Store) (call other : Call) (e : Entry) → HasRightDescriptor s (place_in s call (at_of e)) e →
    (at : At) (before after : List Entry) (number : ℕ) → (is_close e ≡ true → at.process ≢ (at_of e).process) →
    (is_ended_by call (work_of s (at_of e).process ++ e ∷ []) ≡ true → at.process ≢ (at_of e).process) →
    is_for_device s (record { call = other; at = at; before = before }) number ≡ true →
    is_for_device (effect_of s (place_in s call (at_of e)) e) (record { call = other; at = at; before = after }) number ≡ true
for_device-stays s call other e fits at before after number stays_open goes_on goes =
    let t = effect_of s (place_in s call (at_of e)) e in
    ⊎_elim {C = is_for_device t (record { call = other; at = at; before = after }) number ≡ true}
    (λ raw. or_left (is_raw other) _ raw)
    (λ not_raw.
    let p : Place = record { call = other; at = at; before = before } in
    let by = by_named s other at before number not_raw (goes_there s p number goes not_raw) in
    of_named t other at after number
    (by.0, by.1, by.2, by.3, use_stays (GoesBy by.1) (direct-rests by.1) s call e fits at.process by.0 stays_open goes_on by.4))
    (cases_Bool (is_raw other))

-- so is it at a later place of its call
pub for_device-later : (s : Store) (call : Call) (at : At) (before after : List Entry) (number : ℕ) →
    is_for_device s (record { call = call; at = at; before = before }) number ≡ true →
    is_for_device s (record { call = call; at = at; before = after }) number ≡ true
for_device-later s call at before after number goes =
    ⊎_elim {C = is_for_device s (record { call = call; at = at; before = after }) number ≡ true}
    (λ raw. or_left (is_raw call) _ raw)
    (λ not_raw.
    let p : Place = record { call = call; at = at; before = before } in
    of_named s call at after number (by_named s call at before number not_raw (goes_there s p number goes not_raw)))
    (cases_Bool (is_raw call))
