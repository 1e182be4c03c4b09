-- The running calls of legal journals are ready for what they do next.
use Rattle.std.proofs.Common.{◌≡◌, ◌≢◌, ℕ, Bool, true, false, not, ◌||◌, List, [], ◌∷◌, ◌++◌, Option, None, Some, refl, sym, ap, ◌∙◌, subst, ⊎_elim}
use Rattle.std.specs.Prelude.{nat_lt}
use Rattle.std.specs.Option.{option_and_then, option_map_or, option_or}
use Rattle.std.specs.List.{list_any}
use Rattle.std.proofs.lemmas.Bool.{both_ways, eqb-true, false_from_ne_true, false≢true, or_cases, or_left, or_right}
use Rattle.std.proofs.lemmas.List.Folds.{list_any-append}
use Rattle.std.proofs.lemmas.Option.{none-some, same_Some}
use Rattle.bd_base.specs.declared.limits.TheConstants.{FILE_SIZE}
use Rattle.bd_base.specs.declared.reason.Reason.{Reason}
use Rattle.bd_base.specs.declared.reason.Reason.TheVariants as reasons
use Rattle.bd_base.specs.declared.script.Call.{Call}
use Rattle.bd_base.specs.declared.script.Call.TheVariants.{Enter, Read, Write, Truncate, Unlink, Close, RawRead, RawWrite}
use Rattle.bd_base.specs.declared.script.How.{How}
use Rattle.bd_base.specs.declared.script.How.TheVariants as hows
use Rattle.bd_base.specs.declared.script.Mode.{Mode}
use Rattle.bd_base.specs.declared.script.Script.{Script}
use Rattle.bd_base.specs.declared.volume.Volume.{Volume}
use Rattle.bd_base.specs.declared.journal.At.{At}
use Rattle.bd_base.specs.Bounds.{Bounds}
use Rattle.bd_base.specs.Pieces.{Piece}
use Rattle.bd_entry.specs.declared.entry.Entry.{Entry}
use Rattle.bd_entry.specs.declared.entry.Entry.TheVariants.{Closed, Missed, Refused}
use Rattle.bd_entry.specs.Calls.{Place, at_of, call_at, fd_of_call, has_missed, is_end_of, is_ended_by, is_made_by, is_miss_of, is_raw, named_fd, piece_end, piece_of_call}
use Rattle.bd_entry.specs.Effects.{after_change, after_telling, effect_of, tells_size, with_told_size}
use Rattle.bd_entry.specs.Laws.{AreOfCall, IsHistory, IsNextOf}
use Rattle.bd_entry.specs.NextEntries.{IsRunning, MissedGoDirect, RunningCallsAreReady, stays_allowed}
use Rattle.bd_entry.specs.Promises.{is_whole_refusal}
use Rattle.bd_entry.specs.Refusals.{descriptor_of, descriptor_refusal, first_refusal, goes_direct, is_read_only, reason_if, truncate_refusal}
use Rattle.bd_entry.specs.Rules.{IsOpen, NextCall, NotRefused, RightWay, place_in}
use Rattle.bd_entry.specs.RulesOfCalls.{IsNextCall}
use Rattle.bd_entry.specs.RulesOfRights.{HasRightDescriptor, HasRightWay, RawOrNot, TheDescriptor, ThePiece, WentDirect}
use Rattle.bd_entry.specs.Store.{Descriptor, Store, descriptor_at, is_plain, work_of}
use Rattle.bd_entry.proofs.Accesses.{of_call-in_store}
use Rattle.bd_entry.proofs.CallOrder.{is_finished-called, start_of}
use Rattle.bd_entry.proofs.DescriptorSteps.{after_call-cases, after_change-becomes, after_telling-cases, is_close}
use Rattle.bd_entry.proofs.Histories.{history_holds}
use Rattle.bd_entry.proofs.HistoryLaws.{history_leads, is_call}
use Rattle.bd_entry.proofs.KnownSizes.{work-grown}
use Rattle.bd_entry.proofs.NextActs.{any-stricter, open_descriptor}
use Rattle.bd_entry.proofs.RunningCalls.{running_cases, work-other}
use Rattle.bd_entry.proofs.WriteModes.{TheDescriptor-map, TheDescriptor-same, begins_allowed, cases_nil, none_at_start}

-- ---- what stays of an open descriptor

-- what is said of a descriptor rests on its mode, its way and its known size
abbrev pub RestsOnUse : (Descriptor → Type 0) → Type 0
RestsOnUse P = (d new : Descriptor) → new.mode ≡ d.mode → new.how ≡ d.how → new.known ≡ d.known → P d → P new

-- it holds after an entry that neither closes the descriptor nor ends a call of its process
pub descriptor_stays : (P : Descriptor → Type 0) → RestsOnUse P → (s : Store) (call : Call) (e : Entry) → HasRightDescriptor s (place_in s call (at_of e)) e →
    (process fd : ℕ) → (is_close e ≡ true → process ≢ (at_of e).process) →
    (is_ended_by call (work_of s (at_of e).process ++ e ∷ []) ≡ true → process ≢ (at_of e).process) →
    TheDescriptor (descriptor_at s process fd) P → TheDescriptor (descriptor_at (effect_of s (place_in s call (at_of e)) e) process fd) P
descriptor_stays P rests s call e fits process fd stays_open goes_on has =
    let entries = work_of s (at_of e).process ++ e ∷ [] in
    let of = fd_of_call call entries in
    let changed = after_change s e in
    let told = after_telling (tells_size e) changed (at_of e).process of in
    let after = effect_of s (place_in s call (at_of e)) e in
    let first : TheDescriptor (descriptor_at changed process fd) P =
    ⊎_elim
    (λ same.
    TheDescriptor-map P same.0 (λ d is. rests d (same.0 d) (same.1 d).mode (same.1 d).how (same.1 d).known is) (descriptor_at s process fd)
    (descriptor_at changed process fd) same.2 has)
    (λ others.
    ⊎_elim
    (λ new. absurd (none-some has.0 (sym new.0 ∙ has.1)))
    (λ gone. absurd (stays_open gone.0 gone.1))
    others)
    (after_change-becomes s call e fits process fd) in
    let second : TheDescriptor (descriptor_at told process fd) P =
    ⊎_elim
    (λ same. TheDescriptor-same P (descriptor_at changed process fd) (descriptor_at told process fd) same first)
    (λ new.
    TheDescriptor-map P (with_told_size changed) (λ d is. rests d (with_told_size changed d) refl refl refl is) (descriptor_at changed process fd)
    (descriptor_at told process fd) new.2 first)
    (after_telling-cases (tells_size e) changed (at_of e).process of process fd) in
    ⊎_elim
    (λ same. TheDescriptor-same P (descriptor_at told process fd) (descriptor_at after process fd) same second)
    (λ ended. absurd (goes_on ended.2 ended.0))
    (after_call-cases (is_ended_by call entries) told (at_of e).process of entries process fd)

-- ---- entries that end their calls

-- an entry that ends the call alone ends it after any others
pub ended_by_end : (call : Call) (before : List Entry) (e : Entry) → is_end_of call e ≡ true → is_ended_by call (before ++ e ∷ []) ≡ true
ended_by_end call before e ends =
    by call
    (list_any-append (is_end_of call) before (e ∷ [])
    ∙ or_right (list_any (is_end_of call) before) (list_any (is_end_of call) (e ∷ [])) (or_left (is_end_of call e) false ends))
  where
    by : (c : Call) → list_any (is_end_of c) (before ++ e ∷ []) ≡ true → is_ended_by c (before ++ e ∷ []) ≡ true
    by (Read fd off len) any = or_left _ _ any
    by (Write fd off bytes) any = or_left _ _ any
    by c any = any

pub closes_end : (call : Call) (e : Entry) → is_made_by call e ≡ true → is_close e ≡ true → is_end_of call e ≡ true
closes_end (Close fd) (Closed at by) made closes = refl
closes_end (Enter name mode hows.Plain) (Closed at by) made closes = absurd (false≢true made)
closes_end (Enter name mode hows.Direct) (Closed at by) made closes = absurd (false≢true made)
closes_end call (Closed at by) made closes = absurd (false≢true made)
closes_end call e made closes = absurd (false≢true closes)

pub whole_ends : (call : Call) (e : Entry) → is_whole_refusal e ≡ true → is_end_of call e ≡ true
whole_ends call (Refused at None reason) whole = refl
whole_ends call e whole = absurd (false≢true whole)

-- ---- calls by a descriptor that are not refused again

-- the descriptor of a truncation, a write or a close
abbrev used_fd : Call → Option ℕ
used_fd (Truncate fd size) = Some fd
used_fd (Write fd off bytes) = Some fd
used_fd (Close fd) = Some fd
used_fd call = None

-- why such a call is refused by an open descriptor
abbrev further : Call → Descriptor → Option Reason
further (Truncate fd size) d = truncate_refusal size d
further (Write fd off bytes) d = reason_if (is_read_only d.mode) reasons.ReadOnly
further call d = None

refusal-is : (s : Store) (process : ℕ) (call : Call) (fd : ℕ) → used_fd call ≡ Some fd →
    first_refusal s process call ≡ descriptor_refusal s process fd (further call)
refusal-is s process (Truncate f size) fd is = ap (λ (n : ℕ). descriptor_refusal s process n (truncate_refusal size)) (same_Some f fd is)
refusal-is s process (Write f off bytes) fd is =
    ap (λ (n : ℕ). descriptor_refusal s process n (λ d. reason_if (is_read_only d.mode) reasons.ReadOnly)) (same_Some f fd is)
refusal-is s process (Close f) fd is = ap (λ (n : ℕ). descriptor_refusal s process n (λ d. None)) (same_Some f fd is)
refusal-is s process call fd is = absurd (none-some fd is)

further-rests : (call : Call) → RestsOnUse (λ d. further call d ≡ None)
further-rests (Truncate fd size) d new mode how known none =
    ap (λ (m : Mode). option_or (reason_if (is_read_only m) reasons.ReadOnly) (reason_if (nat_lt FILE_SIZE size) reasons.TooBig)) mode ∙ none
further-rests (Write fd off bytes) d new mode how known none = ap (λ (m : Mode). reason_if (is_read_only m) reasons.ReadOnly) mode ∙ none
further-rests call d new mode how known none = refl

direct-rests : (piece : Piece) → RestsOnUse (λ d. goes_direct d piece ≡ true)
direct-rests piece d new mode how known is =
    ap (λ (h : How). not (is_plain h || nat_lt new.known (piece_end piece))) how
    ∙ ap (λ (size : ℕ). not (is_plain d.how || nat_lt size (piece_end piece))) known ∙ is

-- ---- every running call

-- the descriptor of a call that has begun allows it still
abbrev IsUsable : Store → ℕ → Call → ℕ → Type 0
IsUsable s process call fd = TheDescriptor (descriptor_at s process fd) (λ d. further call d ≡ None)

-- the piece goes to the device by the open descriptor
abbrev GoesDirect : Store → ℕ → ℕ → Piece → Type 0
GoesDirect s process fd piece = TheDescriptor (descriptor_at s process fd) (λ d. goes_direct d piece ≡ true)

-- the running calls by descriptors are still allowed, and their pieces that missed go to the device
record RunOn (script : Script) (before : List Entry) (s : Store) : Type 0 where
  pub allowed : (at : At) (call : Call) (fd : ℕ) → call_at script at ≡ Some call → IsNextCall script before at → used_fd call ≡ Some fd →
      work_of s at.process ≢ [] → IsUsable s at.process call fd
  pub missed : (at : At) (call : Call) (fd number : ℕ) (piece : Piece) → call_at script at ≡ Some call → IsNextCall script before at →
      is_raw call ≡ false → named_fd call ≡ Some fd → piece_of_call call number ≡ Some piece → has_missed number (work_of s at.process) ≡ true →
      GoesDirect s at.process fd piece

-- what the call names is its descriptor, but for opens and raw commands
named-is : (call : Call) (entries : List Entry) (fd : ℕ) → named_fd call ≡ Some fd → fd_of_call call entries ≡ Some fd
named-is (Enter name mode how) entries fd is = absurd (none-some fd is)
named-is (RawRead address range) entries fd is = absurd (none-some fd is)
named-is (RawWrite address lo bytes) entries fd is = absurd (none-some fd is)
named-is call entries fd is = is

went_direct : (slot : Option Descriptor) (piece : Piece) → WentDirect slot piece → TheDescriptor slot (λ d. goes_direct d piece ≡ true)
went_direct None piece went = absurd went
went_direct (Some d) piece went = (d, refl, went)

-- a piece that misses goes to the device
miss_went : (s : Store) (p : Place) (number : ℕ) (piece : Piece) (e : Entry) → HasRightWay s p e → is_raw p.call ≡ false →
    piece_of_call p.call number ≡ Some piece → is_miss_of number e ≡ true → TheDescriptor (descriptor_of s p) (λ d. goes_direct d piece ≡ true)
miss_went s p number piece (Missed at other found) way raw is misses =
    let went : ThePiece p other (WentDirect (descriptor_of s p)) =
    subst (λ (b : Bool). RawOrNot b (Unit {0}) (ThePiece p other (WentDirect (descriptor_of s p)))) raw way in
    let same : went.0 ≡ piece =
    same_Some went.0 piece (sym went.1 ∙ ap (piece_of_call p.call) (eqb-true other number misses) ∙ is) in
    subst (λ (x : Piece). TheDescriptor (descriptor_of s p) (λ d. goes_direct d x ≡ true)) same (went_direct (descriptor_of s p) went.0 went.2)
miss_went s p number piece e way raw is misses = absurd (false≢true misses)

module _ (v : Volume) (script : Script) (before : List Entry) (s : Store) (call : Call) (e : Entry) (next : IsNextOf v script before s call e)
    (holds : RunOn script before s) where
  -- the entries of the call so far, and its process
  abbrev process : ℕ
  process = (at_of e).process

  abbrev after : Store
  after = effect_of s (place_in s call (at_of e)) e

  abbrev goes_on : Type 0
  goes_on = is_ended_by call (work_of s process ++ e ∷ []) ≡ false

  not_end : goes_on → is_end_of call e ≡ true → ⊥
  not_end running ends = both_ways (is_ended_by call (work_of s process ++ e ∷ [])) running (ended_by_end call (work_of s process) e ends)

  -- an entry of a call that goes on keeps what holds of its descriptor
  own_stays : (P : Descriptor → Type 0) → RestsOnUse P → goes_on → (fd : ℕ) → TheDescriptor (descriptor_at s process fd) P →
      TheDescriptor (descriptor_at after process fd) P
  own_stays P rests running fd has =
      descriptor_stays P rests s call e (next.keeps IsOpen) process fd
      (λ closes. absurd (not_end running (closes_end call e (of_call-in_store v script before s call e next).kind closes)))
      (λ ended. absurd (both_ways (is_ended_by call (work_of s process ++ e ∷ [])) running ended)) has

  -- so does one of another process
  other_stays : (P : Descriptor → Type 0) → RestsOnUse P → (other : ℕ) → other ≢ process → (fd : ℕ) → TheDescriptor (descriptor_at s other fd) P →
      TheDescriptor (descriptor_at after other fd) P
  other_stays P rests other differ fd has = descriptor_stays P rests s call e (next.keeps IsOpen) other fd (λ closes. differ) (λ ended. differ) has

  own_allowed : (fd : ℕ) → used_fd call ≡ Some fd → goes_on → IsUsable after process call fd
  own_allowed fd used running =
      let p = place_in s call (at_of e) in
      let whole : is_whole_refusal e ≡ false =
      false_from_ne_true (is_whole_refusal e) (λ refuses. not_end running (whole_ends call e refuses)) in
      let was : IsUsable s process call fd =
      ⊎_elim
      (λ none.
      open_descriptor s process fd (further call) (sym (refusal-is s process call fd used) ∙ begins_allowed s p e (next.keeps NotRefused) whole none))
      (λ some. holds.allowed (at_of e) call fd next.call_is (next.fits NextCall) used some)
      (cases_nil (work_of s process)) in
      own_stays (λ d. further call d ≡ None) (further-rests call) running fd was

  own_missed : (fd number : ℕ) (piece : Piece) → is_raw call ≡ false → named_fd call ≡ Some fd → piece_of_call call number ≡ Some piece →
      has_missed number (work_of s process ++ e ∷ []) ≡ true → goes_on → GoesDirect after process fd piece
  own_missed fd number piece raw named is misses running =
      let p = place_in s call (at_of e) in
      let was : GoesDirect s process fd piece =
      ⊎_elim
      (λ earlier. holds.missed (at_of e) call fd number piece next.call_is (next.fits NextCall) raw named is earlier)
      (λ now.
      ⊎_elim
      (λ here.
      let went = miss_went s p number piece e (next.keeps RightWay) raw is here in
      let of = named-is call (work_of s process) fd named in
      (went.0, sym (ap (option_and_then (descriptor_at s process)) of) ∙ went.1, went.2))
      (λ none. absurd (false≢true none))
      (or_cases (is_miss_of number e) false now))
      (or_cases (has_missed number (work_of s process)) (has_missed number (e ∷ []))
      (sym (list_any-append (is_miss_of number) (work_of s process) (e ∷ [])) ∙ misses)) in
      own_stays (λ d. goes_direct d piece ≡ true) (direct-rests piece) running fd was

  -- the call of the entry is the one of its place
  same_call_at : (at : At) (other : Call) → at ≡ at_of e → call_at script at ≡ Some other → call ≡ other
  same_call_at at other mine called = same_Some call other (sym next.call_is ∙ ap (call_at script) (sym mine) ∙ called)

  allowed-push : (at : At) (other : Call) (fd : ℕ) → call_at script at ≡ Some other → IsNextCall script (before ++ e ∷ []) at → used_fd other ≡ Some fd →
      work_of after at.process ≢ [] → IsUsable after at.process other fd
  allowed-push at other fd called then used some =
      running_cases v script before s call e next at then some (IsUsable after at.process other fd)
      (λ differ was had.
      other_stays (λ d. further other d ≡ None) (further-rests other) at.process differ fd (holds.allowed at other fd called was used had))
      (λ mine running.
      let is = same_call_at at other mine called in
      let own : IsUsable after process call fd = own_allowed fd (ap used_fd is ∙ used) running in
      subst (λ (a : At). IsUsable after a.process other fd) (sym mine) (subst (λ (c : Call). IsUsable after process c fd) is own))

  missed-push : (at : At) (other : Call) (fd number : ℕ) (piece : Piece) → call_at script at ≡ Some other → IsNextCall script (before ++ e ∷ []) at →
      is_raw other ≡ false → named_fd other ≡ Some fd → piece_of_call other number ≡ Some piece → has_missed number (work_of after at.process) ≡ true →
      GoesDirect after at.process fd piece
  missed-push at other fd number piece called then raw named piece_is misses =
      let some : work_of after at.process ≢ [] =
      λ none. false≢true (sym (ap (has_missed number) none) ∙ misses) in
      running_cases v script before s call e next at then some (GoesDirect after at.process fd piece)
      (λ differ was had.
      other_stays (λ d. goes_direct d piece ≡ true) (direct-rests piece) at.process differ fd
      (holds.missed at other fd number piece called was raw named piece_is
      (sym (ap (has_missed number) (work-other s call e at.process differ)) ∙ misses)))
      (λ mine running.
      let is = same_call_at at other mine called in
      let work : work_of after at.process ≡ work_of s process ++ e ∷ [] =
      ap (λ (a : At). work_of after a.process) mine ∙ work-grown v script before s call e next running in
      subst (λ (a : At). GoesDirect after a.process fd piece) (sym mine)
      (own_missed fd number piece (ap is_raw is ∙ raw) (ap named_fd is ∙ named) (ap (λ (c : Call). piece_of_call c number) is ∙ piece_is)
      (sym (ap (has_missed number) work) ∙ misses) running))

  run_on-push : RunOn script (before ++ e ∷ []) after
  run_on-push = record { allowed = allowed-push; missed = missed-push }

run_on : (v : Volume) (script : Script) (before : List Entry) (s : Store) → IsHistory v script before s → RunOn script before s
run_on v script before s history =
    history_holds v script (RunOn script)
    (record {
      allowed = λ at call fd called next used some. absurd (some (none_at_start v script at.process));
      missed = λ at call fd number piece called next raw named is misses.
          absurd (false≢true (sym (ap (has_missed number) (none_at_start v script at.process)) ∙ misses));
    })
    (run_on-push v script) before s history

-- ---- running calls

-- a raw command ends as its piece misses
raw_read_misses : (address number : ℕ) (range : Bounds) (e : Entry) → is_miss_of number e ≡ true → is_end_of (RawRead address range) e ≡ true
raw_read_misses address number range (Missed at piece found) is = refl
raw_read_misses address number range e is = absurd (false≢true is)

raw_write_misses : (address lo number : ℕ) (bytes : List ℕ) (e : Entry) → is_miss_of number e ≡ true → is_end_of (RawWrite address lo bytes) e ≡ true
raw_write_misses address lo number bytes (Missed at piece found) is = refl
raw_write_misses address lo number bytes e is = absurd (false≢true is)

-- a call by a usable descriptor is not refused
usable-allowed : (s : Store) (process : ℕ) (call : Call) (fd : ℕ) → used_fd call ≡ Some fd → IsUsable s process call fd →
    first_refusal s process call ≡ None
usable-allowed s process call fd used usable =
    refusal-is s process call fd used ∙ ap (λ (o : Option Descriptor). option_map_or (further call) o (Some reasons.BadFd)) usable.1 ∙ usable.2

running-allowed : (v : Volume) (script : Script) (before : List Entry) (s : Store) (call : Call) (at : At) (outstanding : List ℕ) →
    IsRunning v script before s call at outstanding → work_of s at.process ≢ [] → stays_allowed call ≡ true → first_refusal s at.process call ≡ None
running-allowed v script before s (Enter name mode hows.Plain) at outstanding runs some stays = runs.file_stays refl some
running-allowed v script before s (Unlink name) at outstanding runs some stays = runs.file_stays refl some
running-allowed v script before s (Truncate fd size) at outstanding runs some stays =
    usable-allowed s at.process (Truncate fd size) fd refl
    ((run_on v script before s runs.history).allowed at (Truncate fd size) fd runs.called runs.next refl some)
running-allowed v script before s (Write fd off bytes) at outstanding runs some stays =
    usable-allowed s at.process (Write fd off bytes) fd refl
    ((run_on v script before s runs.history).allowed at (Write fd off bytes) fd runs.called runs.next refl some)
running-allowed v script before s (Close fd) at outstanding runs some stays =
    usable-allowed s at.process (Close fd) fd refl
    ((run_on v script before s runs.history).allowed at (Close fd) fd runs.called runs.next refl some)
running-allowed v script before s (Enter name mode hows.Direct) at outstanding runs some stays = absurd (false≢true stays)
running-allowed v script before s call at outstanding runs some stays = absurd (false≢true stays)

-- what holds of the descriptor that was found holds of the one that is there
found_is : (piece : Piece) (slot : Option Descriptor) (d : Descriptor) → TheDescriptor slot (λ d. goes_direct d piece ≡ true) → slot ≡ Some d →
    goes_direct d piece ≡ true
found_is piece slot d has is = subst (λ (x : Descriptor). goes_direct x piece ≡ true) (same_Some has.0 d (sym has.1 ∙ is)) has.2

running-missed : (v : Volume) (script : Script) (before : List Entry) (s : Store) (call : Call) (at : At) (outstanding : List ℕ) →
    IsRunning v script before s call at outstanding → is_ended_by call (work_of s at.process) ≡ false → MissedGoDirect s (place_in s call at)
running-missed v script before s (Read fd off len) at outstanding runs unfinished number piece d misses is of =
    found_is piece (descriptor_at s at.process fd) d
    ((run_on v script before s runs.history).missed at (Read fd off len) fd number piece runs.called runs.next refl refl is misses) of
running-missed v script before s (Write fd off bytes) at outstanding runs unfinished number piece d misses is of =
    found_is piece (descriptor_at s at.process fd) d
    ((run_on v script before s runs.history).missed at (Write fd off bytes) fd number piece runs.called runs.next refl refl is misses) of
running-missed v script before s (RawRead address range) at outstanding runs unfinished number piece d misses is of =
    absurd
    (both_ways (has_missed number (work_of s at.process))
    (any-stricter (is_end_of (RawRead address range)) (is_miss_of number) (work_of s at.process) (raw_read_misses address number range) unfinished) misses)
running-missed v script before s (RawWrite address lo bytes) at outstanding runs unfinished number piece d misses is of =
    absurd
    (both_ways (has_missed number (work_of s at.process))
    (any-stricter (is_end_of (RawWrite address lo bytes)) (is_miss_of number) (work_of s at.process) (raw_write_misses address lo number bytes) unfinished)
    misses)
running-missed v script before s call at outstanding runs unfinished number piece d misses is of = absurd (none-some piece is)

pub running_calls_are_ready : RunningCallsAreReady
running_calls_are_ready v script before s call at outstanding runs =
    let led = history_leads v script before s runs.history in
    let work = led.running at runs.next in
    let unfinished : is_ended_by call (work_of s at.process) ≡ false =
    ap (is_ended_by call) work ∙ sym (is_finished-called script before at call runs.called) ∙ runs.next.unfinished in
    record {
      valid = led.valid;
      within = is_call script at call runs.history.limits runs.called;
      of_call = subst (AreOfCall (start_of call at)) (sym work) (led.ordered.of_call at call runs.called);
      unfinished = unfinished;
      outstanding = runs.of_pieces;
      allowed = running-allowed v script before s call at outstanding runs;
      missed = running-missed v script before s call at outstanding runs unfinished;
    }
