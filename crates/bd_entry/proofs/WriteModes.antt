-- A running write has its descriptor open in a mode that may write, so no walk of its pieces finds a right without writing.
use Rattle.std.proofs.Common.{◌≡◌, ◌≢◌, ℕ, ◌+◌, ◌*◌, ◌<◌, ◌≤◌, Bool, true, false, not, ◌||◌, List, [], ◌∷◌, ◌++◌, map, zero, suc, Option, None, Some, ◌⊎◌, inl, inr, refl, sym, ap, ◌∙◌, subst, arith, ⊎_elim}
use Rattle.std.specs.Prelude.{nat_lt, slice_index_or}
use Rattle.std.specs.Option.{option_map, option_map_or}
use Rattle.std.specs.List.{list_any}
use Rattle.std.proofs.lemmas.Bool.{both_ways, cases_lt, false≢true, false_from_ne_true, lt-ltb, or_left, or_right}
use Rattle.std.proofs.lemmas.List.Folds.{list_any-append}
use Rattle.std.proofs.lemmas.Option.{none-some, same_Some}
use Rattle.bd_base.specs.declared.limits.TheConstants.{BLOCK_SIZE}
use Rattle.bd_base.specs.declared.reason.Reason.TheVariants.{BadFd, ReadOnly}
use Rattle.bd_base.specs.declared.script.Call.{Call}
use Rattle.bd_base.specs.declared.script.Call.TheVariants.{Write, RawWrite}
use Rattle.bd_base.specs.declared.script.How.{How}
use Rattle.bd_base.specs.declared.script.How.TheVariants.{Plain, Direct}
use Rattle.bd_base.specs.declared.script.Mode.{Mode}
use Rattle.bd_base.specs.declared.script.Mode.TheVariants.{R, Rw}
use Rattle.bd_base.specs.declared.script.Process.{Process}
use Rattle.bd_base.specs.declared.script.Script.{Script}
use Rattle.bd_base.specs.declared.volume.Volume.{Volume}
use Rattle.bd_base.specs.declared.journal.At.{At}
use Rattle.bd_base.specs.declared.journal.Found.{Found}
use Rattle.bd_base.specs.declared.journal.Found.TheVariants.{NoDirectory, NoRight, NoEntry, Beyond}
use Rattle.bd_base.specs.Pieces.{Piece}
use Rattle.bd_entry.specs.declared.entry.Entry.{Entry}
use Rattle.bd_entry.specs.declared.entry.Entry.TheVariants.{Closed, Extended, Missed, Refused}
use Rattle.bd_entry.specs.Calls.{Place, at_of, call_at, does_write, fd_of_call, is_end_of, is_ended_by, is_made_by, is_raw, piece_end}
use Rattle.bd_entry.specs.Effects.{after_change, after_telling, effect_of, tells_size, with_known_size, with_told_size}
use Rattle.bd_entry.specs.Laws.{IsHistory, IsNextOf}
use Rattle.bd_entry.specs.Promises.{PiecesMissNothingElse, is_whole_refusal}
use Rattle.bd_entry.specs.Refusals.{descriptor_of, first_refusal, is_read_only, reason_if}
use Rattle.bd_entry.specs.Rules.{IsOpen, NextCall, NotRefused, Rights, RightWay, place_in}
use Rattle.bd_entry.specs.RulesOfCalls.{IsNextCall}
use Rattle.bd_entry.specs.RulesOfContents.{HasRightReason}
use Rattle.bd_entry.specs.RulesOfRights.{HasRightDescriptor, MayMiss, RawOrNot, TheDescriptor, ThePiece, WentDirect}
use Rattle.bd_entry.specs.Store.{Descriptor, Store, descriptor_at, is_plain, start_store, work_of}
use Rattle.bd_entry.proofs.Accesses.{of_call-in_store}
use Rattle.bd_entry.proofs.AnsweredPieces.{write_end}
use Rattle.bd_entry.proofs.CallPieces.{piece_of_call-in_block}
use Rattle.bd_entry.proofs.DescriptorSteps.{after_call-cases, after_change-becomes, after_telling-cases, is_close}
use Rattle.bd_entry.proofs.HistoryLaws.{is_call}
use Rattle.bd_entry.proofs.Histories.{history_holds}
use Rattle.bd_entry.proofs.RunningCalls.{running_cases}

-- ---- the mode of an open descriptor

-- the descriptor is open, and may write
abbrev MayWriteAt : Store → ℕ → ℕ → Type 0
MayWriteAt s process fd = TheDescriptor (descriptor_at s process fd) (λ d. d.mode ≡ Rw)

-- what holds of an open descriptor holds after a change that keeps it
pub TheDescriptor-map : (P : Descriptor → Type 0) (change : Descriptor → Descriptor) → ((d : Descriptor) → P d → P (change d)) →
    (old slot : Option Descriptor) → slot ≡ option_map change old → TheDescriptor old P → TheDescriptor slot P
TheDescriptor-map P change keeps old slot is holds = (change holds.0, is ∙ ap (option_map change) holds.1, keeps holds.0 holds.2)

pub TheDescriptor-same : (P : Descriptor → Type 0) (old slot : Option Descriptor) → slot ≡ old → TheDescriptor old P → TheDescriptor slot P
TheDescriptor-same P old slot same holds = (holds.0, same ∙ holds.1, holds.2)

-- an entry that does not close it leaves an open descriptor with its mode
mode_stays : (s : Store) (call : Call) (e : Entry) → HasRightDescriptor s (place_in s call (at_of e)) e → (process fd : ℕ) →
    (is_close e ≡ true → process ≢ (at_of e).process) → MayWriteAt s process fd → MayWriteAt (effect_of s (place_in s call (at_of e)) e) process fd
mode_stays s call e fits process fd stays may =
    let entries = work_of s (at_of e).process ++ e ∷ [] in
    let of = fd_of_call call entries in
    let changed = after_change s e in
    let told = after_telling (tells_size e) changed (at_of e).process of in
    let Writes : Descriptor → Type 0 = λ d. d.mode ≡ Rw in
    let first : MayWriteAt changed process fd =
    ⊎_elim
    (λ same. TheDescriptor-map Writes same.0 (λ d is. (same.1 d).mode ∙ is) (descriptor_at s process fd) (descriptor_at changed process fd) same.2 may)
    (λ others.
    ⊎_elim
    (λ new. absurd (none-some may.0 (sym new.0 ∙ may.1)))
    (λ gone. absurd (stays gone.0 gone.1))
    others)
    (after_change-becomes s call e fits process fd) in
    let second : MayWriteAt told process fd =
    ⊎_elim
    (λ same. TheDescriptor-same Writes (descriptor_at changed process fd) (descriptor_at told process fd) same first)
    (λ new. TheDescriptor-map Writes (with_told_size changed) (λ d is. is) (descriptor_at changed process fd) (descriptor_at told process fd) new.2 first)
    (after_telling-cases (tells_size e) changed (at_of e).process of process fd) in
    let after = effect_of s (place_in s call (at_of e)) e in
    ⊎_elim
    (λ same. TheDescriptor-same Writes (descriptor_at told process fd) (descriptor_at after process fd) same second)
    (λ new. TheDescriptor-map Writes with_known_size (λ d is. is) (descriptor_at told process fd) (descriptor_at after process fd) new.3 second)
    (after_call-cases (is_ended_by call entries) told (at_of e).process of entries process fd)

-- ---- how a write begins

-- a call of which an entry tells that is no refusal of it began without one
pub begins_allowed : (s : Store) (p : Place) (e : Entry) → HasRightReason s p e → is_whole_refusal e ≡ false → p.before ≡ [] →
    first_refusal s p.at.process p.call ≡ None
begins_allowed s p (Extended at file to block) reason whole none = reason.0 none
begins_allowed s p (Refused at None why) reason whole none = absurd (false≢true (sym whole))
begins_allowed s p (Refused at (Some piece) why) reason whole none = reason.not_whole
begins_allowed s p e reason whole none = reason none

-- a write that is not refused may write
not_refused-mode : (d : Descriptor) (mode : Mode) → reason_if (is_read_only mode) ReadOnly ≡ None → mode ≡ Rw
not_refused-mode d R none = absurd (none-some ReadOnly (sym none))
not_refused-mode d Rw none = refl

not_refused-slot : (slot : Option Descriptor) → option_map_or (λ (d : Descriptor). reason_if (is_read_only d.mode) ReadOnly) slot (Some BadFd) ≡ None →
    TheDescriptor slot (λ d. d.mode ≡ Rw)
not_refused-slot None none = absurd (none-some BadFd (sym none))
not_refused-slot (Some d) none = (d, refl, not_refused-mode d d.mode none)

-- a list is empty or not
pub cases_nil : {X : Type 0} (xs : List X) → (xs ≡ []) ⊎ (xs ≢ [])
cases_nil [] = inl refl
cases_nil (x ∷ xs) = inr (λ none. let no : x ∷ xs ≡ [] = none in cc)

-- ---- every running write

-- a write that has an entry has its descriptor open, which may write
record WritesMayWrite (script : Script) (before : List Entry) (s : Store) : Type 0 where
  pub may : (at : At) (fd off : ℕ) (bytes : List ℕ) → call_at script at ≡ Some (Write fd off bytes) → IsNextCall script before at →
      work_of s at.process ≢ [] → MayWriteAt s at.process fd

-- so the descriptor of a write's next entry may write, if that is no refusal of the call
next_may_write : (v : Volume) (script : Script) (before : List Entry) (s : Store) (call : Call) (e : Entry) (fd off : ℕ) (bytes : List ℕ) →
    IsNextOf v script before s call e → WritesMayWrite script before s → call ≡ Write fd off bytes → is_whole_refusal e ≡ false →
    MayWriteAt s (at_of e).process fd
next_may_write v script before s call e fd off bytes next holds is whole =
    ⊎_elim
    (λ none.
    let allowed : first_refusal s (at_of e).process call ≡ None = begins_allowed s (place_in s call (at_of e)) e (next.keeps NotRefused) whole none in
    not_refused-slot (descriptor_at s (at_of e).process fd)
    (subst (λ (c : Call). first_refusal s (at_of e).process c ≡ None) is allowed))
    (λ some. holds.may (at_of e) fd off bytes (next.call_is ∙ ap Some is) (next.fits NextCall) some)
    (cases_nil (work_of s (at_of e).process))

-- a write closes nothing
write_closes-not : (fd off : ℕ) (bytes : List ℕ) (e : Entry) → is_made_by (Write fd off bytes) e ≡ true → is_close e ≡ true → ⊥
write_closes-not fd off bytes (Closed at by) made closes = false≢true made
write_closes-not fd off bytes e made closes = false≢true closes

-- an entry that does not end a write does not refuse it
write_goes_on : (fd off : ℕ) (bytes : List ℕ) (before : List Entry) (e : Entry) → is_ended_by (Write fd off bytes) (before ++ e ∷ []) ≡ false →
    is_whole_refusal e ≡ false
write_goes_on fd off bytes before e running =
    let call = Write fd off bytes in
    false_from_ne_true (is_whole_refusal e)
    (λ whole.
    let ends : list_any (is_end_of call) (before ++ e ∷ []) ≡ true =
    list_any-append (is_end_of call) before (e ∷ [])
    ∙ or_right (list_any (is_end_of call) before) (list_any (is_end_of call) (e ∷ []))
    (or_left (is_end_of call e) false (write_end fd off bytes e ∙ whole)) in
    both_ways (is_ended_by call (before ++ e ∷ [])) running (or_left (list_any (is_end_of call) (before ++ e ∷ [])) _ ends))

writes-push : (v : Volume) (script : Script) (before : List Entry) (s : Store) (call : Call) (e : Entry) → IsNextOf v script before s call e →
    WritesMayWrite script before s → WritesMayWrite script (before ++ e ∷ []) (effect_of s (place_in s call (at_of e)) e)
writes-push v script before s call e next holds = record {
  may = λ at fd off bytes called then some.
      running_cases v script before s call e next at then some (MayWriteAt (effect_of s (place_in s call (at_of e)) e) at.process fd)
      (λ differ was had. mode_stays s call e (next.keeps IsOpen) at.process fd (λ closes. differ) (holds.may at fd off bytes called was had))
      (λ mine running.
      let is : call ≡ Write fd off bytes = same_Some call (Write fd off bytes) (sym next.call_is ∙ ap (call_at script) (sym mine) ∙ called) in
      let entries = work_of s (at_of e).process in
      let whole : is_whole_refusal e ≡ false =
      write_goes_on fd off bytes entries e (subst (λ (c : Call). is_ended_by c (entries ++ e ∷ []) ≡ false) is running) in
      let made : is_made_by (Write fd off bytes) e ≡ true =
      subst (λ (c : Call). is_made_by c e ≡ true) is (of_call-in_store v script before s call e next).kind in
      subst (λ (a : At). MayWriteAt (effect_of s (place_in s call (at_of e)) e) a.process fd) (sym mine)
      (mode_stays s call e (next.keeps IsOpen) (at_of e).process fd (λ closes. absurd (write_closes-not fd off bytes e made closes))
      (next_may_write v script before s call e fd off bytes next holds is whole)));
}

-- no call has entries at the start
pub none_at_start : (v : Volume) (script : Script) (process : ℕ) → work_of (start_store v script) process ≡ []
none_at_start v script process = none script.processes process
  where
    none : (processes : List Process) (process : ℕ) →
        let nothing : Process → List Entry = λ p. [] in
        slice_index_or (map nothing processes) process [] ≡ []
    none [] process = refl
    none (p ∷ processes) zero = refl
    none (p ∷ processes) (suc process) = none processes process

writes_may_write : (v : Volume) (script : Script) (before : List Entry) (s : Store) → IsHistory v script before s → WritesMayWrite script before s
writes_may_write v script before s history =
    history_holds v script (WritesMayWrite script)
    (record { may = λ at fd off bytes called next some. absurd (some (none_at_start v script at.process)) })
    (writes-push v script) before s history

-- ---- what walks find

-- a piece that goes direct ends within the known size
direct-within : (how : How) (known end : ℕ) → not (is_plain how || nat_lt known end) ≡ true → end ≤ known
direct-within Plain known end direct = absurd (false≢true direct)
direct-within Direct known end direct =
    ⊎_elim (λ above. absurd (both_ways (not (nat_lt known end)) (ap not (lt-ltb known end above)) direct)) (λ within. within) (cases_lt known end)

nothing_else : (s : Store) (writes : Bool) (slot : Option Descriptor) (found : Found) (piece : Piece) → 0 < piece.range.hi → WentDirect slot piece →
    (writes ≡ true → TheDescriptor slot (λ d. d.mode ≡ Rw)) → MayMiss s writes slot found piece → found ≡ NoDirectory
nothing_else s writes None found piece some went mode may = absurd went
nothing_else s writes (Some d) NoDirectory piece some went mode may = refl
nothing_else s writes (Some d) NoRight piece some went mode may =
    let there = mode may.1 in
    let is : d ≡ there.0 = same_Some d there.0 there.1 in
    let both : R ≡ Rw = sym may.2 ∙ ap (λ (x : Descriptor). x.mode) is ∙ there.2 in
    absurd (let no : ⊥ = cc in no)
nothing_else s writes (Some d) NoEntry piece some went mode may =
    let within : BLOCK_SIZE * piece.index + piece.range.hi ≤ d.known = direct-within d.how d.known (piece_end piece) went in
    let absent : d.known ≤ BLOCK_SIZE * piece.index = may.2 in
    absurd (omega arith)
nothing_else s writes (Some d) (Beyond limit) piece some went mode may =
    let within : BLOCK_SIZE * piece.index + piece.range.hi ≤ d.known = direct-within d.how d.known (piece_end piece) went in
    let below : limit < piece.range.hi = may.3 in
    let short : d.known ≤ BLOCK_SIZE * piece.index + limit = may.5 in
    absurd (omega arith)

-- a call that writes and is no raw command is a write
write_mode : (s : Store) (call : Call) (at : At) → is_raw call ≡ false → does_write call ≡ true →
    ((fd off : ℕ) (bytes : List ℕ) → call ≡ Write fd off bytes → MayWriteAt s at.process fd) →
    TheDescriptor (descriptor_of s (place_in s call at)) (λ d. d.mode ≡ Rw)
write_mode s (Write fd off bytes) at raw writes may = may fd off bytes refl
write_mode s (RawWrite address lo bytes) at raw writes may = absurd (false≢true (sym raw))
write_mode s call at raw writes may = absurd (false≢true writes)

pub pieces_miss_nothing_else : PiecesMissNothingElse
pieces_miss_nothing_else v script before s call at number found next raw =
    let e = Missed at number found in
    let p = place_in s call at in
    let went : ThePiece p number (WentDirect (descriptor_of s p)) =
    subst (λ (b : Bool). RawOrNot b (Unit {0}) (ThePiece p number (WentDirect (descriptor_of s p)))) raw (next.keeps RightWay) in
    let missed = next.keeps Rights in
    let same : went.0 ≡ missed.0 = same_Some went.0 missed.0 (sym went.1 ∙ missed.1) in
    let in_block = piece_of_call-in_block call number missed.0 (is_call script at call next.history.limits next.call_is) missed.1 in
    let some : missed.0.range.lo < missed.0.range.hi = in_block.some in
    nothing_else s (does_write call) (descriptor_of s p) found missed.0 (omega arith) (subst (WentDirect (descriptor_of s p)) same went.2)
    (λ writes.
    write_mode s call at raw writes
    (λ fd off bytes is. next_may_write v script before s call e fd off bytes next (writes_may_write v script before s next.history) is refl))
    missed.2
