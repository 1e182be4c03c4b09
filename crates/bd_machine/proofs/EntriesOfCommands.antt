-- The commands that a process submits: each is of a piece within a file, by a descriptor that there is.
use Rattle.std.proofs.Common.{◌≡◌, ℕ, ◌+◌, ◌*◌, ◌<◌, ◌≤◌, Bool, true, false, not, ◌||◌, ◌&&◌, List, [], ◌∷◌, ◌++◌, length, Option, None, Some, refl, sym, ap, ◌∙◌, subst, arith, ⊎_elim}
use Rattle.std.specs.Prelude.{nat_lt, slice_index_or}
use Rattle.std.specs.Option.{option_map_or}
use Rattle.std.proofs.lemmas.Bool.{and_parts, both_ways, cases_lt, false≢true, lt-ltb}
use Rattle.std.proofs.lemmas.Option.{none-some, same_Some}
use Rattle.bd_base.specs.declared.journal.At.{At}
use Rattle.bd_base.specs.declared.limits.TheConstants.{BLOCK_SIZE, DESCRIPTORS, FILE_BLOCKS, FILE_SIZE}
use Rattle.bd_base.specs.declared.script.Call.{Call}
use Rattle.bd_base.specs.declared.script.Call.TheVariants.{RawRead, RawWrite}
use Rattle.bd_base.specs.declared.script.How.{How}
use Rattle.bd_base.specs.declared.script.How.TheVariants.{Plain, Direct}
use Rattle.bd_base.specs.declared.script.Script.{Script}
use Rattle.bd_base.specs.declared.volume.Inode.{Inode}
use Rattle.bd_base.specs.declared.volume.Volume.{Volume}
use Rattle.bd_base.specs.Pieces.{Piece}
use Rattle.bd_base.specs.Scripts.{IsCall}
use Rattle.bd_base.proofs.Ranges.{find-range_lowest}
use Rattle.bd_entry.specs.declared.act.Act.TheVariants as acts
use Rattle.bd_entry.specs.declared.entry.Entry.{Entry}
use Rattle.bd_entry.specs.declared.entry.Entry.TheVariants.{Access, Attached, Cleared, Closed, Detached, Opened, Sized}
use Rattle.bd_entry.specs.Actions.{is_for_device, is_untouched, next_act}
use Rattle.bd_entry.specs.Calls.{Place, at_of, fd_of, fd_of_address, fd_of_call, is_ended_by, piece_end, piece_of_call, pieces_of_call, raw_piece}
use Rattle.bd_entry.specs.Effects.{after_access, after_call, after_change, after_telling, attach, clear, detach, effect_of, new_descriptor, tells_size, with_descriptor_of_call, with_known_size, with_size, with_told_size}
use Rattle.bd_entry.specs.Laws.{IsHistory, IsNextOf}
use Rattle.bd_entry.specs.Refusals.{descriptor_of, goes_direct}
use Rattle.bd_entry.specs.Rules.{place_in}
use Rattle.bd_entry.specs.Store.{Descriptor, Store, Valid, descriptor_at, file_in, in_slot, is_plain, size_in, slots_of, with_descriptor, with_work, work_of}
use Rattle.bd_entry.proofs.CallPieces.{piece_of_call-in_block}
use Rattle.bd_entry.proofs.Descriptors.{changed_slot}
use Rattle.bd_entry.proofs.DescriptorSteps.{access_opens, change-cases, sized_opens, slot-set_cases}
use Rattle.bd_entry.proofs.EffectsOnFiles.{effect_of-files}
use Rattle.bd_entry.proofs.Histories.{history-push, history_holds}
use Rattle.bd_entry.proofs.HistoryLaws.{histories_keep_valid, is_call}
use Rattle.bd_entry.proofs.KnownSizes.{none_open_at_start}
use Rattle.bd_entry.proofs.NextActs.{map_or_from, then_from}
use Rattle.bd_entry.proofs.Slots.{row_within, slot_within}
use Rattle.bd_turns.specs.Processors.{running_of}
use Rattle.bd_turns.specs.Reached.{IsReached}
use Rattle.bd_turns.specs.State.{State, holder_of, running}
use Rattle.bd_turns.proofs.NextRevocations.{next_submits}
use Rattle.bd_turns.proofs.RunningPlaces.{runs_at}

-- the sizes that a descriptor was told are those that a file may have
pub record SizesFit (d : Descriptor) : Type 0 where
  pub known : d.known ≤ FILE_SIZE
  pub told : d.told ≤ FILE_SIZE

-- so are those of each descriptor
pub record AllFit (s : Store) : Type 0 where
  pub at : (process fd : ℕ) (d : Descriptor) → descriptor_at s process fd ≡ Some d → SizesFit d

-- the files of a store are no larger than a file may be
abbrev FilesFit : Store → Type 0
FilesFit s = (file : ℕ) → size_in s file ≤ FILE_SIZE

files_fit : (s : Store) → Valid s → FilesFit s
files_fit s valid file = by (file_in s file) refl
  where
    by : (slot : Option Inode) → file_in s file ≡ slot → size_in s file ≤ FILE_SIZE
    by None none = rw none (omega arith)
    by (Some f) there = rw there (valid.volume.files.valid.each file f there).size_in_range

-- ---- one descriptor changes

same_fit : (s t : Store) → t.opens ≡ s.opens → AllFit s → AllFit t
same_fit s t same fit = record {
  at = λ process fd d is.
      fit.at process fd d
      (ap (λ (opens : List (List (Option Descriptor))). in_slot (slice_index_or opens process []) fd) (sym same) ∙ is);
}

changed_fit : (s : Store) (p f : ℕ) (change : Descriptor → Descriptor) → ((d : Descriptor) → SizesFit d → SizesFit (change d)) →
    AllFit s → AllFit (with_descriptor s p f change)
changed_fit s p f change keeps fit = record {
  at = λ process fd d is.
      ⊎_elim
      (λ same. fit.at process fd d (sym same ∙ is))
      (λ new.
      let from = changed_slot change (descriptor_at s process fd) d (sym new.2 ∙ is) in
      subst SizesFit from.2 (keeps from.0 (fit.at process fd from.0 from.1)))
      (change-cases s p f change process fd);
}

of_call_fit : (s : Store) (p : ℕ) (of : Option ℕ) (change : Descriptor → Descriptor) → ((d : Descriptor) → SizesFit d → SizesFit (change d)) →
    AllFit s → AllFit (with_descriptor_of_call s p of change)
of_call_fit s p None change keeps fit = fit
of_call_fit s p (Some f) change keeps fit = changed_fit s p f change keeps fit

-- ---- an entry

change_fits : (s : Store) (e : Entry) → AllFit s → AllFit (after_change s e)
change_fits s (Opened at file f mode how) fit = record {
  at = λ process fd d is.
      ⊎_elim
      (λ same. fit.at process fd d (sym same ∙ is))
      (λ new.
      let opened : Descriptor = record { file = file; mode = mode; how = how; attached = []; cleared = []; known = 0; told = 0 } in
      let it : opened ≡ d = same_Some opened d (sym new.2 ∙ is) in
      let known : 0 ≡ d.known = ap (λ (x : Descriptor). x.known) it in
      let told : 0 ≡ d.told = ap (λ (x : Descriptor). x.told) it in
      record { known = omega arith; told = omega arith })
      (slot-set_cases s at.process f (new_descriptor (Opened at file f mode how)) process fd);
}
change_fits s (Attached at f part) fit =
    changed_fit s at.process f (attach part) (λ d fits. record { known = fits.known; told = fits.told }) fit
change_fits s (Cleared at owner f part) fit =
    changed_fit s owner f (clear part) (λ d fits. record { known = fits.known; told = fits.told }) fit
change_fits s (Detached at owner f part) fit =
    changed_fit s owner f (detach part) (λ d fits. record { known = fits.known; told = fits.told }) fit
change_fits s (Closed at f) fit = record {
  at = λ process fd d is.
      ⊎_elim
      (λ same. fit.at process fd d (sym same ∙ is))
      (λ new. absurd (none-some d (sym new.2 ∙ is)))
      (slot-set_cases s at.process f None process fd);
}
change_fits s (Access at piece f file index block range wrote way bytes) fit =
    same_fit s (after_access s wrote block range.lo bytes) (access_opens s wrote block range.lo bytes) fit
change_fits s (Sized at f size) fit =
    same_fit s (option_map_or (λ (d : Descriptor). with_size s d.file size) (descriptor_at s at.process f) s)
    (sized_opens s size (descriptor_at s at.process f)) fit
change_fits s e fit = same_fit s (after_change s e) refl fit

telling_fits : (tells : Bool) (s : Store) (p : ℕ) (of : Option ℕ) → FilesFit s → AllFit s → AllFit (after_telling tells s p of)
telling_fits true s p of files fit =
    of_call_fit s p of (with_told_size s) (λ d fits. record { known = fits.known; told = files d.file }) fit
telling_fits false s p of files fit = fit

call_fits : (ends : Bool) (s : Store) (p : ℕ) (of : Option ℕ) (entries : List Entry) → AllFit s → AllFit (after_call ends s p of entries)
call_fits true s p of entries fit =
    of_call_fit (with_work s p []) p of with_known_size (λ d fits. record { known = fits.told; told = fits.told })
    (same_fit s (with_work s p []) refl fit)
call_fits false s p of entries fit = same_fit s (with_work s p entries) refl fit

entry_fits : (v : Volume) (script : Script) (before : List Entry) (s : Store) (call : Call) (e : Entry) → IsNextOf v script before s call e →
    AllFit s → AllFit (effect_of s (place_in s call (at_of e)) e)
entry_fits v script before s call e next fit =
    let p = (at_of e).process in
    let entries = work_of s p ++ e ∷ [] in
    let of = fd_of_call call entries in
    let changed = after_change s e in
    let t = effect_of s (place_in s call (at_of e)) e in
    let valid : Valid t =
    histories_keep_valid v script (before ++ e ∷ []) t (history-push v script before s call e next) in
    let same : t.files ≡ changed.files = (effect_of-files s (place_in s call (at_of e)) e).files in
    let files : FilesFit changed = λ file.
    subst (λ (files : List (Option Inode)). size_in (record changed { files = files }) file ≤ FILE_SIZE) same (files_fit t valid file) in
    call_fits (is_ended_by call entries) (after_telling (tells_size e) changed p of) p of entries
    (telling_fits (tells_size e) changed p of files (change_fits s e fit))

-- the sizes of each descriptor are those that a file may have
pub sizes_fit : (v : Volume) (script : Script) (journal : List Entry) (s : Store) → IsHistory v script journal s → AllFit s
sizes_fit v script journal s history =
    history_holds v script (λ before s. AllFit s)
    (record { at = λ process fd d is. absurd (none-some d (sym (none_open_at_start v script process fd) ∙ is)) })
    (entry_fits v script) journal s history

-- ---- what is submitted

-- the command of a piece that a process submits is that of a piece within a file, by a descriptor that there is
pub record SubmitsPiece (p : Place) (piece : ℕ) : Type 0 where
  pub within : IsCall p.call
  pub fd : ℕ
  pub fd_is : fd_of p ≡ Some fd
  pub fd_fits : fd < DESCRIPTORS
  pub cut : Piece
  pub cut_is : piece_of_call p.call piece ≡ Some cut
  pub index : cut.index < FILE_BLOCKS

-- a piece that goes to the device ends within the known size
direct_ends : (how : How) (known end : ℕ) → not (is_plain how || nat_lt known end) ≡ true → end ≤ known
direct_ends Plain known end direct = absurd (false≢true direct)
direct_ends Direct known end direct =
    ⊎_elim (λ above. absurd (both_ways (not (nat_lt known end)) (ap not (lt-ltb known end above)) direct)) (λ within. within) (cases_lt known end)

-- a piece of a read or a write that goes to the device
goes_submits : (s : Store) (p : Place) (piece : ℕ) → Valid s → AllFit s → IsCall p.call →
    option_map_or (λ d. option_map_or (goes_direct d) (piece_of_call p.call piece) false) (descriptor_of s p) false ≡ true →
    SubmitsPiece p piece
goes_submits s p piece valid fit within goes =
    ⊎_elim
    (λ open_one.
    let d = open_one.0 in
    ⊎_elim
    (λ cuts.
    let cut : Piece = cuts.0 in
    let by = then_from (descriptor_at s p.at.process) (fd_of p) d open_one.1 in
    let fd = by.0 in
    let row : p.at.process < length s.opens = row_within s.opens p.at.process fd d by.2 in
    let size : length (slots_of s p.at.process) ≡ DESCRIPTORS = valid.rows.slots p.at.process [] row in
    let there : fd < length (slots_of s p.at.process) = slot_within (slots_of s p.at.process) fd d by.2 in
    let block = piece_of_call-in_block p.call piece cut within cuts.1 in
    let some : cut.range.lo < cut.range.hi = block.some in
    let ends : BLOCK_SIZE * cut.index + cut.range.hi ≤ d.known = direct_ends d.how d.known (piece_end cut) cuts.2 in
    let most : d.known ≤ FILE_SIZE = (fit.at p.at.process fd d by.2).known in
    record {
      within = within;
      fd = fd;
      fd_is = by.1;
      fd_fits = omega arith;
      cut = cut;
      cut_is = cuts.1;
      index = omega arith;
    })
    (λ none. absurd (false≢true none.1))
    (map_or_from (goes_direct d) (piece_of_call p.call piece) false true open_one.2))
    (λ none. absurd (false≢true none.1))
    (map_or_from (λ d. option_map_or (goes_direct d) (piece_of_call p.call piece) false) (descriptor_of s p) false true goes)

-- a piece for the device
for_device_submits : (s : Store) (call : Call) (at : At) (before : List Entry) (piece : ℕ) → Valid s → AllFit s → IsCall call →
    let p : Place = record { call = call; at = at; before = before } in
    piece < length (pieces_of_call call) → is_for_device s p piece ≡ true → SubmitsPiece p piece
for_device_submits s (RawRead address range) at before piece valid fit within few device =
    let first : piece ≡ 0 = let one : piece < 1 = few in omega arith in
    let below : address < 32768 = within.0 in
    record {
      within = within;
      fd = fd_of_address address;
      fd_is = refl;
      fd_fits = omega arith;
      cut = raw_piece address range.lo range.hi;
      cut_is = rw first refl;
      index = omega arith;
    }
for_device_submits s (RawWrite address lo bytes) at before piece valid fit within few device =
    let first : piece ≡ 0 = let one : piece < 1 = few in omega arith in
    let below : address < 32768 = within.0 in
    record {
      within = within;
      fd = fd_of_address address;
      fd_is = refl;
      fd_fits = omega arith;
      cut = raw_piece address lo (lo + length bytes);
      cut_is = rw first refl;
      index = omega arith;
    }
for_device_submits s call at before piece valid fit within few device =
    goes_submits s (record { call = call; at = at; before = before }) piece valid fit within device

-- what a process submits next
pub submits_piece : (v : Volume) (m : State) (p : Place) (piece : ℕ) → IsReached v m → running m p.at.process ≡ Some p →
    next_act m.store (holder_of m) (running_of m p) ≡ Some (acts.Submit piece) → SubmitsPiece p piece
submits_piece v m p piece reached is next =
    let test : ℕ → Bool = λ number. is_for_device m.store p number && is_untouched (running_of m p) number in
    let found = find-range_lowest test 0 (length (pieces_of_call p.call)) piece
    (next_submits m.store (holder_of m) (running_of m p) piece next).found in
    let few : piece < length (pieces_of_call p.call) = let to = found.to in omega arith in
    for_device_submits m.store p.call p.at p.before piece reached.sound.calls.valid
    (sizes_fit v m.script m.journal m.store reached.history)
    (is_call m.script p.at p.call reached.sound.calls.limits (runs_at m p.at.process p is).called)
    few (and_parts (is_for_device m.store p piece) (is_untouched (running_of m p) piece) found.passes).0
