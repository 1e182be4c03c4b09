-- A step of a running call keeps a store valid, and the store of a sound volume with nothing open is valid.
use Rattle.std.proofs.Common.{◌≡◌, ◌≢◌, ℕ, ◌<◌, ◌≤◌, Bool, true, false, List, [], ◌∷◌, ◌++◌, map, length, replicate, zero, suc, Option, None, Some, refl, sym, ap, ◌∙◌, subst, arith, ⊎_elim}
use Rattle.std.specs.Prelude.{nat_eq, slice_set}
use Rattle.std.specs.Option.{option_map}
use Rattle.std.specs.List.{list_any}
use Rattle.std.proofs.lemmas.Bool.{both_ways, cases_Bool, cases_eq, eq-eqb, false_from_ne_true, true_from_ne_false}
use Rattle.std.proofs.lemmas.List.{get_or-set_other, length-map, length-set}
use Rattle.std.proofs.lemmas.List.Elements.{All-map, All-weaker}
use Rattle.std.proofs.lemmas.Option.{none-some, same_Some}
use Rattle.bd_base.specs.declared.limits.TheConstants.{DESCRIPTORS, USERS}
use Rattle.bd_base.specs.declared.script.Call.{Call}
use Rattle.bd_base.specs.declared.script.Process.{Process}
use Rattle.bd_base.specs.Scripts.{IsCall, IsProcess}
use Rattle.bd_base.specs.Volumes.{IsSoundVolume}
use Rattle.bd_entry.specs.declared.entry.Entry.{Entry}
use Rattle.bd_entry.specs.declared.entry.Entry.TheVariants.{Attached}
use Rattle.bd_entry.specs.Calls.{at_of, fd_of_call, is_ended_by}
use Rattle.bd_entry.specs.Effects.{after_call, after_change, after_telling, effect_of, tells_size, with_known_size, with_told_size}
use Rattle.bd_entry.specs.Laws.{IsNextEntry, StartIsValid, StepKeepsValid}
use Rattle.bd_entry.specs.Rules.{EntryRule, FitsStore, IsOpen, NotRefused, place_in}
use Rattle.bd_entry.specs.Store.{Descriptor, HasRows, Store, Valid, attaches_by, descriptor_at, in_slot, size_at, volume_in, with_work, work_of}
use Rattle.bd_entry.proofs.CallEntries.{attaches_by-can_attach, attaches_by-fd_of_call, told_at_end}
use Rattle.bd_entry.proofs.CallWork.{after_change-work, after_telling-work}
use Rattle.bd_entry.proofs.ChangedStores.{HasSoundDescriptors, IsStaleBy, after_change-keeps, kept-with_descriptor}
use Rattle.bd_entry.proofs.Descriptors.{AreSound, all_sound, attaching, changed_slot, fresher, rows-set_slot, set_slot, slot_at, slot_at-set_slot, sound-changed, sound_all}
use Rattle.bd_entry.proofs.Slots.{none_before, none_joined, row_within, some_of}
use Rattle.bd_entry.proofs.SoundVolumes.{change_keeps_volume}

-- ---- the size that is told

-- what holds of a store but for its volume holds after the size is told
after_telling-keeps : (tells : Bool) (c : Store) (process : ℕ) (fd : Option ℕ) (stale : ℕ → ℕ → Bool) → HasSoundDescriptors c stale →
    HasSoundDescriptors (after_telling tells c process fd) stale
after_telling-keeps true c process None stale ready = ready
after_telling-keeps true c process (Some fd) stale ready =
    kept-with_descriptor c process fd (with_told_size c) stale (record { file = λ d. refl; plain = λ file d. refl }) ready
    (λ d e.
    let old = ready.sound.at process fd d e in
    record {
      of_file = old.of_file;
      ascending = old.ascending;
      cleared_ascending = old.cleared_ascending;
      parts = old.parts;
      cleared = old.cleared;
      sizes = λ some fresh. ((old.sizes some fresh).0, omega arith);
      direct = old.direct;
    })
after_telling-keeps false c process fd stale ready = ready

after_telling-volume : (tells : Bool) (c : Store) (process : ℕ) (fd : Option ℕ) → volume_in (after_telling tells c process fd) ≡ volume_in c
after_telling-volume true c process None = refl
after_telling-volume true c process (Some fd) = refl
after_telling-volume false c process fd = refl

-- the size that the call's descriptor was told last is at most the one of its file, where it is told here or its sizes are those of now
told_within : (tells : Bool) (c : Store) (process fd : ℕ) (stale : ℕ → ℕ → Bool) → HasSoundDescriptors c stale →
    (tells ≡ false → stale process fd ≡ false) →
    (d : Descriptor) → slot_at (after_telling tells c process (Some fd)).opens process fd ≡ Some d → d.attached ≢ [] →
    d.told ≤ size_at (after_telling tells c process (Some fd)).files d.file
told_within true c process fd stale ready fresh d e some =
    ⊎_elim
    (λ here.
    let old = changed_slot (with_told_size c) (descriptor_at c process fd) d here.2 in
    let told : size_at c.files old.0.file ≡ d.told = ap (λ (x : Descriptor). x.told) old.2 in
    let size : size_at c.files old.0.file ≡ size_at c.files d.file = ap (λ (x : Descriptor). size_at c.files x.file) old.2 in
    omega arith)
    (λ other. absurd (other.0 (refl, refl)))
    (slot_at-set_slot c.opens process fd (option_map (with_told_size c) (descriptor_at c process fd)) process fd d e)
told_within false c process fd stale ready fresh d e some = ((ready.sound.at process fd d e).sizes some (fresh refl)).1

-- ---- the end of a call

-- the entries of running calls where those of one are these
row-set : (work : List (List Entry)) (process : ℕ) (entries : List Entry) (fd : ℕ) → list_any (attaches_by fd) entries ≡ false →
    attaching (slice_set work process entries) process fd ≡ false
row-set [] process entries fd none = refl
row-set (row ∷ work) zero entries fd none = none
row-set (row ∷ work) (suc process) entries fd none = row-set work process entries fd none

-- a descriptor by which no entry of the ended call attached attaches afterwards only if it did before
ended-fresh : (work : List (List Entry)) (p : ℕ) (entries : List Entry) (process fd : ℕ) →
    (process ≡ p → list_any (attaches_by fd) entries ≡ false) →
    attaching (slice_set work p []) process fd ≡ false → attaching (slice_set work p entries) process fd ≡ false
ended-fresh work p entries process fd none fresh =
    ⊎_elim
    (λ same. subst (λ (n : ℕ). attaching (slice_set work p entries) n fd ≡ false) (sym same) (row-set work p entries fd (none same)))
    (λ differ.
    subst (λ (row : List Entry). list_any (attaches_by fd) row ≡ false)
    (get_or-set_other work p process [] [] differ ∙ sym (get_or-set_other work p process entries [] differ)) fresh)
    (cases_eq process p)

-- a store with other entries of a running call is valid, where it has sound descriptors
valid-with_work : (t : Store) (p : ℕ) (entries : List Entry) (stale : ℕ → ℕ → Bool) → IsSoundVolume (volume_in t) →
    HasSoundDescriptors t stale →
    ((process fd : ℕ) → attaching (slice_set t.work p entries) process fd ≡ false → stale process fd ≡ false) → Valid (with_work t p entries)
valid-with_work t p entries stale volume ready fresh = record {
  volume = volume;
  users = ready.users;
  rows = record { uids = ready.rows.uids; work = length-set t.work p entries ∙ ready.rows.work; slots = ready.rows.slots };
  descriptors = all_sound (with_work t p entries) (fresher t.files t.opens stale (attaching (slice_set t.work p entries)) ready.sound fresh);
}

-- a store is valid as a call ends
valid-ended : (t : Store) (p : ℕ) (fd : Option ℕ) (entries : List Entry) → IsSoundVolume (volume_in t) →
    HasSoundDescriptors t (attaching (slice_set t.work p entries)) →
    ((other : ℕ) → list_any (attaches_by other) entries ≡ true → fd ≡ Some other) →
    ((f : ℕ) → fd ≡ Some f → (d : Descriptor) → slot_at t.opens p f ≡ Some d → d.attached ≢ [] → d.told ≤ size_at t.files d.file) →
    Valid (after_call true t p fd entries)
valid-ended t p None entries volume ready attached told =
    valid-with_work t p [] (attaching (slice_set t.work p entries)) volume ready
    (λ process f. ended-fresh t.work p entries process f (λ same. false_from_ne_true _ (λ some. none-some f (attached f some))))
valid-ended t p (Some fd) entries volume ready attached told =
    let stale = attaching (slice_set t.work p entries) in
    let fresh = attaching (slice_set t.work p []) in
    let sound : AreSound t.files (set_slot t.opens p fd (option_map with_known_size (slot_at t.opens p fd))) fresh =
    sound-changed t.files t.opens p fd with_known_size (record { file = λ d. refl; plain = λ file d. refl }) stale fresh ready.sound
    (λ d e.
    let old = ready.sound.at p fd d e in
    record {
      of_file = old.of_file;
      ascending = old.ascending;
      cleared_ascending = old.cleared_ascending;
      parts = old.parts;
      cleared = old.cleared;
      sizes = λ some now. (told fd refl d e some, told fd refl d e some);
      direct = old.direct;
    })
    (λ process f other.
    ended-fresh t.work p entries process f
    (λ same. false_from_ne_true _ (λ some. other (same, sym (same_Some fd f (attached f some)))))) in
    record {
      volume = volume;
      users = ready.users;
      rows = record {
        uids = ready.rows.uids ∙ sym (length-set t.opens p _);
        work = length-set t.work p [] ∙ ready.rows.work ∙ sym (length-set t.opens p _);
        slots = rows-set_slot t.opens p fd (option_map with_known_size (slot_at t.opens p fd)) ready.rows.slots;
      };
      descriptors = all_sound (after_call true t p (Some fd) entries) sound;
    }

-- ---- a step

-- after an entry that attaches a right, the sizes of its descriptor may be those of another time
attaching-stale : (s : Store) (call : Call) (e : Entry) → HasRows s → ((rule : EntryRule) → FitsStore s (place_in s call (at_of e)) e rule) →
    IsStaleBy (attaching (slice_set s.work (at_of e).process (work_of s (at_of e).process ++ e ∷ []))) e
attaching-stale s call (Attached at fd part) rows keeps =
    let it = some_of (descriptor_at s at.process fd) (keeps IsOpen) in
    let is_process : at.process < length s.opens = row_within s.opens at.process fd it.0 it.1 in
    let has_work : at.process < length s.work = let same : length s.work ≡ length s.opens = rows.work in omega arith in
    true_from_ne_false _
    (λ fresh. both_ways (nat_eq fd fd) (none_joined (attaches_by fd) s.work at.process (Attached at fd part) has_work fresh) (eq-eqb fd fd refl))
attaching-stale s call entry rows keeps = tt

-- the store after an entry's own change and the size that it tells is valid once its call goes on or ends
valid-after_call : (s : Store) (call : Call) (e : Entry) → IsNextEntry s call e →
    ((rule : EntryRule) → FitsStore s (place_in s call (at_of e)) e rule) →
    let process = (at_of e).process in
    let entries = work_of s process ++ e ∷ [] in
    let fd = fd_of_call call entries in
    let t = after_telling (tells_size e) (after_change s e) process fd in
    HasSoundDescriptors (after_change s e) (attaching (slice_set s.work process entries)) → IsSoundVolume (volume_in t) →
    Valid (after_call (is_ended_by call entries) t process fd entries)
valid-after_call s call e next keeps changed volume =
    let p = (at_of e).process in
    let c = after_change s e in
    let entries = work_of s p ++ e ∷ [] in
    let fd = fd_of_call call entries in
    let stale = attaching (slice_set s.work p entries) in
    let t = after_telling (tells_size e) c p fd in
    let work : t.work ≡ s.work = after_telling-work (tells_size e) c p fd ∙ after_change-work s e in
    let ready : HasSoundDescriptors t stale = after_telling-keeps (tells_size e) c p fd stale changed in
    ⊎_elim
    (λ ended.
    let told_or_fresh = λ (f : ℕ) (untold : tells_size e ≡ false). fresh_or_told f ended untold in
    subst (λ (b : Bool). Valid (after_call b t p fd entries)) (sym ended)
    (valid-ended t p fd entries volume (subst (λ (w : List (List Entry)). HasSoundDescriptors t (attaching (slice_set w p entries))) (sym work) ready)
    (λ other some. attaches_by-fd_of_call (record { call = call; at = at_of e; before = [] }) entries other next.of_call some)
    (λ f is.
    subst (λ (o : Option ℕ). (d : Descriptor) → slot_at (after_telling (tells_size e) c p o).opens p f ≡ Some d → d.attached ≢ [] →
    d.told ≤ size_at (after_telling (tells_size e) c p o).files d.file) (sym is)
    (told_within (tells_size e) c p f stale changed (told_or_fresh f)))))
    (λ running.
    subst (λ (b : Bool). Valid (after_call b t p fd entries)) (sym running)
    (valid-with_work t p entries stale volume ready
    (λ process f fresh. subst (λ (w : List (List Entry)). attaching (slice_set w p entries) process f ≡ false) work fresh)))
    (cases_Bool (is_ended_by call entries))
  where
    fresh_or_told : (f : ℕ) → is_ended_by call (work_of s (at_of e).process ++ e ∷ []) ≡ true → tells_size e ≡ false →
        attaching (slice_set s.work (at_of e).process (work_of s (at_of e).process ++ e ∷ [])) (at_of e).process f ≡ false
    fresh_or_told f ended untold =
        let entries = work_of s (at_of e).process ++ e ∷ [] in
        ⊎_elim
        (λ some.
        let can = attaches_by-can_attach (record { call = call; at = at_of e; before = [] }) entries f next.of_call some in
        absurd (both_ways (tells_size e) untold
        (told_at_end s call (at_of e) (work_of s (at_of e).process) e f can next.unfinished ended some (keeps NotRefused))))
        (λ none. row-set s.work (at_of e).process entries f none)
        (cases_Bool (list_any (attaches_by f) entries))

keeps-valid : (s : Store) (call : Call) (e : Entry) → Valid s → IsCall call → IsNextEntry s call e →
    ((rule : EntryRule) → FitsStore s (place_in s call (at_of e)) e rule) → Valid (effect_of s (place_in s call (at_of e)) e)
keeps-valid s call e valid is_call next keeps =
    let p = (at_of e).process in
    let entries = work_of s p ++ e ∷ [] in
    let stale = attaching (slice_set s.work p entries) in
    let before : HasSoundDescriptors s stale =
    record {
      users = valid.users;
      rows = valid.rows;
      sound =
          fresher s.files s.opens (attaching s.work) stale (sound_all s valid.descriptors)
          (λ process f fresh. none_before (attaches_by f) s.work p e process fresh);
    } in
    let changed = after_change-keeps s call e stale before (attaching-stale s call e valid.rows keeps) keeps in
    let volume =
    subst IsSoundVolume (sym (after_telling-volume (tells_size e) (after_change s e) p (fd_of_call call entries)))
    (change_keeps_volume s call e valid is_call next keeps) in
    valid-after_call s call e next keeps changed volume

pub step_keeps_valid : StepKeepsValid
step_keeps_valid s call e t valid is_call next step = subst Valid (sym step.after) (keeps-valid s call e valid is_call next step.keeps)

-- ---- the start

-- an empty row has no descriptor
none_in_empty : (n k : ℕ) (d : Descriptor) → in_slot (replicate n None) k ≡ Some d → ⊥
none_in_empty zero k d e = none-some d e
none_in_empty (suc n) zero d e = none-some d e
none_in_empty (suc n) (suc k) d e = none_in_empty n k d e

abbrev empty_row : Process → List (Option Descriptor)
empty_row p = replicate DESCRIPTORS None

none_at_start : (processes : List Process) (process fd : ℕ) (d : Descriptor) → slot_at (map empty_row processes) process fd ≡ Some d → ⊥
none_at_start [] process fd d e = none-some d e
none_at_start (p ∷ processes) zero fd d e = none_in_empty DESCRIPTORS fd d e
none_at_start (p ∷ processes) (suc process) fd d e = none_at_start processes process fd d e

pub start_is_valid : StartIsValid
start_is_valid v script volume limits = record {
  volume = volume;
  users =
      All-map (λ (uid : ℕ). uid < USERS) (λ (p : Process). p.uid) script.processes
      (All-weaker IsProcess (λ (p : Process). p.uid < USERS) (λ p is. is.uid) script.processes limits.processes);
  rows = record {
    uids = length-map script.processes (λ (p : Process). p.uid) ∙ sym (length-map script.processes empty_row);
    work = length-map script.processes (λ (p : Process). []) ∙ sym (length-map script.processes empty_row);
    slots = All-map (λ (row : List (Option Descriptor)). length row ≡ DESCRIPTORS) empty_row script.processes (λ k d lt. refl);
  };
  descriptors = λ process fd d e. absurd (none_at_start script.processes process fd d e);
}
