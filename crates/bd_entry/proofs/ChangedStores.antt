-- The users, the rows and the descriptors of a valid store after an entry's own change.
use Rattle.std.proofs.Common.{◌≡◌, ◌≢◌, ℕ, ◌<◌, Bool, true, false, not, List, [], Option, None, Some, refl, sym, ap, ◌∙◌, subst, arith}
use Rattle.std.specs.Prelude.{nat_eq, All, IsSome, IsTrue}
use Rattle.std.specs.Option.{option_and_then, option_map, option_map_or}
use Rattle.std.proofs.lemmas.Bool.{and_left, and_right, eq-eqb, false≢true, ne_eqb}
use Rattle.std.proofs.lemmas.List.{length-set}
use Rattle.std.proofs.lemmas.List.Elements.{All-nil}
use Rattle.std.proofs.lemmas.List.Quantifiers.{position-Some}
use Rattle.std.proofs.lemmas.Option.{none-some, same_Some}
use Rattle.bd_base.specs.declared.limits.TheConstants.{USERS}
use Rattle.bd_base.specs.declared.script.Call.{Call}
use Rattle.bd_base.specs.declared.script.Call.TheVariants.{Enter, Unlink}
use Rattle.bd_base.specs.declared.script.How.{How}
use Rattle.bd_base.specs.declared.script.How.TheVariants.{Plain, Direct}
use Rattle.bd_base.specs.declared.script.Mode.{Mode}
use Rattle.bd_base.specs.declared.volume.Inode.{Inode}
use Rattle.bd_base.specs.declared.journal.At.{At}
use Rattle.bd_base.specs.Inodes.{has_name, id_of, inode_at}
use Rattle.bd_base.proofs.Ranges.{find-range_lowest}
use Rattle.bd_entry.specs.declared.entry.Entry.{Entry}
use Rattle.bd_entry.specs.declared.entry.Entry.TheVariants.{Access, Attached, Cleared, Closed, Created, Detached, Extended, Opened, Released, Sized, Unlinked}
use Rattle.bd_entry.specs.Calls.{Place, fd_of}
use Rattle.bd_entry.specs.Effects.{after_access, after_change, attach, clear, detach, new_descriptor, with_size}
use Rattle.bd_entry.specs.Refusals.{descriptor_of, file_of, file_of_call}
use Rattle.bd_entry.specs.Rules.{NoPlain, RightFile, Rights, WithinLimit, place_in}
use Rattle.bd_entry.specs.RulesOfRights.{NoRightsWherePlain, TheDescriptor}
use Rattle.bd_entry.specs.Store.{Descriptor, HasRows, Store, descriptor_at, file_in, has_part, is_plain_of, parts_in, with_descriptor, with_slot}
use Rattle.bd_entry.proofs.Descriptors.{AreSound, IsSound, KeepsFile, SparesRights, any_plain, none_at, none_attached, none_open, rows-set_slot, rights-on, sound-changed, sound-files, sound-set_slot}
use Rattle.bd_entry.proofs.StayingFiles.{LeavesThere, file_stays_there, file_with_rights_stays}
use Rattle.bd_entry.proofs.SoundVolumes.{KeepsAll}
use Rattle.bd_entry.proofs.Holders.{is_some-first_holder}
use Rattle.bd_entry.proofs.PartSets.{All-with_part, All-without_part, has_part-with_part, increasing-with_part, increasing-without_part, without_part-within}

-- what a store is but for its volume, where the sizes of these descriptors may be those of another time
pub record HasSoundDescriptors (s : Store) (stale : ℕ → ℕ → Bool) : Type 0 where
  pub users : All (λ uid. uid < USERS) s.uids
  pub rows : HasRows s
  pub sound : AreSound s.files s.opens stale

-- so it is after a slot is changed
pub kept-with_slot : (s : Store) (p f : ℕ) (slot : Option Descriptor) (stale : ℕ → ℕ → Bool) → HasSoundDescriptors s stale →
    SparesRights s.opens slot →
    ((d : Descriptor) → slot ≡ Some d → IsSound s.files s.opens (stale p f) d) → HasSoundDescriptors (with_slot s p f slot) stale
kept-with_slot s p f slot stale ready spares sound = record {
  users = ready.users;
  rows = rows-with_slot s p f slot ready.rows;
  sound = sound-set_slot s.files s.opens p f slot stale stale ready.sound spares sound (λ process fd other fresh. fresh);
}
  where
    rows-with_slot : (s : Store) (p f : ℕ) (slot : Option Descriptor) → HasRows s → HasRows (with_slot s p f slot)
    rows-with_slot s p f slot rows = record {
      uids = rows.uids ∙ sym (length-set s.opens p _);
      work = rows.work ∙ sym (length-set s.opens p _);
      slots = rows-set_slot s.opens p f slot rows.slots;
    }

-- after a descriptor is changed
pub kept-with_descriptor : (s : Store) (p f : ℕ) (change : Descriptor → Descriptor) (stale : ℕ → ℕ → Bool) → KeepsFile change →
    HasSoundDescriptors s stale →
    ((d : Descriptor) → descriptor_at s p f ≡ Some d → IsSound s.files s.opens (stale p f) (change d)) →
    HasSoundDescriptors (with_descriptor s p f change) stale
kept-with_descriptor s p f change stale keeps ready sound = record {
  users = ready.users;
  rows = record {
    uids = ready.rows.uids ∙ sym (length-set s.opens p _);
    work = ready.rows.work ∙ sym (length-set s.opens p _);
    slots = rows-set_slot s.opens p f (option_map change (descriptor_at s p f)) ready.rows.slots;
  };
  sound = sound-changed s.files s.opens p f change keeps stale stale ready.sound sound (λ process fd other fresh. fresh);
}

-- and with other files and bytes, for which the descriptors are sound
kept-with_files : (s : Store) (files : List (Option Inode)) (bytes : List ℕ) (stale : ℕ → ℕ → Bool) → HasSoundDescriptors s stale →
    AreSound files s.opens stale → HasSoundDescriptors (record s { files = files; bytes = bytes }) stale
kept-with_files s files bytes stale ready sound = record {
  users = ready.users;
  rows = record { uids = ready.rows.uids; work = ready.rows.work; slots = ready.rows.slots };
  sound = sound;
}

-- what holds of the descriptor holds of this one, which is the same
pub of_descriptor : (slot : Option Descriptor) (Holds : Descriptor → Type 0) (d : Descriptor) → TheDescriptor slot Holds → slot ≡ Some d → Holds d
of_descriptor slot Holds d the is = subst Holds (same_Some the.0 d (sym the.1 ∙ is)) the.2

-- ---- files

-- a file that a name finds is there
id_of-there : (files : List (Option Inode)) (name : List ℕ) (file : ℕ) → id_of name files ≡ Some file → IsSome (inode_at files file)
id_of-there files name file e = there (inode_at files file) (position-Some (has_name name) files file None e).1
  where
    there : (slot : Option Inode) → has_name name slot ≡ true → IsSome slot
    there None passes = absurd (false≢true passes)
    there (Some f) passes = refl

-- the file of a call is there
pub file_of-there : (s : Store) (p : Place) (stale : ℕ → ℕ → Bool) (file : ℕ) → AreSound s.files s.opens stale → file_of s p ≡ Some file →
    IsSome (file_in s file)
file_of-there s p stale file all e = by_call p.call (descriptor_of s p) (λ d is. there (fd_of p) d is) e
  where
    there : (fd : Option ℕ) (d : Descriptor) → option_and_then (descriptor_at s p.at.process) fd ≡ Some d → IsSome (inode_at s.files d.file)
    there None d is = absurd (none-some d is)
    there (Some fd) d is = (all.at p.at.process fd d is).of_file

    by_call : (call : Call) (slot : Option Descriptor) → ((d : Descriptor) → slot ≡ Some d → IsSome (inode_at s.files d.file)) →
        file_of_call s call slot ≡ Some file → IsSome (inode_at s.files file)
    by_call (Enter name mode how) slot of_slot named = id_of-there s.files name file named
    by_call (Unlink name) slot of_slot named = id_of-there s.files name file named
    by_call call None of_slot named = absurd (none-some file named)
    by_call call (Some d) of_slot named = subst (λ (id : ℕ). IsSome (inode_at s.files id)) (same_Some d.file file named) (of_slot d refl)

-- ---- the changes of each kind

-- descriptors are sound with the files after an entry that takes none of theirs away
sound-after_change : (s : Store) (call : Call) (e : Entry) (stale : ℕ → ℕ → Bool) → HasSoundDescriptors s stale → KeepsAll s call e →
    ((process fd : ℕ) (d : Descriptor) → descriptor_at s process fd ≡ Some d → LeavesThere d.file e) → AreSound (after_change s e).files s.opens stale
sound-after_change s call e stale ready keeps leaves = record {
  at = λ process fd d is.
      let sound = ready.sound.at process fd d is in
      let stays = λ (some : d.attached ≢ []). file_with_rights_stays s call e d.file keeps sound.of_file (rights-on s process fd d is some) in
      sound-files s.files (after_change s e).files s.opens (stale process fd) d sound
      (record {
        is_there = file_stays_there s call e d.file keeps sound.of_file (leaves process fd d is);
        size = λ some. (stays some).size;
        parts = λ some. (stays some).parts;
      });
}

kept-opened : (s : Store) (call : Call) (at : At) (file fd : ℕ) (mode : Mode) (how : How) (stale : ℕ → ℕ → Bool) → HasSoundDescriptors s stale →
    KeepsAll s call (Opened at file fd mode how) → HasSoundDescriptors (after_change s (Opened at file fd mode how)) stale
kept-opened s call at file fd mode how stale ready keeps =
    kept-with_slot s at.process fd (new_descriptor (Opened at file fd mode how)) stale ready
    (λ process f d e some. spares how (keeps Rights) process f d e some)
    (λ d is.
    subst (IsSound s.files s.opens (stale at.process fd)) (same_Some _ d is)
    (record {
      of_file = file_of-there s (place_in s call at) stale file ready.sound (keeps RightFile);
      ascending = λ k within. absurd (omega arith);
      cleared_ascending = λ k within. absurd (omega arith);
      parts = All-nil _;
      cleared = All-nil _;
      sizes = λ some fresh. absurd (some refl);
      direct = λ some. absurd (some refl);
    }))
  where
    spares : (how : How) → NoRightsWherePlain s how file → SparesRights s.opens (new_descriptor (Opened at file fd mode how))
    spares Direct none process f d e some = and_right (nat_eq file d.file) false refl
    spares Plain none process f d e some =
        and_left (nat_eq file d.file) true (ne_eqb file d.file (λ same. some (none_attached s.opens file process f d none e (sym same))))

kept-attached : (s : Store) (call : Call) (at : At) (fd part : ℕ) (stale : ℕ → ℕ → Bool) → HasSoundDescriptors s stale →
    stale at.process fd ≡ true →
    KeepsAll s call (Attached at fd part) → HasSoundDescriptors (after_change s (Attached at fd part)) stale
kept-attached s call at fd part stale ready is_stale keeps =
    kept-with_descriptor s at.process fd (attach part) stale (record { file = λ d. refl; plain = λ file d. refl }) ready
    (λ d e.
    let old = ready.sound.at at.process fd d e in
    let right = of_descriptor (descriptor_at s at.process fd) _ d (keeps Rights) e in
    let none : any_plain s.opens d.file ≡ false =
    sym (is_some-first_holder (is_plain_of d.file) 0 s.opens) ∙ of_descriptor (descriptor_at s at.process fd) _ d (keeps NoPlain) e in
    let lowest = find-range_lowest (λ q. not (has_part q d.attached)) 0 (parts_in s d.file) part right.0 in
    record {
      of_file = old.of_file;
      ascending = increasing-with_part part d.attached old.ascending;
      cleared_ascending = increasing-without_part part d.cleared old.cleared_ascending;
      parts = All-with_part (λ q. q < parts_in s d.file) part d.attached (omega arith) old.parts;
      cleared =
          λ k x within.
          has_part-with_part _ part d.attached (All-without_part (λ q. IsTrue (has_part q d.attached)) part d.cleared old.cleared k x within);
      sizes = λ some fresh. absurd (false≢true (sym fresh ∙ is_stale));
      direct = λ some. (is_direct d (none_at (is_plain_of d.file) s.opens at.process fd d none e), none);
    })
  where
    is_direct : (d : Descriptor) → is_plain_of d.file (Some d) ≡ false → d.how ≡ Direct
    is_direct d none =
        elim d.how as (λ h. is_plain_of d.file (Some (record d { how = h })) ≡ false → h ≡ Direct) [
          | Plain ↦ λ fails. absurd (false≢true (sym (rw (eq-eqb d.file d.file refl) at fails)))
          | Direct ↦ λ e. refl
        ] none

kept-cleared : (s : Store) (call : Call) (at : At) (owner fd part : ℕ) (stale : ℕ → ℕ → Bool) → HasSoundDescriptors s stale →
    KeepsAll s call (Cleared at owner fd part) → HasSoundDescriptors (after_change s (Cleared at owner fd part)) stale
kept-cleared s call at owner fd part stale ready keeps =
    kept-with_descriptor s owner fd (clear part) stale (record { file = λ d. refl; plain = λ file d. refl }) ready
    (λ d e.
    let old = ready.sound.at owner fd d e in
    let stands = (of_descriptor (descriptor_at s owner fd) _ d (keeps Rights) e).0 in
    record {
      of_file = old.of_file;
      ascending = old.ascending;
      cleared_ascending = increasing-with_part part d.cleared old.cleared_ascending;
      parts = old.parts;
      cleared = All-with_part (λ q. IsTrue (has_part q d.attached)) part d.cleared stands.attached old.cleared;
      sizes = old.sizes;
      direct = old.direct;
    })

kept-detached : (s : Store) (call : Call) (at : At) (owner fd part : ℕ) (stale : ℕ → ℕ → Bool) → HasSoundDescriptors s stale →
    HasSoundDescriptors (after_change s (Detached at owner fd part)) stale
kept-detached s call at owner fd part stale ready =
    kept-with_descriptor s owner fd (detach part) stale (record { file = λ d. refl; plain = λ file d. refl }) ready
    (λ d e.
    let old = ready.sound.at owner fd d e in
    let had =
    λ (some : (detach part d).attached ≢ []) (none : d.attached ≡ []).
    some (ap (λ (xs : List ℕ). (detach part (record d { attached = xs })).attached) none) in
    record {
      of_file = old.of_file;
      ascending = increasing-without_part part d.attached old.ascending;
      cleared_ascending = increasing-without_part part d.cleared old.cleared_ascending;
      parts = All-without_part (λ q. q < parts_in s d.file) part d.attached old.parts;
      cleared = without_part-within part d.cleared d.attached old.cleared;
      sizes = λ some fresh. old.sizes (had some) fresh;
      direct = λ some. old.direct (had some);
    })

kept-access : (s : Store) (wrote : Bool) (block : Option ℕ) (lo : ℕ) (bytes : List ℕ) (stale : ℕ → ℕ → Bool) → HasSoundDescriptors s stale →
    HasSoundDescriptors (after_access s wrote block lo bytes) stale
kept-access s true block lo bytes stale ready = record {
  users = ready.users;
  rows = record { uids = ready.rows.uids; work = ready.rows.work; slots = ready.rows.slots };
  sound = ready.sound;
}
kept-access s false block lo bytes stale ready = ready

kept-sized : (s : Store) (size : ℕ) (slot : Option Descriptor) (stale : ℕ → ℕ → Bool) → HasSoundDescriptors s stale →
    let t = option_map_or (λ (d : Descriptor). with_size s d.file size) slot s in
    AreSound t.files s.opens stale → HasSoundDescriptors t stale
kept-sized s size None stale ready sound = ready
kept-sized s size (Some d) stale ready sound = kept-with_files s _ _ stale ready sound

-- whether this entry attaches by the descriptor is told by its own process
abbrev pub IsStaleBy : (ℕ → ℕ → Bool) → Entry → Type 0
IsStaleBy stale (Attached at fd part) = stale at.process fd ≡ true
IsStaleBy stale entry = Unit {0}

-- what holds of a store but for its volume holds after the entry's own change
pub after_change-keeps : (s : Store) (call : Call) (e : Entry) (stale : ℕ → ℕ → Bool) → HasSoundDescriptors s stale → IsStaleBy stale e →
    KeepsAll s call e →
    HasSoundDescriptors (after_change s e) stale
after_change-keeps s call (Opened at file fd mode how) stale ready is_stale keeps = kept-opened s call at file fd mode how stale ready keeps
after_change-keeps s call (Created at file name perms) stale ready is_stale keeps =
    let e = Created at file name perms in
    kept-with_files s (after_change s e).files s.bytes stale ready (sound-after_change s call e stale ready keeps (λ process fd d is. tt))
after_change-keeps s call (Attached at fd part) stale ready is_stale keeps = kept-attached s call at fd part stale ready is_stale keeps
after_change-keeps s call (Cleared at owner fd part) stale ready is_stale keeps = kept-cleared s call at owner fd part stale ready keeps
after_change-keeps s call (Detached at owner fd part) stale ready is_stale keeps = kept-detached s call at owner fd part stale ready
after_change-keeps s call (Access at piece fd file index block range wrote way bytes) stale ready is_stale keeps =
    kept-access s wrote block range.lo bytes stale ready
after_change-keeps s call (Extended at file to block) stale ready is_stale keeps =
    let e = Extended at file to block in
    kept-with_files s (after_change s e).files (after_change s e).bytes stale ready (sound-after_change s call e stale ready keeps (λ process fd d is. tt))
after_change-keeps s call (Released at file index block) stale ready is_stale keeps =
    let e = Released at file index block in
    kept-with_files s (after_change s e).files s.bytes stale ready (sound-after_change s call e stale ready keeps (λ process fd d is. tt))
after_change-keeps s call (Sized at fd size) stale ready is_stale keeps =
    kept-sized s size (descriptor_at s at.process fd) stale ready (sound-after_change s call (Sized at fd size) stale ready keeps (λ process fd d is. tt))
after_change-keeps s call (Closed at fd) stale ready is_stale keeps =
    kept-with_slot s at.process fd None stale ready (λ process f d e some. refl) (λ d is. absurd (none-some d is))
after_change-keeps s call (Unlinked at file) stale ready is_stale keeps =
    let e = Unlinked at file in
    kept-with_files s (after_change s e).files s.bytes stale ready
    (sound-after_change s call e stale ready keeps (λ process fd d is same. none_open s.opens file process fd d (keeps WithinLimit).1 is (sym same)))
after_change-keeps s call entry stale ready is_stale keeps = ready
