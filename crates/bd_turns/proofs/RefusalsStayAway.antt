-- A call of which no refusal holds is still not refused after an entry that spares its file.
use Rattle.std.proofs.Common.{◌≡◌, ◌≢◌, ℕ, zero, suc, Bool, true, false, not, ◌||◌, List, [], ◌∷◌, ◌++◌, Option, None, Some, refl, sym, ap, ◌∙◌, ⊎_elim}
use Rattle.std.specs.Prelude.{is_some, nat_lt, slice_index_or, slice_set}
use Rattle.std.specs.Option.{option_and_then, option_map, option_map_or, option_or}
use Rattle.std.specs.List.{list_any}
use Rattle.std.proofs.lemmas.Bool.{false≢true, ne_eqb}
use Rattle.std.proofs.lemmas.Option.{none-some}
use Rattle.bd_base.specs.declared.limits.TheConstants.{FILE_SIZE}
use Rattle.bd_base.specs.declared.reason.Reason.{Reason}
use Rattle.bd_base.specs.declared.reason.Reason.TheVariants as reasons
use Rattle.bd_base.specs.declared.script.Call.{Call}
use Rattle.bd_base.specs.declared.script.Call.TheVariants.{Enter, Read, Write, Truncate, Unlink, Close}
use Rattle.bd_base.specs.declared.script.How.TheVariants as hows
use Rattle.bd_base.specs.declared.script.Mode.{Mode}
use Rattle.bd_base.specs.declared.script.Script.{Script}
use Rattle.bd_base.specs.declared.volume.Inode.{Inode}
use Rattle.bd_base.specs.declared.volume.Volume.{Volume}
use Rattle.bd_base.specs.Inodes.{id_of}
use Rattle.bd_base.specs.Policy.{open_denial, unlink_denial}
use Rattle.bd_base.proofs.FileLists.{none-from}
use Rattle.bd_entry.specs.declared.entry.Entry.{Entry}
use Rattle.bd_entry.specs.declared.entry.Entry.TheVariants.{Access, Attached, Cleared, Closed, Detached, Opened, Sized}
use Rattle.bd_entry.specs.Calls.{Place, at_of, fd_of_call, is_ended_by, is_opened}
use Rattle.bd_entry.specs.Effects.{after_access, after_call, after_change, after_telling, effect_of, tells_size, with_descriptor_of_call, with_size}
use Rattle.bd_entry.specs.Laws.{IsNextOf}
use Rattle.bd_entry.specs.NextEntries.{goes_by_name}
use Rattle.bd_entry.specs.Refusals.{denial, descriptor_refusal, file_of_call, first_refusal, is_read_only, reason_if, truncate_refusal, unlink_denial_of}
use Rattle.bd_entry.specs.Rules.{IsOpen, place_in}
use Rattle.bd_entry.specs.Store.{Descriptor, Holder, Store, descriptor_at, file_in, first_open, is_empty_slot, is_open_of, lowest_fd, slots_of, user_of, with_descriptor, with_slot, with_work}
use Rattle.bd_entry.proofs.DescriptorSteps.{access_opens, index_or-set_cases, is_close, sized_opens}
use Rattle.bd_entry.proofs.Holders.{is_some-first_holder, is_some-position}
use Rattle.bd_entry.proofs.NextActs.{map_or_from, open_descriptor, or_none}
use Rattle.bd_entry.proofs.SlotTests.{IgnoresSizes, Spares, none-after}
use Rattle.bd_entry.proofs.StayingFiles.{LeavesThere}
use Rattle.bd_turns.specs.Sound.{keeps_allowed}
use Rattle.bd_turns.proofs.FilesOfCalls.{RestsOnFile, StandsAs, descriptor_kept, file_stands, found_named, name_kept, store_after}

-- ---- users

of_call-uids : (s : Store) (p : ℕ) (of : Option ℕ) (change : Descriptor → Descriptor) → (with_descriptor_of_call s p of change).uids ≡ s.uids
of_call-uids s p None change = refl
of_call-uids s p (Some fd) change = refl

telling-uids : (tells : Bool) (s : Store) (p : ℕ) (of : Option ℕ) → (after_telling tells s p of).uids ≡ s.uids
telling-uids true s p of = of_call-uids s p of _
telling-uids false s p of = refl

call-uids : (ends : Bool) (s : Store) (p : ℕ) (of : Option ℕ) (entries : List Entry) → (after_call ends s p of entries).uids ≡ s.uids
call-uids true s p of entries = of_call-uids (with_work s p []) p of _
call-uids false s p of entries = refl

sized_uids : (s : Store) (size : ℕ) (slot : Option Descriptor) → (option_map_or (λ (d : Descriptor). with_size s d.file size) slot s).uids ≡ s.uids
sized_uids s size None = refl
sized_uids s size (Some d) = refl

access_uids : (s : Store) (wrote : Bool) (block : Option ℕ) (lo : ℕ) (bytes : List ℕ) → (after_access s wrote block lo bytes).uids ≡ s.uids
access_uids s true block lo bytes = refl
access_uids s false block lo bytes = refl

change-uids : (s : Store) (e : Entry) → (after_change s e).uids ≡ s.uids
change-uids s (Access at piece fd file index block range wrote way bytes) = access_uids s wrote block range.lo bytes
change-uids s (Sized at fd size) = sized_uids s size (descriptor_at s at.process fd)
change-uids s e = refl

-- no entry changes the users
pub effect_of-uids : (s : Store) (p : Place) (e : Entry) → (effect_of s p e).uids ≡ s.uids
effect_of-uids s p e =
    let entries = p.before ++ e ∷ [] in
    let of = fd_of_call p.call entries in
    let told = after_telling (tells_size e) (after_change s e) p.at.process of in
    call-uids (is_ended_by p.call entries) told p.at.process of entries
    ∙ telling-uids (tells_size e) (after_change s e) p.at.process of ∙ change-uids s e

pub user_kept : (s : Store) (call : Call) (e : Entry) (process : ℕ) → user_of (store_after s call e) process ≡ user_of s process
user_kept s call e process = ap (λ (uids : List ℕ). slice_index_or uids process 0) (effect_of-uids s (place_in s call (at_of e)) e)

-- ---- free descriptors

-- a list in which one element is replaced by one that passes as it does
any-set : {X : Type 0} (test : X → Bool) (xs : List X) (i : ℕ) (y none : X) → test y ≡ test (slice_index_or xs i none) →
    list_any test (slice_set xs i y) ≡ list_any test xs
any-set test [] i y none same = refl
any-set test (x ∷ xs) zero y none same = ap (λ (b : Bool). b || list_any test xs) same
any-set test (x ∷ xs) (suc i) y none same = ap (λ (b : Bool). test x || b) (any-set test xs i y none same)

-- whether the process has a free descriptor
abbrev has_free : Store → ℕ → Bool
has_free s process = list_any is_empty_slot (slots_of s process)

free-with_slot : (s : Store) (p f : ℕ) (slot : Option Descriptor) (q : ℕ) → (q ≡ p → is_empty_slot slot ≡ is_empty_slot (descriptor_at s p f)) →
    has_free (with_slot s p f slot) q ≡ has_free s q
free-with_slot s p f slot q same =
    let row = slice_set (slots_of s p) f slot in
    ⊎_elim
    (λ stays. ap (list_any is_empty_slot) stays)
    (λ new.
    ap (list_any is_empty_slot) new.1 ∙ any-set is_empty_slot (slots_of s p) f slot None (same new.0)
    ∙ ap (λ (n : ℕ). has_free s n) (sym new.0))
    (index_or-set_cases s.opens p row q [])

empty_changed : (change : Descriptor → Descriptor) (slot : Option Descriptor) → is_empty_slot (option_map change slot) ≡ is_empty_slot slot
empty_changed change None = refl
empty_changed change (Some d) = refl

free-changed : (s : Store) (p f : ℕ) (change : Descriptor → Descriptor) (q : ℕ) → has_free (with_descriptor s p f change) q ≡ has_free s q
free-changed s p f change q = free-with_slot s p f (option_map change (descriptor_at s p f)) q (λ same. empty_changed change (descriptor_at s p f))

free-of_call : (s : Store) (p : ℕ) (of : Option ℕ) (change : Descriptor → Descriptor) (q : ℕ) →
    has_free (with_descriptor_of_call s p of change) q ≡ has_free s q
free-of_call s p None change q = refl
free-of_call s p (Some fd) change q = free-changed s p fd change q

free-telling : (tells : Bool) (s : Store) (p : ℕ) (of : Option ℕ) (q : ℕ) → has_free (after_telling tells s p of) q ≡ has_free s q
free-telling true s p of q = free-of_call s p of _ q
free-telling false s p of q = refl

free-call : (ends : Bool) (s : Store) (p : ℕ) (of : Option ℕ) (entries : List Entry) (q : ℕ) → has_free (after_call ends s p of entries) q ≡ has_free s q
free-call true s p of entries q = free-of_call (with_work s p []) p of _ q
free-call false s p of entries q = refl

-- free descriptors stay where the entry neither opens nor closes one of the process
free-change : (s : Store) (e : Entry) (q : ℕ) → (is_opened e ≡ true → q ≢ (at_of e).process) → (is_close e ≡ true → q ≢ (at_of e).process) →
    has_free (after_change s e) q ≡ has_free s q
free-change s (Opened at file fd mode how) q opens closes = free-with_slot s at.process fd _ q (λ same. absurd (opens refl same))
free-change s (Attached at fd part) q opens closes = free-changed s at.process fd _ q
free-change s (Cleared at owner fd part) q opens closes = free-changed s owner fd _ q
free-change s (Detached at owner fd part) q opens closes = free-changed s owner fd _ q
free-change s (Closed at fd) q opens closes = free-with_slot s at.process fd None q (λ same. absurd (closes refl same))
free-change s (Access at piece fd file index block range wrote way bytes) q opens closes =
    ap (λ (opened : List (List (Option Descriptor))). list_any is_empty_slot (slice_index_or opened q [])) (access_opens s wrote block range.lo bytes)
free-change s (Sized at fd size) q opens closes =
    ap (λ (opened : List (List (Option Descriptor))). list_any is_empty_slot (slice_index_or opened q [])) (sized_opens s size (descriptor_at s at.process fd))
free-change s e q opens closes = refl

pub free_kept : (s : Store) (call : Call) (e : Entry) (q : ℕ) → (is_opened e ≡ true → q ≢ (at_of e).process) → (is_close e ≡ true → q ≢ (at_of e).process) →
    is_some (lowest_fd (store_after s call e) q) ≡ is_some (lowest_fd s q)
free_kept s call e q opens closes =
    let p = place_in s call (at_of e) in
    let entries = p.before ++ e ∷ [] in
    let of = fd_of_call call entries in
    let told = after_telling (tells_size e) (after_change s e) p.at.process of in
    is_some-position is_empty_slot (slots_of (store_after s call e) q)
    ∙ free-call (is_ended_by call entries) told p.at.process of entries q
    ∙ free-telling (tells_size e) (after_change s e) p.at.process of q
    ∙ free-change s e q opens closes
    ∙ sym (is_some-position is_empty_slot (slots_of s q))

-- ---- files that nobody has open

-- the entry does not open the file
abbrev pub LeavesUnopened : ℕ → Entry → Type 0
LeavesUnopened file (Opened at other fd mode how) = other ≢ file
LeavesUnopened file e = Unit {0}

open-ignores : (file : ℕ) → IgnoresSizes (is_open_of file)
open-ignores file = record { none = refl; known = λ d size. refl; told = λ d size. refl }

spares_open : (s : Store) (e : Entry) (file : ℕ) → LeavesUnopened file e → Spares (is_open_of file) s e
spares_open s (Opened at other fd mode how) file leaves = ne_eqb other file leaves
spares_open s (Attached at fd part) file leaves = λ d is fails. fails
spares_open s (Cleared at owner fd part) file leaves = λ d is fails. fails
spares_open s (Detached at owner fd part) file leaves = λ d is fails. fails
spares_open s e file leaves = tt

unopened_kept : (s : Store) (call : Call) (e : Entry) (file : ℕ) → LeavesUnopened file e → first_open s file ≡ None →
    first_open (store_after s call e) file ≡ None
unopened_kept s call e file leaves none =
    let t = store_after s call e in
    none-from (first_open t file)
    (is_some-first_holder (is_open_of file) 0 t.opens
    ∙ none-after (is_open_of file) s (place_in s call (at_of e)) e (open-ignores file) (spares_open s e file leaves)
    (sym (is_some-first_holder (is_open_of file) 0 s.opens) ∙ ap is_some none))

-- ---- refusals

module _ (v : Volume) (script : Script) (journal : List Entry) (s : Store) (call : Call) (e : Entry) (next : IsNextOf v script journal s call e) where
  abbrev t : Store
  t = store_after s call e

  -- the policy allows what it allowed
  denial_kept : (process file : ℕ) (mode : Mode) (f : Inode) → file_in s file ≡ Some f → StandsAs f (file_in t file) → denial s process mode file ≡ None →
      denial t process mode file ≡ None
  denial_kept process file mode f there stands none =
      let why : ℕ → Inode → Option Reason = λ user g. option_map reasons.Denied (open_denial mode user g.owner g.perms) in
      let g : Inode = stands.0 in
      ap (option_and_then (why (user_of t process))) stands.1
      ∙ ap (λ (user : ℕ). why user g) (user_kept s call e process)
      ∙ ap (λ (owner : ℕ). option_map reasons.Denied (open_denial mode (user_of s process) owner g.perms)) stands.2.owner
      ∙ ap (λ (perms : ℕ). option_map reasons.Denied (open_denial mode (user_of s process) f.owner perms)) stands.2.perms
      ∙ sym (ap (option_and_then (why (user_of s process))) there) ∙ none

  unlink_denial_kept : (process file : ℕ) (f : Inode) → file_in s file ≡ Some f → StandsAs f (file_in t file) → unlink_denial_of s process file ≡ None →
      unlink_denial_of t process file ≡ None
  unlink_denial_kept process file f there stands none =
      let why : ℕ → Inode → Option Reason = λ user g. option_map reasons.Denied (unlink_denial user g.owner) in
      let g : Inode = stands.0 in
      ap (option_and_then (why (user_of t process))) stands.1
      ∙ ap (λ (user : ℕ). why user g) (user_kept s call e process)
      ∙ ap (λ (owner : ℕ). option_map reasons.Denied (unlink_denial (user_of s process) owner)) stands.2.owner
      ∙ sym (ap (option_and_then (why (user_of s process))) there) ∙ none

  -- a call by an open descriptor
  by_descriptor : (process fd : ℕ) (further : Descriptor → Option Reason) → RestsOnFile (λ d. further d ≡ None) →
      (is_close e ≡ true → process ≢ (at_of e).process) → descriptor_refusal s process fd further ≡ None → descriptor_refusal t process fd further ≡ None
  by_descriptor process fd further rests stays_open none =
      let kept = descriptor_kept (λ d. further d ≡ None) rests s call e (next.keeps IsOpen) process fd stays_open (open_descriptor s process fd further none) in
      ap (λ (o : Option Descriptor). option_map_or further o (Some reasons.BadFd)) kept.1 ∙ kept.2

  -- an open
  open_kept : (process : ℕ) (name : List ℕ) (mode : Mode) → (is_close e ≡ true → process ≢ (at_of e).process) →
      (is_opened e ≡ true → process ≢ (at_of e).process) → ((file : ℕ) → id_of name s.files ≡ Some file → LeavesThere file e) →
      first_refusal s process (Enter name mode hows.Plain) ≡ None → first_refusal t process (Enter name mode hows.Plain) ≡ None
  open_kept process name mode stays_open opens leaves none =
      let full : Store → Option Reason = λ x. reason_if (not (is_some (lowest_fd x process))) reasons.FdsFull in
      let why : Store → ℕ → Option Reason = λ x file. option_or (denial x process mode file) (full x) in
      ⊎_elim
      (λ found.
      let file : ℕ = found.0 in
      let parts = or_none (denial s process mode file) (full s) found.2 in
      let was = found_named name s.files file found.1 in
      let stands = file_stands s call e file was.0 next.keeps was.1 (leaves file found.1) in
      ap (λ (o : Option ℕ). option_map_or (why t) o (Some reasons.NoFile)) (name_kept v script journal s call e next name file found.1 (leaves file found.1))
      ∙ ap (λ (o : Option Reason). option_or o (full t)) (denial_kept process file mode was.0 was.1 stands parts.0)
      ∙ ap (λ (b : Bool). reason_if (not b) reasons.FdsFull) (free_kept s call e process opens stays_open)
      ∙ parts.1)
      (λ gone. absurd (none-some reasons.NoFile (sym gone.1)))
      (map_or_from (why s) (id_of name s.files) (Some reasons.NoFile) None none)

  -- a removal
  unlink_kept : (process : ℕ) (name : List ℕ) → ((file : ℕ) → id_of name s.files ≡ Some file → LeavesThere file e) →
      ((file : ℕ) → id_of name s.files ≡ Some file → LeavesUnopened file e) →
      first_refusal s process (Unlink name) ≡ None → first_refusal t process (Unlink name) ≡ None
  unlink_kept process name leaves unopened none =
      let by : Holder → Reason = λ h. reasons.OpenBy h.process h.fd in
      let why : Store → ℕ → Option Reason = λ x file. option_or (unlink_denial_of x process file) (option_map by (first_open x file)) in
      ⊎_elim
      (λ found.
      let file : ℕ = found.0 in
      let parts = or_none (unlink_denial_of s process file) (option_map by (first_open s file)) found.2 in
      let was = found_named name s.files file found.1 in
      let stands = file_stands s call e file was.0 next.keeps was.1 (leaves file found.1) in
      ap (λ (o : Option ℕ). option_map_or (why t) o (Some reasons.NoFile)) (name_kept v script journal s call e next name file found.1 (leaves file found.1))
      ∙ ap (λ (o : Option Reason). option_or o (option_map by (first_open t file))) (unlink_denial_kept process file was.0 was.1 stands parts.0)
      ∙ ap (option_map by) (unopened_kept s call e file (unopened file found.1) (nobody by (first_open s file) parts.1)))
      (λ gone. absurd (none-some reasons.NoFile (sym gone.1)))
      (map_or_from (why s) (id_of name s.files) (Some reasons.NoFile) None none)
    where
      nobody : (f : Holder → Reason) (o : Option Holder) → option_map f o ≡ None → o ≡ None
      nobody f None none = refl
      nobody f (Some h) none = absurd (none-some (f h) (sym none))

  -- no refusal comes to hold of the call
  pub refusal_kept : (process : ℕ) (c : Call) → keeps_allowed c ≡ true → (is_close e ≡ true → process ≢ (at_of e).process) →
      (goes_by_name c ≡ true → is_opened e ≡ true → process ≢ (at_of e).process) →
      ((file : ℕ) → file_of_call s c None ≡ Some file → LeavesThere file e × LeavesUnopened file e) →
      first_refusal s process c ≡ None → first_refusal t process c ≡ None
  refusal_kept process (Enter name mode hows.Plain) keeps stays_open opens leaves none =
      open_kept process name mode stays_open (opens refl) (λ file is. (leaves file is).0) none
  refusal_kept process (Unlink name) keeps stays_open opens leaves none =
      unlink_kept process name (λ file is. (leaves file is).0) (λ file is. (leaves file is).1) none
  refusal_kept process (Read fd off len) keeps stays_open opens leaves none = by_descriptor process fd (λ d. None) (λ d new file mode was. was) stays_open none
  refusal_kept process (Write fd off bytes) keeps stays_open opens leaves none =
      by_descriptor process fd (λ d. reason_if (is_read_only d.mode) reasons.ReadOnly)
      (λ d new file mode was. ap (λ (m : Mode). reason_if (is_read_only m) reasons.ReadOnly) mode ∙ was) stays_open none
  refusal_kept process (Truncate fd size) keeps stays_open opens leaves none =
      by_descriptor process fd (truncate_refusal size)
      (λ d new file mode was.
      ap (λ (m : Mode). option_or (reason_if (is_read_only m) reasons.ReadOnly) (reason_if (nat_lt FILE_SIZE size) reasons.TooBig)) mode ∙ was) stays_open none
  refusal_kept process (Close fd) keeps stays_open opens leaves none = by_descriptor process fd (λ d. None) (λ d new file mode was. was) stays_open none
  refusal_kept process (Enter name mode hows.Direct) keeps stays_open opens leaves none = absurd (false≢true keeps)
  refusal_kept process c keeps stays_open opens leaves none = absurd (false≢true keeps)
