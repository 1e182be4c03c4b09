-- The own action of a call that is allowed is there: opens, maps, creates, truncations, removals, sizes and closes.
use Rattle.std.proofs.Common.{◌≡◌, ℕ, suc, ◌-◌, ◌<◌, Bool, true, false, not, cond, List, [], ◌∷◌, length, Option, None, Some, refl, sym, ap, ◌∙◌, arith, get_or, ⊎_elim}
use Rattle.std.specs.Prelude.{is_some, nat_lt}
use Rattle.std.specs.Option.{option_and_then, option_map, option_map_or, option_or}
use Rattle.std.proofs.lemmas.Bool.{and_parts, false≢true, ltb-true}
use Rattle.std.proofs.lemmas.Option.{none-some, slice_get-get_or}
use Rattle.bd_base.specs.declared.reason.Reason.{Reason}
use Rattle.bd_base.specs.declared.reason.Reason.TheVariants as reasons
use Rattle.bd_base.specs.declared.script.Call.{Call}
use Rattle.bd_base.specs.declared.script.Call.TheVariants.{Enter, Create, Truncate, Unlink, Size, Map, Close}
use Rattle.bd_base.specs.declared.script.How.{How}
use Rattle.bd_base.specs.declared.script.How.TheVariants as hows
use Rattle.bd_base.specs.declared.script.Mode.{Mode}
use Rattle.bd_base.specs.declared.volume.Inode.{Inode}
use Rattle.bd_base.specs.declared.journal.At.{At}
use Rattle.bd_base.specs.Files.{blocks_for}
use Rattle.bd_base.specs.Inodes.{free_id, growth_block, id_of}
use Rattle.bd_entry.specs.declared.act.Act.{Act}
use Rattle.bd_entry.specs.declared.act.Act.TheVariants as acts
use Rattle.bd_entry.specs.declared.entry.Entry.{Entry}
use Rattle.bd_entry.specs.declared.entry.Entry.TheVariants as entries
use Rattle.bd_entry.specs.Actions.{Holders, Running, attach_by, attach_or_map, is_none_of, is_to_shrink, opened_entry, open_file, remove_file, truncate_to}
use Rattle.bd_entry.specs.Calls.{fd_of, fd_of_call}
use Rattle.bd_entry.specs.NextEntries.{running}
use Rattle.bd_entry.specs.Refusals.{denial, file_of, first_refusal, growth_reason_of, next_size, reason_if, truncate_refusal, unlink_denial_of}
use Rattle.bd_entry.specs.Store.{Descriptor, Holder, Store, Valid, blocks_in, descriptor_at, file_in, first_open, lowest_fd, next_part, size_in}
use Rattle.bd_entry.proofs.NextActs.{map_or_from, open_descriptor, or_none}
use Rattle.bd_entry.proofs.NextFiles.{cond_from, reason_if-none}
use Rattle.bd_entry.proofs.Slots.{some_of}
use Rattle.bd_turns.proofs.BusyEngines.{There}
use Rattle.bd_turns.proofs.NextActsThere.{HasOwn, IsDoable, adds, IsDone}

pub not_false : (b : Bool) → not b ≡ false → b ≡ true
not_false true is = refl
not_false false is = absurd (false≢true (sym is))

-- ---- opens and maps

-- an open that is allowed has its file and a descriptor
open_there : (s : Store) (r : Running) (name : List ℕ) (mode : Mode) (how : How) → r.place.call ≡ Enter name mode how →
    first_refusal s r.place.at.process (Enter name mode how) ≡ None → IsDone s r (open_file s r.place)
open_there s r name mode how is allowed =
    let process : ℕ = r.place.at.process in
    let full : Option Reason = reason_if (not (is_some (lowest_fd s process))) reasons.FdsFull in
    let why : ℕ → Option Reason = λ file. option_or (denial s process mode file) full in
    let open_by : Option ℕ → Option Act = λ of. option_and_then (λ file. option_map (acts.Opened file) (lowest_fd s process)) of in
    ⊎_elim
    (λ found.
    let room : not (is_some (lowest_fd s process)) ≡ false =
    reason_if-none (not (is_some (lowest_fd s process))) reasons.FdsFull (or_none (denial s process mode found.0) full found.2).1 in
    let fd = some_of (lowest_fd s process) (not_false (is_some (lowest_fd s process)) room) in
    let of : file_of s r.place ≡ Some found.0 = ap (λ (c : Call). file_of s (record r.place { call = c })) is ∙ found.1 in (
      acts.Opened found.0 fd.0,
      ap open_by of ∙ ap (option_map (acts.Opened found.0)) fd.1,
      adds (acts.Opened found.0 fd.0) (entries.Opened r.place.at found.0 fd.0 mode how)
          (ap (λ (c : Call). opened_entry r.place c found.0 fd.0) is),
    ))
    (λ none. absurd (none-some reasons.NoFile (sym none.1)))
    (map_or_from why (id_of name s.files) (Some reasons.NoFile) None allowed)

-- a right is attached by an open descriptor, or the open or map ends
attach_there : (s : Store) (r : Running) (fd : ℕ) → fd_of r.place ≡ Some fd → There (descriptor_at s r.place.at.process fd) →
    IsDone s r (attach_by s r.place fd)
attach_there s r fd named opened = (attach_or_map s opened.0, ap (option_map (attach_or_map s)) opened.1, by (next_part s opened.0))
  where
    by : (o : Option ℕ) → IsDoable s r (option_map_or acts.Attach o (acts.Mapped (length opened.0.attached)))
    by None =
        let count : ℕ = length opened.0.attached in
        adds (acts.Mapped count) (entries.Mapped r.place.at fd count) (ap (option_map (λ fd. entries.Mapped r.place.at fd count)) named)
    by (Some part) =
        adds (acts.Attach part) (entries.Attached r.place.at fd part) (ap (option_map (λ fd. entries.Attached r.place.at fd part)) named)

module _ (s : Store) (holders : Holders) (at : At) (before : List Entry) (outstanding : List ℕ) where
  pub plain_open_there : (name : List ℕ) (mode : Mode) → first_refusal s at.process (Enter name mode hows.Plain) ≡ None →
      HasOwn s holders (running (Enter name mode hows.Plain) at before outstanding)
  plain_open_there name mode allowed = open_there s (running (Enter name mode hows.Plain) at before outstanding) name mode hows.Plain refl allowed

  pub map_there : (fd : ℕ) → There (descriptor_at s at.process fd) → HasOwn s holders (running (Map fd) at before outstanding)
  map_there fd opened = attach_there s (running (Map fd) at before outstanding) fd refl opened

  pub direct_open_there : (name : List ℕ) (mode : Mode) →
      ((fd : ℕ) → fd_of_call (Enter name mode hows.Direct) before ≡ Some fd → There (descriptor_at s at.process fd)) →
      (fd_of_call (Enter name mode hows.Direct) before ≡ None → first_refusal s at.process (Enter name mode hows.Direct) ≡ None) →
      HasOwn s holders (running (Enter name mode hows.Direct) at before outstanding)
  direct_open_there name mode opened allowed =
      let r = running (Enter name mode hows.Direct) at before outstanding in
      by (fd_of r.place) refl
    where
      by : let r = running (Enter name mode hows.Direct) at before outstanding in (o : Option ℕ) → fd_of r.place ≡ o →
          IsDone s r (option_map_or (attach_by s r.place) o (open_file s r.place))
      by None none = open_there s (running (Enter name mode hows.Direct) at before outstanding) name mode hows.Direct refl (allowed none)
      by (Some fd) is = attach_there s (running (Enter name mode hows.Direct) at before outstanding) fd is (opened fd is)

  -- ---- creates, sizes and closes

  pub create_there : (name : List ℕ) (perms : ℕ) → first_refusal s at.process (Create name perms) ≡ None →
      HasOwn s holders (running (Create name perms) at before outstanding)
  create_there name perms allowed =
      let exists : Bool = is_some (id_of name s.files) in
      let free : is_some (free_id s.files) ≡ true =
      ⊎_elim
      (λ taken. absurd (none-some reasons.Exists (sym taken.1)))
      (λ new.
      ⊎_elim (λ room. room.0) (λ full. absurd (none-some reasons.Inodes (sym full.1)))
      (cond_from (is_some (free_id s.files)) None (Some reasons.Inodes) None new.1))
      (cond_from exists (Some reasons.Exists) (cond (is_some (free_id s.files)) None (Some reasons.Inodes)) None allowed) in
      let file = some_of (free_id s.files) free in
      (acts.Created, refl, adds acts.Created (entries.Created at file.0 name perms) (ap (option_map (λ file. entries.Created at file name perms)) file.1))

  pub close_there : (fd : ℕ) → HasOwn s holders (running (Close fd) at before outstanding)
  close_there fd = (acts.Closed, refl, adds acts.Closed (entries.Closed at fd) refl)

  pub size_there : (fd : ℕ) → first_refusal s at.process (Size fd) ≡ None → HasOwn s holders (running (Size fd) at before outstanding)
  size_there fd allowed =
      let d = open_descriptor s at.process fd (λ d. None) allowed in
      let size : ℕ = size_in s d.0.file in (
        acts.SizeRead size,
        ap (λ (slot : Option Descriptor). option_map (λ file. acts.SizeRead (size_in s file)) (option_map (λ (d : Descriptor). d.file) slot)) d.1,
        adds (acts.SizeRead size) (entries.SizeRead at fd size) refl,
      )

  -- ---- removals and truncations

  release_there : (r : Running) (file : ℕ) → 0 < length (blocks_in s file) → IsDoable s r (acts.Release file)
  release_there r file some =
      let last : ℕ = length (blocks_in s file) - 1 in
      adds (acts.Release file) (entries.Released r.place.at file last (get_or (blocks_in s file) last 0))
      (ap (option_map (entries.Released r.place.at file last)) (slice_get-get_or (blocks_in s file) last 0 (omega arith)))

  removal_act : (r : Running) (file : ℕ) → file_of s r.place ≡ Some file → IsDoable s r (remove_file s file)
  removal_act r file of = by (blocks_in s file) refl
    where
      by : (blocks : List ℕ) → blocks_in s file ≡ blocks → IsDoable s r (cond (is_none_of blocks) acts.Unlinked (acts.Release file))
      by [] is = adds acts.Unlinked (entries.Unlinked r.place.at file) (ap (option_map (entries.Unlinked r.place.at)) of)
      by (block ∷ blocks) is =
          let some : length (blocks_in s file) ≡ suc (length blocks) = ap (λ (l : List ℕ). length l) is in
          release_there r file (omega arith)

  pub removal_there : (name : List ℕ) → first_refusal s at.process (Unlink name) ≡ None → HasOwn s holders (running (Unlink name) at before outstanding)
  removal_there name allowed =
      let by : Holder → Reason = λ h. reasons.OpenBy h.process h.fd in
      let why : ℕ → Option Reason = λ file. option_or (unlink_denial_of s at.process file) (option_map by (first_open s file)) in
      ⊎_elim
      (λ found. (
        remove_file s found.0,
        ap (option_map (remove_file s)) found.1,
        removal_act (running (Unlink name) at before outstanding) found.0 found.1,
      ))
      (λ none. absurd (none-some reasons.NoFile (sym none.1)))
      (map_or_from why (id_of name s.files) (Some reasons.NoFile) None allowed)

  truncation_act : (fd size : ℕ) (d : Descriptor) → Valid s → descriptor_at s at.process fd ≡ Some d →
      let r = running (Truncate fd size) at before outstanding in IsDoable s r (truncate_to s r.place size d.file)
  truncation_act fd size d valid is = shrinks (is_to_shrink s d.file size) refl
    where
      growth : Option ℕ → Act
      growth o =
          option_map_or
          (λ to. option_map_or (acts.Refuse None) (growth_reason_of s (running (Truncate fd size) at before outstanding).place size) (acts.Extend d.file to))
          o (acts.Sized size)

      grow : (to : ℕ) (o : Option Reason) →
          IsDoable s (running (Truncate fd size) at before outstanding) (option_map_or (acts.Refuse None) o (acts.Extend d.file to))
      grow to None =
          let f = some_of (file_in s d.file) (valid.descriptors at.process fd d is).of_file in
          let entry : Inode → Entry = λ f. entries.Extended at d.file to (growth_block s.total s.files f) in
          adds (acts.Extend d.file to) (entry f.0) (ap (option_map entry) f.1)
      grow to (Some reason) = adds (acts.Refuse None reason) (entries.Refused at None reason) refl

      grows : (o : Option ℕ) → IsDoable s (running (Truncate fd size) at before outstanding) (growth o)
      grows None = adds (acts.Sized size) (entries.Sized at fd size) refl
      grows (Some to) = grow to (growth_reason_of s (running (Truncate fd size) at before outstanding).place size)

      shrinks : (b : Bool) → is_to_shrink s d.file size ≡ b →
          IsDoable s (running (Truncate fd size) at before outstanding)
          (cond b (acts.Release d.file) (growth (next_size (size_in s d.file) size)))
      shrinks true is =
          let parts = and_parts (nat_lt size (size_in s d.file)) (nat_lt (blocks_for size) (length (blocks_in s d.file))) is in
          let more : blocks_for size < length (blocks_in s d.file) = ltb-true (blocks_for size) (length (blocks_in s d.file)) parts.1 in
          release_there (running (Truncate fd size) at before outstanding) d.file (omega arith)
      shrinks false is = grows (next_size (size_in s d.file) size)

  pub truncation_there : (fd size : ℕ) → Valid s → first_refusal s at.process (Truncate fd size) ≡ None →
      HasOwn s holders (running (Truncate fd size) at before outstanding)
  truncation_there fd size valid allowed =
      let d = open_descriptor s at.process fd (truncate_refusal size) allowed in
      let p = (running (Truncate fd size) at before outstanding).place in (
        truncate_to s p size d.0.file,
        ap (λ (slot : Option Descriptor). option_map (truncate_to s p size) (option_map (λ (d : Descriptor). d.file) slot)) d.1,
        truncation_act fd size d.0 valid d.1,
      )
