-- The file of a call stays as entries of any call are added: its descriptor stays open, or its name is still that file's.
use Rattle.std.proofs.Common.{◌≡◌, ◌≢◌, ℕ, zero, suc, ◌<◌, Bool, true, false, List, [], ◌∷◌, ◌++◌, length, arith, Option, None, Some, refl, sym, ap, ◌∙◌, subst, ⊎_elim}
use Rattle.std.specs.Prelude.{is_some, slice_index_or, slice_set}
use Rattle.std.specs.Option.{option_and_then, option_map, option_map_or}
use Rattle.std.proofs.lemmas.Bool.{both_ways, cases_eq}
use Rattle.std.proofs.lemmas.List.{get_or-set_same}
use Rattle.std.proofs.lemmas.List.Quantifiers.{position-Some}
use Rattle.std.proofs.lemmas.Option.{none-some, same_Some}
use Rattle.std.specs.Cmp.Lexicographic.{bytes_decides}
use Rattle.bd_base.specs.declared.script.Call.{Call}
use Rattle.bd_base.specs.declared.script.Call.TheVariants.{Enter, Create, Read, Write, Truncate, Unlink, Size, Map, Close, RawRead, RawWrite}
use Rattle.bd_base.specs.declared.journal.At.{At}
use Rattle.bd_base.specs.declared.script.How.{How}
use Rattle.bd_base.specs.declared.script.Mode.{Mode}
use Rattle.bd_base.specs.declared.script.Script.{Script}
use Rattle.bd_base.specs.declared.volume.Inode.{Inode}
use Rattle.bd_base.specs.declared.volume.Volume.{Volume}
use Rattle.bd_base.specs.Inodes.{AreValidFiles, free_id, has_name, id_of, inode_at}
use Rattle.bd_base.proofs.FileLists.{has_name-Named, inode_at-set_other, inode_at-set_same, inode_at-within, position-fails}
use Rattle.bd_base.proofs.ValidFiles.{free_id-free}
use Rattle.bd_entry.specs.declared.entry.Entry.{Entry}
use Rattle.bd_entry.specs.declared.entry.Entry.TheVariants.{Access, Created, Extended, Opened, Released, Sized, Unlinked}
use Rattle.bd_entry.specs.Calls.{Place, at_of, fd_of_address, fd_of_call, is_ended_by}
use Rattle.bd_entry.specs.Effects.{after_change, after_telling, effect_of, new_descriptor, tells_size, with_known_size, with_size, with_told_size}
use Rattle.bd_entry.specs.Laws.{IsNextOf}
use Rattle.bd_entry.specs.Refusals.{file_of, file_of_call}
use Rattle.bd_entry.specs.Rules.{IsOpen, RightFile, place_in}
use Rattle.bd_entry.specs.RulesOfRights.{HasRightDescriptor, TheDescriptor}
use Rattle.bd_entry.specs.Store.{Descriptor, Store, Valid, descriptor_at, file_in, in_slot, is_empty_slot, lowest_fd, slots_of, work_of}
use Rattle.bd_entry.proofs.DescriptorSteps.{after_call-cases, after_change-becomes, after_telling-cases, is_close, Keeps}
use Rattle.bd_entry.proofs.EffectsOnFiles.{effect_of-files}
use Rattle.bd_entry.proofs.Histories.{history-push}
use Rattle.bd_entry.proofs.HistoryLaws.{histories_keep_valid}
use Rattle.bd_entry.proofs.SoundVolumes.{KeepsAll}
use Rattle.bd_entry.proofs.StayingFiles.{LeavesThere}
use Rattle.bd_entry.proofs.WriteModes.{TheDescriptor-map, TheDescriptor-same}

-- the store after the entry of this call
abbrev pub store_after : Store → Call → Entry → Store
store_after s call e = effect_of s (place_in s call (at_of e)) e

-- ---- descriptors

-- what is said of a descriptor rests on its file and its mode
abbrev pub RestsOnFile : (Descriptor → Type 0) → Type 0
RestsOnFile P = (d new : Descriptor) → new.file ≡ d.file → new.mode ≡ d.mode → P d → P new

-- a descriptor that the entry does not close stays so in what its own change keeps
pub change_kept : (P : Descriptor → Type 0) → ((d new : Descriptor) → Keeps d new → P d → P new) → (s : Store) (call : Call) (e : Entry) →
    HasRightDescriptor s (place_in s call (at_of e)) e → (process fd : ℕ) → (is_close e ≡ true → process ≢ (at_of e).process) →
    TheDescriptor (descriptor_at s process fd) P → TheDescriptor (descriptor_at (after_change s e) process fd) P
change_kept P rests s call e fits process fd stays_open has =
    ⊎_elim
    (λ same.
    TheDescriptor-map P same.0 (λ d is. rests d (same.0 d) (same.1 d) is) (descriptor_at s process fd)
    (descriptor_at (after_change s e) process fd) same.2 has)
    (λ others.
    ⊎_elim
    (λ new. absurd (none-some has.0 (sym new.0 ∙ has.1)))
    (λ gone. absurd (stays_open gone.0 gone.1))
    others)
    (after_change-becomes s call e fits process fd)

-- and where its size is told
pub told_kept : (P : Descriptor → Type 0) (changed : Store) → ((d : Descriptor) → P d → P (with_told_size changed d)) → (tells : Bool) (by : ℕ)
    (of : Option ℕ) (process fd : ℕ) → TheDescriptor (descriptor_at changed process fd) P →
    TheDescriptor (descriptor_at (after_telling tells changed by of) process fd) P
told_kept P changed rests tells by of process fd has =
    let told = after_telling tells changed by of in
    ⊎_elim
    (λ same. TheDescriptor-same P (descriptor_at changed process fd) (descriptor_at told process fd) same has)
    (λ new.
    TheDescriptor-map P (with_told_size changed) rests (descriptor_at changed process fd) (descriptor_at told process fd) new.2 has)
    (after_telling-cases tells changed by of process fd)

-- what the entry's own change left so, its call leaves so too
pub changed_kept : (P : Descriptor → Type 0) → RestsOnFile P → (s : Store) (call : Call) (e : Entry) (process fd : ℕ) →
    TheDescriptor (descriptor_at (after_change s e) process fd) P → TheDescriptor (descriptor_at (store_after s call e) process fd) P
changed_kept P rests s call e process fd first =
    let entries = work_of s (at_of e).process ++ e ∷ [] in
    let of = fd_of_call call entries in
    let changed = after_change s e in
    let told = after_telling (tells_size e) changed (at_of e).process of in
    let after = store_after s call e in
    let second : TheDescriptor (descriptor_at told process fd) P =
    told_kept P changed (λ d is. rests d (with_told_size changed d) refl refl is) (tells_size e) (at_of e).process of process fd first in
    ⊎_elim
    (λ same. TheDescriptor-same P (descriptor_at told process fd) (descriptor_at after process fd) same second)
    (λ ended. TheDescriptor-map P with_known_size (λ d is. rests d (with_known_size d) refl refl is) (descriptor_at told process fd)
    (descriptor_at after process fd) ended.3 second)
    (after_call-cases (is_ended_by call entries) told (at_of e).process of entries process fd)

-- it holds after an entry that does not close the descriptor
pub descriptor_kept : (P : Descriptor → Type 0) → RestsOnFile P → (s : Store) (call : Call) (e : Entry) → HasRightDescriptor s (place_in s call (at_of e)) e →
    (process fd : ℕ) → (is_close e ≡ true → process ≢ (at_of e).process) →
    TheDescriptor (descriptor_at s process fd) P → TheDescriptor (descriptor_at (store_after s call e) process fd) P
descriptor_kept P rests s call e fits process fd stays_open has =
    changed_kept P rests s call e process fd
    (change_kept P (λ d new keeps is. rests d new keeps.file keeps.mode is) s call e fits process fd stays_open has)

-- a process that has such a descriptor has a row of them
row_there : (opens : List (List (Option Descriptor))) (process k : ℕ) → k < length (slice_index_or opens process []) → process < length opens
row_there [] process k within = absurd (omega arith)
row_there (row ∷ opens) zero k within = omega arith
row_there (row ∷ opens) (suc process) k within = let inside : process < length opens = row_there opens process k within in omega arith

-- the descriptor that an entry opens is of its file
pub opened_there : (s : Store) (call : Call) (at : At) (file fd : ℕ) (mode : Mode) (how : How) → lowest_fd s at.process ≡ Some fd →
    TheDescriptor (descriptor_at (store_after s call (Opened at file fd mode how)) at.process fd) (λ d. d.file ≡ file)
opened_there s call at file fd mode how lowest =
    let e : Entry = Opened at file fd mode how in
    let process : ℕ = at.process in
    let slots : List (Option Descriptor) = slots_of s process in
    let inside : fd < length slots = (position-Some is_empty_slot slots fd None lowest).0 in
    let row : List (Option Descriptor) = slice_set slots fd (new_descriptor e) in
    let there : descriptor_at (after_change s e) process fd ≡ new_descriptor e =
    ap (λ (xs : List (Option Descriptor)). in_slot xs fd) (get_or-set_same s.opens process row [] (row_there s.opens process fd inside))
    ∙ get_or-set_same slots fd (new_descriptor e) None inside in
    changed_kept (λ d. d.file ≡ file) (λ d new same mode was. same ∙ was) s call e process fd (_, there, refl)

-- ---- files

-- a file keeps its name, its owner and its perms
pub record KeepsInode (f g : Inode) : Type 0 where
  pub name : g.name ≡ f.name
  pub owner : g.owner ≡ f.owner
  pub perms : g.perms ≡ f.perms

-- the file stands in the slot, as it was but for its size and its blocks
abbrev pub StandsAs : Inode → Option Inode → Type 0
StandsAs f slot = (g : Inode) × (slot ≡ Some g) × KeepsInode f g

same_inode : (f : Inode) (slot : Option Inode) → slot ≡ Some f → StandsAs f slot
same_inode f slot is = (f, is, record { name = refl; owner = refl; perms = refl })

set_stands : (files : List (Option Inode)) (k : ℕ) (slot : Option Inode) (id : ℕ) (f : Inode) → inode_at files id ≡ Some f →
    (id ≡ k → StandsAs f slot) → StandsAs f (inode_at (slice_set files k slot) id)
set_stands files k slot id f there this =
    ⊎_elim
    (λ same.
    let stands = this same in
    let inside = inode_at-within files id (ap is_some there) in (
      stands.0,
      ap (λ (j : ℕ). inode_at (slice_set files j slot) id) (sym same) ∙ inode_at-set_same files id slot inside ∙ stands.1,
      stands.2,
    ))
    (λ differ. same_inode f (inode_at (slice_set files k slot) id) (inode_at-set_other files k id slot differ ∙ there))
    (cases_eq id k)

-- a changed file, which keeps its name, its owner and its perms
changed_stands : (s : Store) (file id : ℕ) (change : Inode → Inode) (f : Inode) → file_in s id ≡ Some f → ((g : Inode) → KeepsInode g (change g)) →
    id ≡ file → StandsAs f (option_map change (file_in s file))
changed_stands s file id change f there keeps same =
    (change f, ap (option_map change) (ap (file_in s) (sym same) ∙ there), keeps f)

-- a made file stands where none was
pub not_made : (files : List (Option Inode)) (file id : ℕ) (f : Inode) → free_id files ≡ Some file → inode_at files id ≡ Some f → id ≢ file
not_made files file id f lowest there same =
    none-some f (sym (ap (inode_at files) same ∙ (free_id-free files file lowest).1) ∙ there)

-- an entry that does not remove the file leaves its name, its owner and its perms
stands_changed : (s : Store) (call : Call) (e : Entry) (id : ℕ) (f : Inode) → KeepsAll s call e → file_in s id ≡ Some f → LeavesThere id e →
    StandsAs f (file_in (after_change s e) id)
stands_changed s call (Created at file name perms) id f keeps there leaves =
    set_stands s.files file _ id f there (λ same. absurd (not_made s.files file id f (keeps RightFile) there same))
stands_changed s call (Access at piece fd file index block range true way bytes) id f keeps there leaves = same_inode f (file_in s id) there
stands_changed s call (Access at piece fd file index block range false way bytes) id f keeps there leaves = same_inode f (file_in s id) there
stands_changed s call (Extended at file to block) id f keeps there leaves =
    set_stands s.files file _ id f there (changed_stands s file id _ f there (λ g. record { name = refl; owner = refl; perms = refl }))
stands_changed s call (Released at file index block) id f keeps there leaves =
    set_stands s.files file _ id f there (changed_stands s file id _ f there (λ g. record { name = refl; owner = refl; perms = refl }))
stands_changed s call (Sized at fd size) id f keeps there leaves = by (descriptor_at s at.process fd)
  where
    by : (slot : Option Descriptor) → StandsAs f (file_in (option_map_or (λ (d : Descriptor). with_size s d.file size) slot s) id)
    by None = same_inode f (file_in s id) there
    by (Some d) = set_stands s.files d.file _ id f there (changed_stands s d.file id _ f there (λ g. record { name = refl; owner = refl; perms = refl }))
stands_changed s call (Unlinked at file) id f keeps there leaves =
    set_stands s.files file None id f there (λ same. absurd (leaves (sym same)))
stands_changed s call e id f keeps there leaves = same_inode f (file_in s id) there

pub file_stands : (s : Store) (call : Call) (e : Entry) (id : ℕ) (f : Inode) → KeepsAll s call e → file_in s id ≡ Some f → LeavesThere id e →
    StandsAs f (file_in (store_after s call e) id)
file_stands s call e id f keeps there leaves =
    subst (λ (files : List (Option Inode)). StandsAs f (inode_at files id)) (sym (effect_of-files s (place_in s call (at_of e)) e).files)
    (stands_changed s call e id f keeps there leaves)

-- ---- names

-- the file that a name finds has it
pub found_named : (name : List ℕ) (files : List (Option Inode)) (id : ℕ) → id_of name files ≡ Some id →
    (f : Inode) × (inode_at files id ≡ Some f) × (name ≡ f.name)
found_named name files id is =
    let named = has_name-Named name (inode_at files id) (position-Some (has_name name) files id None is).1 in
    (named.file, named.is, named.named)

-- and a file with a name is found by it
pub named_found : (total : ℕ) (name : List ℕ) (files : List (Option Inode)) (id : ℕ) (f : Inode) → AreValidFiles total files →
    inode_at files id ≡ Some f → name ≡ f.name → id_of name files ≡ Some id
named_found total name files id f valid there named = by (id_of name files) refl
  where
    by : (o : Option ℕ) → id_of name files ≡ o → o ≡ Some id
    by None none =
        let passes : has_name name (inode_at files id) ≡ true = ap (has_name name) there ∙ (bytes_decides name f.name).1 named in
        let fails = position-fails (has_name name) files none id (inode_at-within files id (ap is_some there)) in
        absurd (both_ways (has_name name (inode_at files id)) fails passes)
    by (Some k) is =
        let other = found_named name files k is in
        ap Some (valid.names_differ k id other.0 f other.1 there (sym other.2 ∙ named))

-- the store after a legal next entry is valid
pub valid_after : (v : Volume) (script : Script) (journal : List Entry) (s : Store) (call : Call) (e : Entry) → IsNextOf v script journal s call e →
    Valid (store_after s call e)
valid_after v script journal s call e next =
    histories_keep_valid v script (journal ++ e ∷ []) (store_after s call e) (history-push v script journal s call e next)

-- a name finds its file still
pub name_kept : (v : Volume) (script : Script) (journal : List Entry) (s : Store) (call : Call) (e : Entry) → IsNextOf v script journal s call e →
    (name : List ℕ) (id : ℕ) → id_of name s.files ≡ Some id → LeavesThere id e → id_of name (store_after s call e).files ≡ Some id
name_kept v script journal s call e next name id is leaves =
    let was = found_named name s.files id is in
    let stands = file_stands s call e id was.0 next.keeps was.1 leaves in
    let t = store_after s call e in
    named_found t.total name t.files id stands.0 (valid_after v script journal s call e next).volume.files.valid stands.1 (was.2 ∙ sym stands.2.name)

-- ---- the file of a call

-- the file of a call that has one stays, where the entry neither closes its descriptor nor removes the file
pub file_of_kept : (v : Volume) (script : Script) (journal : List Entry) (s : Store) (call : Call) (e : Entry) → IsNextOf v script journal s call e →
    (q : Place) (file : ℕ) → (is_close e ≡ true → q.at.process ≢ (at_of e).process) → LeavesThere file e → file_of s q ≡ Some file →
    (more : List Entry) → file_of (store_after s call e) (record q { before = q.before ++ more }) ≡ Some file
file_of_kept v script journal s call e next q file stays_open leaves of more = by q.call of
  where
    t : Store
    t = store_after s call e

    by_fd : (fd : ℕ) → option_map (λ (d : Descriptor). d.file) (descriptor_at s q.at.process fd) ≡ Some file →
        option_map (λ (d : Descriptor). d.file) (descriptor_at (store_after s call e) q.at.process fd) ≡ Some file
    by_fd fd is = of_slot (descriptor_at s q.at.process fd) refl is
      where
        of_slot : (slot : Option Descriptor) → descriptor_at s q.at.process fd ≡ slot → option_map (λ (d : Descriptor). d.file) slot ≡ Some file →
            option_map (λ (d : Descriptor). d.file) (descriptor_at (store_after s call e) q.at.process fd) ≡ Some file
        of_slot None none is = absurd (none-some file is)
        of_slot (Some d) there is =
            let kept =
            descriptor_kept (λ (x : Descriptor). x.file ≡ file) (λ d new same mode was. same ∙ was) s call e (next.keeps IsOpen) q.at.process fd stays_open
            (d, there, same_Some d.file file is) in
            ap (option_map (λ (d : Descriptor). d.file)) kept.1 ∙ ap Some kept.2

    by : (c : Call) → file_of_call s c (option_and_then (descriptor_at s q.at.process) (fd_of_call c q.before)) ≡ Some file →
        file_of_call (store_after s call e) c (option_and_then (descriptor_at (store_after s call e) q.at.process) (fd_of_call c (q.before ++ more)))
        ≡ Some file
    by (Enter name mode how) is = name_kept v script journal s call e next name file is leaves
    by (Create name perms) is = absurd (none-some file is)
    by (Read fd off len) is = by_fd fd is
    by (Write fd off bytes) is = by_fd fd is
    by (Truncate fd size) is = by_fd fd is
    by (Unlink name) is = name_kept v script journal s call e next name file is leaves
    by (Size fd) is = by_fd fd is
    by (Map fd) is = by_fd fd is
    by (Close fd) is = by_fd fd is
    by (RawRead address range) is = by_fd (fd_of_address address) is
    by (RawWrite address lo bytes) is = by_fd (fd_of_address address) is
