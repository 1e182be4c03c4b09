-- Which files stay after an entry, with their blocks and no smaller.
use Rattle.std.proofs.Common.{◌≡◌, ◌≢◌, ℕ, zero, suc, ◌<◌, ◌≤◌, true, false, List, [], ◌∷◌, ◌++◌, length, slice_set, Option, None, Some, IsSome, is_some, arith, refl, sym, ap, ◌∙◌, inl, inr, subst}
use Rattle.std.specs.Prelude.{slice_get}
use Rattle.std.specs.Option.{option_map, option_map_or, option_to_list}
use Rattle.std.proofs.lemmas.Bool.{both_ways, cases_eq, cases_lt, false≢true}
use Rattle.std.proofs.lemmas.List.{length-append}
use Rattle.std.proofs.lemmas.Option.{none-some, same_Some}
use Rattle.bd_base.specs.declared.script.Call.{Call}
use Rattle.bd_base.specs.declared.volume.Inode.{Inode}
use Rattle.bd_base.specs.Inodes.{blocks_of_slot, free_id, grown_file, inode_at, without_last}
use Rattle.bd_base.proofs.FileLists.{inode_at-set_other, inode_at-set_same, inode_at-within}
use Rattle.bd_base.proofs.ValidFiles.{free_id-free}
use Rattle.bd_entry.specs.declared.entry.Entry.{Entry}
use Rattle.bd_entry.specs.declared.entry.Entry.TheVariants.{Access, Created, Extended, Released, Sized, Unlinked}
use Rattle.bd_entry.specs.Effects.{after_change, with_size}
use Rattle.bd_entry.specs.Refusals.{goal_of}
use Rattle.bd_entry.specs.Rules.{NotRefused, RightFile, Rights, WithinLimit, place_in}
use Rattle.bd_entry.specs.Store.{Descriptor, Store, blocks_in, descriptor_at, file_in, has_rights_on, parts_in, size_in}
use Rattle.bd_entry.proofs.SoundVolumes.{GrowsTo, KeepsAll, grows_to}

-- the file in a slot stays after a change: it is there, with each block that it had, and not smaller
record SlotStays (old new : Option Inode) : Type 0 where
  is_there : IsSome new
  blocks : (index block : ℕ) → slice_get (blocks_of_slot old) index ≡ Some block → slice_get (blocks_of_slot new) index ≡ Some block
  count : length (blocks_of_slot old) ≤ length (blocks_of_slot new)
  size : option_map_or (λ (f : Inode). f.size) old 0 ≤ option_map_or (λ (f : Inode). f.size) new 0

-- a file of a store stays in another: it is there, with each block that it had, not smaller, and with no fewer parts
pub record FileStays (s : Store) (id : ℕ) (t : Store) : Type 0 where
  pub is_there : IsSome (file_in t id)
  pub blocks : (index block : ℕ) → slice_get (blocks_in s id) index ≡ Some block → slice_get (blocks_in t id) index ≡ Some block
  pub size : size_in s id ≤ size_in t id
  pub parts : parts_in s id ≤ parts_in t id

of_slots : (s : Store) (id : ℕ) (t : Store) → SlotStays (file_in s id) (file_in t id) → FileStays s id t
of_slots s id t stays = record { is_there = stays.is_there; blocks = stays.blocks; size = stays.size; parts = omega (arith, stays.count) }

same_slot : (slot : Option Inode) → IsSome slot → SlotStays slot slot
same_slot slot some = record { is_there = some; blocks = λ index block is. is; count = omega arith; size = omega arith }

-- a block of a list is one of a longer list
slice_get-append : (xs ys : List ℕ) (i x : ℕ) → slice_get xs i ≡ Some x → slice_get (xs ++ ys) i ≡ Some x
slice_get-append [] ys i x is = absurd (none-some x is)
slice_get-append (y ∷ xs) ys zero x is = is
slice_get-append (y ∷ xs) ys (suc i) x is = slice_get-append xs ys i x is

-- ---- one file of a list is changed

there-set : (files : List (Option Inode)) (id : ℕ) (slot : Option Inode) (k : ℕ) → IsSome (inode_at files k) → (k ≡ id → IsSome slot) →
    IsSome (inode_at (slice_set files id slot) k)
there-set files id slot k some this =
    elim (cases_eq k id) [
      | inl same ↦
          let inside = inode_at-within files id (subst (λ j. IsSome (inode_at files j)) same some) in
          subst (λ j. IsSome (inode_at (slice_set files id slot) j)) (sym same) (ap is_some (inode_at-set_same files id slot inside) ∙ this same)
      | inr other ↦ ap is_some (inode_at-set_other files id k slot other) ∙ some
    ]

stays-set : (files : List (Option Inode)) (id : ℕ) (slot : Option Inode) (k : ℕ) → IsSome (inode_at files k) →
    (k ≡ id → SlotStays (inode_at files id) slot) →
    SlotStays (inode_at files k) (inode_at (slice_set files id slot) k)
stays-set files id slot k some this =
    elim (cases_eq k id) [
      | inl same ↦
          let inside = inode_at-within files id (subst (λ j. IsSome (inode_at files j)) same some) in
          subst (λ j. SlotStays (inode_at files j) (inode_at (slice_set files id slot) j)) (sym same)
          (subst (SlotStays (inode_at files id)) (sym (inode_at-set_same files id slot inside)) (this same))
      | inr other ↦ subst (SlotStays (inode_at files k)) (sym (inode_at-set_other files id k slot other)) (same_slot (inode_at files k) some)
    ]

-- a file that is there is so after a change of it
changed_there : (slot : Option Inode) (change : Inode → Inode) → IsSome slot → IsSome (option_map change slot)
changed_there None change some = some
changed_there (Some f) change some = refl

-- a changed file stays where it keeps its blocks and is not smaller
changed_stays : (slot : Option Inode) (change : Inode → Inode) → IsSome slot →
    ((f : Inode) → slot ≡ Some f → SlotStays (Some f) (Some (change f))) → SlotStays slot (option_map change slot)
changed_stays None change some stays = absurd (false≢true some)
changed_stays (Some f) change some stays = stays f refl

-- a made file stands where none was
not_made : (files : List (Option Inode)) (file id : ℕ) → free_id files ≡ Some file → IsSome (inode_at files id) → id ≡ file → ⊥
not_made files file id lowest some same =
    both_ways (is_some (inode_at files id)) (ap (λ j. is_some (inode_at files j)) same ∙ ap is_some (free_id-free files file lowest).1) some

-- ---- files that are there

-- the entry does not take away the file
abbrev pub LeavesThere : ℕ → Entry → Type 0
LeavesThere id (Unlinked at file) = file ≢ id
LeavesThere id entry = Unit {0}

-- a file that is not taken away is still there
pub file_stays_there : (s : Store) (call : Call) (e : Entry) (id : ℕ) → KeepsAll s call e → IsSome (file_in s id) → LeavesThere id e →
    IsSome (file_in (after_change s e) id)
file_stays_there s call (Created at file name perms) id keeps some leaves =
    there-set s.files file _ id some (λ same. refl)
file_stays_there s call (Access at piece fd file index block range true way bytes) id keeps some leaves = some
file_stays_there s call (Access at piece fd file index block range false way bytes) id keeps some leaves = some
file_stays_there s call (Extended at file to block) id keeps some leaves =
    there-set s.files file (option_map (λ f. grown_file f block to) (file_in s file)) id some
    (λ same. changed_there (file_in s file) _ (subst (λ j. IsSome (file_in s j)) same some))
file_stays_there s call (Released at file index block) id keeps some leaves =
    there-set s.files file (option_map without_last (file_in s file)) id some
    (λ same. changed_there (file_in s file) without_last (subst (λ j. IsSome (file_in s j)) same some))
file_stays_there s call (Sized at fd size) id keeps some leaves = by (descriptor_at s at.process fd)
  where
    by : (slot : Option Descriptor) → IsSome (file_in (option_map_or (λ (d : Descriptor). with_size s d.file size) slot s) id)
    by None = some
    by (Some d) =
        there-set s.files d.file (option_map (λ (f : Inode). record f { size = size }) (file_in s d.file)) id some
        (λ same. changed_there (file_in s d.file) (λ (f : Inode). record f { size = size }) (subst (λ j. IsSome (file_in s j)) same some))
file_stays_there s call (Unlinked at file) id keeps some leaves = there-set s.files file None id some (λ same. absurd (leaves (sym same)))
file_stays_there s call other id keeps some leaves = some

-- ---- files that lose nothing

-- the entry does not take away the file, or its last block, or lower its size
abbrev pub LeavesWhole : Store → ℕ → Entry → Type 0
LeavesWhole s id (Released at file index block) = file ≢ id
LeavesWhole s id (Sized at fd size) = (d : Descriptor) → descriptor_at s at.process fd ≡ Some d → d.file ≡ id → size_in s id ≤ size
LeavesWhole s id (Unlinked at file) = file ≢ id
LeavesWhole s id entry = Unit {0}

-- a file that loses nothing stays
pub file_stays : (s : Store) (call : Call) (e : Entry) (id : ℕ) → KeepsAll s call e → IsSome (file_in s id) → LeavesWhole s id e →
    FileStays s id (after_change s e)
file_stays s call (Created at file name perms) id keeps some leaves =
    of_slots s id _ (stays-set s.files file _ id some (λ same. absurd (not_made s.files file id (keeps RightFile) some same)))
file_stays s call (Access at piece fd file index block range true way bytes) id keeps some leaves = of_slots s id _ (same_slot (file_in s id) some)
file_stays s call (Access at piece fd file index block range false way bytes) id keeps some leaves = of_slots s id _ (same_slot (file_in s id) some)
file_stays s call (Extended at file to block) id keeps some leaves =
    of_slots s id _
    (stays-set s.files file (option_map (λ f. grown_file f block to) (file_in s file)) id some
    (λ same. changed_stays (file_in s file) (λ f. grown_file f block to) (subst (λ j. IsSome (file_in s j)) same some) grown))
  where
    grown : (f : Inode) → file_in s file ≡ Some f → SlotStays (Some f) (Some (grown_file f block to))
    grown f there =
        let grows : GrowsTo s f to = grows_to s file f to (goal_of s (place_in s call at)) there (keeps WithinLimit) (keeps NotRefused).1 in
        record {
          is_there = refl;
          blocks = slice_get-append f.blocks (option_to_list block);
          count = omega (arith, length-append f.blocks (option_to_list block));
          size = omega (arith, grows.larger);
        }
file_stays s call (Released at file index block) id keeps some leaves =
    of_slots s id _ (stays-set s.files file (option_map without_last (file_in s file)) id some (λ same. absurd (leaves (sym same))))
file_stays s call (Sized at fd size) id keeps some leaves = by (descriptor_at s at.process fd) refl
  where
    by : (slot : Option Descriptor) → descriptor_at s at.process fd ≡ slot →
        FileStays s id (option_map_or (λ (d : Descriptor). with_size s d.file size) slot s)
    by None is = of_slots s id s (same_slot (file_in s id) some)
    by (Some d) is =
        of_slots s id (with_size s d.file size)
        (stays-set s.files d.file (option_map (λ (f : Inode). record f { size = size }) (file_in s d.file)) id some
        (λ same.
        let larger : size_in s d.file ≤ size = subst (λ j. size_in s j ≤ size) same (leaves d is (sym same)) in
        changed_stays (file_in s d.file) (λ (f : Inode). record f { size = size }) (subst (λ j. IsSome (file_in s j)) same some)
        (λ f there.
        let was : size_in s d.file ≡ f.size = ap (λ (o : Option Inode). option_map_or (λ (f : Inode). f.size) o 0) there in
        record { is_there = refl; blocks = λ index block at_index. at_index; count = omega arith; size = omega (arith, larger, was) })))
file_stays s call (Unlinked at file) id keeps some leaves = of_slots s id _ (stays-set s.files file None id some (λ same. absurd (leaves (sym same))))
file_stays s call other id keeps some leaves = of_slots s id _ (same_slot (file_in s id) some)

-- ---- files on which rights are attached

-- while a right on the file is attached, no entry that keeps the rule of rights takes anything from it
rights_leave_whole : (s : Store) (call : Call) (e : Entry) (id : ℕ) → KeepsAll s call e → has_rights_on s id ≡ true → LeavesWhole s id e
rights_leave_whole s call (Released at file index block) id keeps rights =
    λ same. both_ways (has_rights_on s id) (ap (has_rights_on s) (sym same) ∙ keeps Rights) rights
rights_leave_whole s call (Sized at fd size) id keeps rights =
    λ d is same.
    let the = keeps Rights in
    let one : the.0 ≡ d = same_Some the.0 d (sym the.1 ∙ is) in
    let of_id : the.0.file ≡ id = ap (λ (x : Descriptor). x.file) one ∙ same in
    elim (cases_lt size (size_in s id)) [
      | inl lower ↦
          absurd (both_ways (has_rights_on s id)
          (ap (has_rights_on s) (sym of_id) ∙ the.2 (subst (λ j. size < size_in s j) (sym of_id) lower)) rights)
      | inr larger ↦ larger
    ]
rights_leave_whole s call (Unlinked at file) id keeps rights =
    λ same. both_ways (has_rights_on s id) (ap (has_rights_on s) (sym same) ∙ keeps Rights) rights
rights_leave_whole s call other id keeps rights = tt

-- so the file stays
pub file_with_rights_stays : (s : Store) (call : Call) (e : Entry) (id : ℕ) → KeepsAll s call e → IsSome (file_in s id) →
    has_rights_on s id ≡ true → FileStays s id (after_change s e)
file_with_rights_stays s call e id keeps some rights = file_stays s call e id keeps some (rights_leave_whole s call e id keeps rights)
