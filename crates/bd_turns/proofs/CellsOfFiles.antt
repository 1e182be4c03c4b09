-- The cells of a file's blocks, and which an entry changes of a file on which a right is attached.
use Rattle.std.proofs.Common.{◌≡◌, ◌≢◌, inl, inr, ℕ, zero, suc, ◌+◌, ◌-◌, ◌*◌, ◌/◌, ◌%◌, ◌<◌, ◌≤◌, min, true, false, List, [], ◌∷◌, ◌++◌, length, slice_set, Option, None, Some, IsSome, is_some, arith, refl, sym, ap, ◌∙◌, subst}
use Rattle.std.specs.Prelude.{nat_lt, slice_get}
use Rattle.std.specs.Option.{option_map, option_map_or}
use Rattle.std.proofs.lemmas.Bool.{both_ways, cases_eq, cases_lt, cond-true, lt-ltb}
use Rattle.std.proofs.lemmas.List.{append-nil, length-append}
use Rattle.std.proofs.lemmas.Option.{same_Some, slice_get_past}
use Rattle.bd_base.specs.declared.key.Cell.{Cell}
use Rattle.bd_base.specs.declared.limits.TheConstants.{BLOCK_SIZE}
use Rattle.bd_base.specs.declared.journal.At.{At}
use Rattle.bd_base.specs.declared.volume.Inode.{Inode}
use Rattle.bd_base.specs.Files.{blocks_for, limit_of}
use Rattle.bd_base.specs.Inodes.{growth_block, grown_file, inode_at}
use Rattle.bd_base.proofs.FileLists.{inode_at-set_other, inode_at-set_same, inode_at-within}
use Rattle.bd_base.proofs.Takes.{enough_grown, enough_within, full_before}
use Rattle.bd_base.proofs.ValidFiles.{free_id-free}
use Rattle.bd_entry.specs.declared.entry.Entry.{Entry}
use Rattle.bd_entry.specs.declared.entry.Entry.TheVariants.{Access, Created, Extended, Released, Sized, Unlinked}
use Rattle.bd_entry.specs.Calls.{Place}
use Rattle.bd_entry.specs.Effects.{after_change, effect_of, with_size}
use Rattle.bd_entry.specs.Refusals.{goal_of}
use Rattle.bd_entry.specs.Rules.{EntryRule, FitsStore, NotRefused, RightBlock, RightFile, Rights, WithinLimit}
use Rattle.bd_entry.specs.Store.{Descriptor, Store, Valid, descriptor_at, file_in, has_rights_on, size_in}
use Rattle.bd_entry.proofs.EffectsOnFiles.{effect_of-files}
use Rattle.bd_entry.proofs.SoundVolumes.{GrowsTo, grows_to}
use Rattle.bd_turns.specs.Sound.{cell_of_block}

-- ---- files on which rights are attached

-- the entry keeps each rule of stores at this place
abbrev pub KeepsAt : Store → Place → Entry → Type 0
KeepsAt s p e = (rule : EntryRule) → FitsStore s p e rule

-- the entry does not grow the file, nor sets a size above that of it
abbrev pub DoesNotGrow : Store → Place → ℕ → Entry → Type 0
DoesNotGrow s p id (Extended at file to block) = file ≢ id
DoesNotGrow s p id (Sized at fd size) = (d : Descriptor) → descriptor_at s at.process fd ≡ Some d → d.file ≡ id → size ≤ size_in s id
DoesNotGrow s p id e = Unit {0}

-- the place is that of the entry's process
abbrev pub IsOfProcess : Place → Entry → Type 0
IsOfProcess p (Sized at fd size) = at.process ≡ p.at.process
IsOfProcess p e = Unit {0}

other_file : (files : List (Option Inode)) (file id : ℕ) (slot : Option Inode) → file ≢ id → inode_at (slice_set files file slot) id ≡ inode_at files id
other_file files file id slot other = inode_at-set_other files file id slot (λ same. other (sym same))

-- a file with rights is not one without
with_rights : (s : Store) (file id : ℕ) → has_rights_on s id ≡ true → has_rights_on s file ≡ false → file ≢ id
with_rights s file id some none same = both_ways (has_rights_on s id) (ap (has_rights_on s) (sym same) ∙ none) some

-- a file that gets the size that it has is as before
same_size : (f : Inode) (size : ℕ) → size ≡ f.size → Some (record f { size = size }) ≡ Some f
same_size f size same = ap (λ (n : ℕ). Some (record f { size = n })) same

-- an entry that does not grow a file with rights leaves it
pub file_kept_by_change : (s : Store) (p : Place) (e : Entry) (id : ℕ) → KeepsAt s p e → IsOfProcess p e → IsSome (file_in s id) →
    has_rights_on s id ≡ true →
    DoesNotGrow s p id e → file_in (after_change s e) id ≡ file_in s id
file_kept_by_change s p (Created at file name perms) id keeps of some rights still =
    other_file s.files file id _
    (λ same. both_ways (is_some (inode_at s.files id))
    (ap (λ (k : ℕ). is_some (inode_at s.files k)) (sym same) ∙ ap is_some (free_id-free s.files file (keeps RightFile)).1) some)
file_kept_by_change s p (Access at piece fd file index block range true way bytes) id keeps of some rights still = refl
file_kept_by_change s p (Access at piece fd file index block range false way bytes) id keeps of some rights still = refl
file_kept_by_change s p (Extended at file to block) id keeps of some rights still = other_file s.files file id _ still
file_kept_by_change s p (Released at file index block) id keeps of some rights still =
    other_file s.files file id _ (with_rights s file id rights (keeps Rights))
file_kept_by_change s p (Unlinked at file) id keeps of some rights still =
    other_file s.files file id None (with_rights s file id rights (keeps Rights))
file_kept_by_change s p (Sized at fd size) id keeps of some rights still = by (descriptor_at s at.process fd) refl
  where
    resized : (d : Descriptor) → descriptor_at s at.process fd ≡ Some d → d.file ≡ id → (slot : Option Inode) → file_in s id ≡ slot →
        file_in (with_size s d.file size) id ≡ slot
    resized d is same None none = absurd (both_ways (is_some (file_in s id)) (ap is_some none) some)
    resized d is same (Some f) there =
        let the = keeps Rights in
        let one : the.0 ≡ d = same_Some the.0 d (sym the.1 ∙ ap (λ (n : ℕ). descriptor_at s n fd) (sym of) ∙ is) in
        let of_id : the.0.file ≡ id = ap (λ (x : Descriptor). x.file) one ∙ same in
        let no_larger : size ≤ size_in s id = still d is same in
        let was : size_in s id ≡ f.size = ap (λ (o : Option Inode). option_map_or (λ (f : Inode). f.size) o 0) there in
        let not_lower : f.size ≤ size = elim (cases_lt size (size_in s id)) [
          | inl lower ↦
              absurd (with_rights s the.0.file id rights (the.2 (subst (λ (j : ℕ). size < size_in s j) (sym of_id) lower)) of_id)
          | inr larger ↦ omega arith
        ] in
        let inside = inode_at-within s.files d.file (subst (λ (j : ℕ). IsSome (inode_at s.files j)) (sym same) some) in
        ap (λ (j : ℕ). file_in (with_size s d.file size) j) (sym same)
        ∙ inode_at-set_same s.files d.file (option_map (λ (f : Inode). record f { size = size }) (file_in s d.file)) inside
        ∙ ap (λ (j : ℕ). option_map (λ (f : Inode). record f { size = size }) (file_in s j)) same
        ∙ ap (option_map (λ (f : Inode). record f { size = size })) there
        ∙ same_size f size (omega arith)

    by : (slot : Option Descriptor) → descriptor_at s at.process fd ≡ slot →
        file_in (option_map_or (λ (d : Descriptor). with_size s d.file size) slot s) id ≡ file_in s id
    by None is = refl
    by (Some d) is = elim (cases_eq d.file id) [
      | inl same ↦ resized d is same (file_in s id) refl
      | inr other ↦ other_file s.files d.file id _ other
    ]
file_kept_by_change s p e id keeps of some rights still = refl

-- so it is the same after the entry
pub file_kept : (s : Store) (p q : Place) (e : Entry) (id : ℕ) → KeepsAt s p e → IsOfProcess p e → IsSome (file_in s id) →
    has_rights_on s id ≡ true → DoesNotGrow s p id e → file_in (effect_of s q e) id ≡ file_in s id
file_kept s p q e id keeps of some rights still =
    ap (λ (files : List (Option Inode)). inode_at files id) (effect_of-files s q e).files
    ∙ file_kept_by_change s p e id keeps of some rights still

-- ---- the cells of a file

-- the cell of a block of the file in a slot
abbrev pub cell_of_slot : Option Inode → ℕ → Option Cell
cell_of_slot slot index =
    cell_of_block (record { total = 0; uids = []; files = slot ∷ []; bytes = []; opens = []; work = [] }) 0 index

-- a store's file has those of its slot
pub cells_by_slot : (s t : Store) (file other index : ℕ) → file_in s file ≡ file_in t other → cell_of_block s file index ≡ cell_of_block t other index
cells_by_slot s t file other index same = ap (λ (slot : Option Inode). cell_of_slot slot index) same

pub cell_absent : (f : Inode) (index : ℕ) → slice_get f.blocks index ≡ None → cell_of_slot (Some f) index ≡ None
cell_absent f index none = rw none refl

pub cell_there : (f : Inode) (index block : ℕ) → slice_get f.blocks index ≡ Some block →
    cell_of_slot (Some f) index ≡ Some (record { block = block; limit = limit_of f.size f.blocks index })
cell_there f index block is = rw is refl

-- ---- a file that grows

-- a block of a list is one of a longer list
pub get-append : (xs ys : List ℕ) (i : ℕ) → i < length xs → slice_get (xs ++ ys) i ≡ slice_get xs i
get-append [] ys i within = absurd (let none : i < 0 = within in omega arith)
get-append (x ∷ xs) ys zero within = refl
get-append (x ∷ xs) ys (suc i) within = get-append xs ys i (let less : suc i < suc (length xs) = within in omega arith)

pub get-last : (xs : List ℕ) (x i : ℕ) → i ≡ length xs → slice_get (xs ++ x ∷ []) i ≡ Some x
get-last [] x zero is = refl
get-last [] x (suc i) is = absurd (let no_index : suc i ≡ 0 = is in omega arith)
get-last (y ∷ xs) x zero is = absurd (let no_index : 0 ≡ suc (length xs) = is in omega arith)
get-last (y ∷ xs) x (suc i) is = get-last xs x i (let same : suc i ≡ suc (length xs) = is in omega arith)

pub limit_there : (size : ℕ) (blocks : List ℕ) (index : ℕ) → index < length blocks → limit_of size blocks index ≡ min BLOCK_SIZE (size - BLOCK_SIZE * index)
limit_there size blocks index within = cond-true (nat_lt index (length blocks)) _ _ (lt-ltb index (length blocks) within)

-- what a growth does to a file: its last block is new, or reaches further
pub data Grown (f : Inode) (to : ℕ) : Option ℕ → Type 0 where
  by_block : (block : ℕ) → (to - 1) / BLOCK_SIZE ≡ length f.blocks → Grown f to (Some block)
  in_block : (last : ℕ) → slice_get f.blocks ((to - 1) / BLOCK_SIZE) ≡ Some last → length f.blocks ≡ (to - 1) / BLOCK_SIZE + 1 → Grown f to None

pub record Grows (f : Inode) (to : ℕ) (block : Option ℕ) : Type 0 where
  pub larger : f.size < to
  pub how : Grown f to block
  pub others : (index : ℕ) → index ≢ (to - 1) / BLOCK_SIZE → cell_of_slot (Some (grown_file f block to)) index ≡ cell_of_slot (Some f) index

pub some_at : (xs : List ℕ) (i : ℕ) → i < length xs → (x : ℕ) × (slice_get xs i ≡ Some x)
some_at [] i within = absurd (let none : i < 0 = within in omega arith)
some_at (x ∷ xs) zero within = (x, refl)
some_at (x ∷ xs) (suc i) within = some_at xs i (let less : suc i < suc (length xs) = within in omega arith)

-- a block before the last one of a file that grows is full
others_stay : (f : Inode) (to index : ℕ) (more : List ℕ) → f.size < to → (index < length f.blocks → BLOCK_SIZE * (index + 1) ≤ f.size) →
    (length f.blocks ≤ index → slice_get (f.blocks ++ more) index ≡ None) →
    cell_of_slot (Some (record f { size = to; blocks = f.blocks ++ more })) index ≡ cell_of_slot (Some f) index
others_stay f to index more larger full past = elim (cases_lt index (length f.blocks)) [
  | inl within ↦
      let there = some_at f.blocks index within in
      let enough : BLOCK_SIZE * (index + 1) ≤ f.size = full within in
      let longer : index < length (f.blocks ++ more) = omega (arith, length-append f.blocks more) in
      let limit : limit_of to (f.blocks ++ more) index ≡ limit_of f.size f.blocks index =
      limit_there to (f.blocks ++ more) index longer ∙ omega arith ∙ sym (limit_there f.size f.blocks index within) in
      cell_there (record f { size = to; blocks = f.blocks ++ more }) index there.0 (get-append f.blocks more index within ∙ there.1)
      ∙ ap (λ (n : ℕ). Some (record { block = there.0; limit = n })) limit
      ∙ sym (cell_there f index there.0 there.1)
  | inr beyond ↦
      cell_absent (record f { size = to; blocks = f.blocks ++ more }) index (past beyond)
      ∙ sym (cell_absent f index (slice_get_past f.blocks index beyond))
]

pub grows : (s : Store) (p : Place) (at : At) (file to : ℕ) (block : Option ℕ) (f : Inode) → Valid s → KeepsAt s p (Extended at file to block) →
    file_in s file ≡ Some f → Grows f to block
grows s p at file to block f valid keeps there = by block planned
  where
    the_file : (g : Inode) × (file_in s file ≡ Some g) × (growth_block s.total s.files g ≡ block)
    the_file = keeps RightBlock

    same : the_file.0 ≡ f
    same = same_Some the_file.0 f (sym the_file.1 ∙ there)

    planned : growth_block s.total s.files f ≡ block
    planned = ap (growth_block s.total s.files) (sym same) ∙ the_file.2

    grows_far : GrowsTo s f to
    grows_far = grows_to s file f to (goal_of s p) there (keeps WithinLimit) (keeps NotRefused).1

    enough : length f.blocks ≡ blocks_for f.size
    enough = (valid.volume.files.valid.each file f there).enough_blocks

    by : (block : Option ℕ) → growth_block s.total s.files f ≡ block → Grows f to block
    by None takes =
        let more : length f.blocks ≡ blocks_for to =
        enough_within s.total s.files f grows_far.goal to grows_far.allowed takes enough grows_far.larger grows_far.near in
        let larger : f.size < to = grows_far.larger in
        let last = some_at f.blocks ((to - 1) / BLOCK_SIZE) (omega arith) in
        record {
          larger = larger;
          how = in_block last.0 last.1 (omega arith);
          others = λ index other.
              others_stay f to index [] larger (λ inside. omega (arith, enough))
              (λ beyond. ap (λ (xs : List ℕ). slice_get xs index) (append-nil f.blocks) ∙ slice_get_past f.blocks index beyond);
        }
    by (Some block) takes =
        let more : length f.blocks + 1 ≡ blocks_for to = enough_grown s.total s.files f to block takes enough grows_far.larger grows_far.near in
        let whole : f.size % BLOCK_SIZE ≡ 0 = full_before s.total s.files f block takes in
        let larger : f.size < to = grows_far.larger in
        record {
          larger = larger;
          how = by_block block (omega arith);
          others = λ index other.
              others_stay f to index (block ∷ []) larger (λ inside. omega (arith, enough))
              (λ beyond. slice_get_past (f.blocks ++ block ∷ []) index (omega (arith, length-append f.blocks (block ∷ []))));
        }
