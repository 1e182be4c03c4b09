-- Every number of an entry of a legal journal in order is in its range.
use Rattle.std.proofs.Common.{◌≡◌, ℕ, ◌+◌, ◌-◌, ◌*◌, ◌/◌, ◌%◌, ◌<◌, ◌≤◌, min, Bool, true, false, cond, List, [], ◌∷◌, ◌++◌, length, zero, suc, Option, None, Some, refl, sym, ap, ◌∙◌, subst, arith}
use Rattle.std.specs.Prelude.{is_some, nat_eq, nat_le, nat_lt, not, slice_get, slice_index_or, All, IsSome}
use Rattle.std.specs.Option.{option_and_then, option_map_or}
use Rattle.std.specs.List.Sorted.{IsStrictlyIncreasing}
use Rattle.std.proofs.lemmas.Bool.{and_parts, ltb-true, eqb-true}
use Rattle.std.proofs.lemmas.List.Elements.{All-cons, All-head, All-nil, All-tail}
use Rattle.std.proofs.lemmas.List.Folds.{Any-from_list_any}
use Rattle.std.proofs.lemmas.List.Quantifiers.{position-Some}
use Rattle.std.proofs.lemmas.Option.{MatchOption-at_some, cond_some, get_or_from_slice_get, none-some, slice_get_within}
use Rattle.bd_base.specs.declared.limits.TheConstants.{BLOCKS, BLOCK_SIZE, CALLS, DESCRIPTORS, FILES, FILE_BLOCKS, FILE_SIZE, PARTS, PERMS, PROCESSES}
use Rattle.bd_base.specs.declared.script.Call.{Call}
use Rattle.bd_base.specs.declared.script.Call.TheVariants.{Create}
use Rattle.bd_base.specs.declared.script.Process.{Process}
use Rattle.bd_base.specs.declared.script.Script.{Script}
use Rattle.bd_base.specs.declared.journal.Found.{Found}
use Rattle.bd_base.specs.declared.journal.Found.TheVariants.{Beyond}
use Rattle.bd_base.specs.declared.volume.Inode.{Inode}
use Rattle.bd_base.specs.Allocation.{allocated_block, is_data_block, last_block, times_listed}
use Rattle.bd_base.specs.Bounds.{Bounds}
use Rattle.bd_base.specs.Files.{blocks_for, data_start}
use Rattle.bd_base.specs.Inodes.{IsValidFile, block_lists, blocks_of_slot, growth_block, is_free}
use Rattle.bd_base.specs.Names.{IsName}
use Rattle.bd_base.specs.Pieces.{Piece}
use Rattle.bd_base.specs.Scripts.{IsCall, IsProcess, IsWithinLimits}
use Rattle.bd_base.proofs.FileLists.{inode_at-within}
use Rattle.bd_base.proofs.Growth.{allocated_block-free}
use Rattle.bd_base.proofs.Ranges.{find-range_lowest}
use Rattle.bd_entry.specs.declared.entry.Entry.{Entry}
use Rattle.bd_entry.specs.declared.entry.Entry.TheVariants.{Access, Attached, Cleared, Closed, Created, Detached, Extended, Mapped, Missed, Opened, Refused, Released, SizeRead, Sized, Unlinked}
use Rattle.bd_entry.specs.declared.limits.TheConstants.{ASKED_PERMS}
use Rattle.bd_entry.specs.Calls.{Place, at_of, call_at, calls_of, does_write, piece_of_call}
use Rattle.bd_entry.specs.History.{InOrderFrom, Legal}
use Rattle.bd_entry.specs.Laws.{HistoriesHaveReadings}
use Rattle.bd_entry.specs.Ranges.{IsBytes, IsEntry, IsFound, IsInRange, IsOptional}
use Rattle.bd_entry.specs.Refusals.{descriptor_of, file_of, goal_of, next_size}
use Rattle.bd_entry.specs.Rules.{EntryRule, FitsScript, FitsStore, IsOpen, NextCall, NotRefused, RightBlock, RightBytes, RightFile, Rights, WithinLimit, place_in}
use Rattle.bd_entry.specs.RulesOfCalls.{CreatesAs, IsOfCall}
use Rattle.bd_entry.specs.RulesOfContents.{IsContent, MayGrowToGoal}
use Rattle.bd_entry.specs.RulesOfRights.{MayMiss}
use Rattle.bd_entry.specs.Store.{Descriptor, Store, Valid, blocks_in, descriptor_at, file_in, has_part, is_empty_slot, limit_in, lowest_unattached, parts_in, size_in, slots_of, start_store, work_of}
use Rattle.bd_entry.proofs.Descriptors.{attaching, sound_all}
use Rattle.bd_entry.proofs.CallEntries.{AreOfCall-parts}
use Rattle.bd_entry.proofs.CallOrder.{start_of}
use Rattle.bd_entry.proofs.CallPieces.{All-slice_get, piece_of_call-in_block}
use Rattle.bd_entry.proofs.ChangedStores.{file_of-there}
use Rattle.bd_entry.proofs.HistoryLaws.{IsLed, is_call, led-push, led_at_start, next_entry, process_there}
use Rattle.bd_entry.proofs.RangesOfPieces.{bytes_for_piece-block_bytes, no_bytes, piece_of_call-is, slice_range-block_bytes}
use Rattle.bd_entry.proofs.RangesOfReasons.{HasFewRows, piece_refusal-in_range, refusal_of-in_range}
use Rattle.bd_entry.proofs.Slots.{row_within, slot_within, some_of}

-- ---- sets of parts

-- the numbers of an ascending list are not below their places
not_below_place : (xs : List ℕ) → IsStrictlyIncreasing xs → (i : ℕ) → i < length xs → i ≤ slice_index_or xs i 0
not_below_place xs up zero within = omega arith
not_below_place xs up (suc i) within =
    let before : i ≤ slice_index_or xs i 0 = not_below_place xs up i (omega arith) in
    let next : slice_index_or xs i 0 < slice_index_or xs (i + 1) 0 = up i (omega arith) in
    let same : slice_index_or xs (i + 1) 0 ≡ slice_index_or xs (suc i) 0 = ap (λ (n : ℕ). slice_index_or xs n 0) (omega arith) in
    omega arith

-- an ascending list of numbers below n has at most n
few_below : (n : ℕ) (xs : List ℕ) → IsStrictlyIncreasing xs → All (λ x. x < n) xs → length xs ≤ n
few_below n [] up all = omega arith
few_below n (x ∷ xs) up all =
    let last = length xs in
    let within : last < length (x ∷ xs) = omega arith in
    let high : last ≤ slice_index_or (x ∷ xs) last 0 = not_below_place (x ∷ xs) up last within in
    let low : slice_index_or (x ∷ xs) last 0 < n = all last 0 within in
    omega arith

-- a part that is in a set of which something holds
of_part : (P : ℕ → Type 0) (part : ℕ) (xs : List ℕ) → All P xs → has_part part xs ≡ true → P part
of_part P part xs all has =
    let some = Any-from_list_any (nat_eq part) xs has in
    subst P (some.3 ∙ sym (eqb-true part some.1 some.4)) (all some.0 some.1 some.2)

-- ---- what is known at an entry

-- the entry of a call within the limits keeps the rules at its place in a valid store with few rows
pub record IsKeptAt (s : Store) (call : Call) (e : Entry) : Type 0 where
  pub valid : Valid s
  pub few : length s.opens ≤ PROCESSES
  pub is_call : IsCall call
  pub of_call : IsOfCall (place_in s call (at_of e)) e
  pub keeps : (rule : EntryRule) → FitsStore s (place_in s call (at_of e)) e rule

-- a descriptor that is open has numbers in their ranges
record IsOpenHolder (process fd : ℕ) : Type 0 where
  process_is : process < PROCESSES
  fd_is : fd < DESCRIPTORS

open_holder : (s : Store) → Valid s → length s.opens ≤ PROCESSES → (process fd : ℕ) → IsSome (descriptor_at s process fd) →
    IsOpenHolder process fd
open_holder s valid few process fd is_open =
    let it = some_of (descriptor_at s process fd) is_open in
    let within : process < length s.opens = row_within s.opens process fd it.0 it.1 in
    let row : length (slots_of s process) ≡ DESCRIPTORS = valid.rows.slots process [] within in
    let slot : fd < length (slots_of s process) = slot_within (slots_of s process) fd it.0 it.1 in
    record { process_is = omega arith; fd_is = omega arith }

some_is : {X : Type 0} (o : Option X) (x : X) → o ≡ Some x → IsSome o
some_is None x e = absurd (none-some x e)
some_is (Some y) x e = refl

-- a file that is there
record IsFileAt (s : Store) (id : ℕ) (f : Inode) : Type 0 where
  id_is : id < FILES
  size : f.size ≤ FILE_SIZE
  blocks : length f.blocks ≤ FILE_BLOCKS
  below_end : All (λ block. block < BLOCKS) f.blocks

file_id : (s : Store) → Valid s → (id : ℕ) → IsSome (file_in s id) → id < FILES
file_id s valid id there =
    let within : id < length s.files = inode_at-within s.files id there in
    let few : length s.files ≤ FILES = valid.volume.files.valid.few_files in
    omega arith

file_at : (s : Store) → Valid s → (id : ℕ) (f : Inode) → file_in s id ≡ Some f → IsFileAt s id f
file_at s valid id f is =
    let file : IsValidFile s.total (length s.files) f = valid.volume.files.valid.each id f is in
    let few : s.total ≤ BLOCKS = valid.volume.files.valid.few_blocks in
    let size : f.size ≤ FILE_SIZE = file.size_in_range in
    let blocks : length f.blocks ≡ blocks_for f.size = file.enough_blocks in
    record {
      id_is = file_id s valid id (some_is (file_in s id) f is);
      size = size;
      blocks = omega arith;
      below_end = λ k d within.
          let in_area = file.in_data_area k d within in
          let below : slice_index_or f.blocks k d < s.total =
          ltb-true (slice_index_or f.blocks k d) s.total
          (and_parts (nat_le _ (slice_index_or f.blocks k d)) (nat_lt (slice_index_or f.blocks k d) s.total) in_area).1 in
          omega arith;
    }

-- a block of a file
file_block : (s : Store) → Valid s → (id : ℕ) (f : Inode) → file_in s id ≡ Some f → (index block : ℕ) →
    slice_get f.blocks index ≡ Some block → block < BLOCKS
file_block s valid id f is index block at =
    subst (λ (b : ℕ). b < BLOCKS) (get_or_from_slice_get f.blocks index block block at)
    ((file_at s valid id f is).below_end index block (slice_get_within f.blocks index block at))

-- how many blocks and bytes a file has, if there is one
few_blocks : (s : Store) → Valid s → (id : ℕ) → (length (blocks_in s id) ≤ FILE_BLOCKS) × (size_in s id ≤ FILE_SIZE)
few_blocks s valid id = by_slot (file_in s id) refl
  where
    by_slot : (slot : Option Inode) → file_in s id ≡ slot → (length (blocks_in s id) ≤ FILE_BLOCKS) × (size_in s id ≤ FILE_SIZE)
    by_slot None none = rw none (omega arith, omega arith)
    by_slot (Some f) is = let file = file_at s valid id f is in rw is (file.blocks, file.size)

-- a block of the file of an id, if the file has one there
any_block : (s : Store) → Valid s → (id index : ℕ) (block : Option ℕ) → slice_get (blocks_in s id) index ≡ block → IsOptional BLOCKS block
any_block s valid id index None is = tt
any_block s valid id index (Some block) is = by_slot (file_in s id) refl
  where
    by_slot : (slot : Option Inode) → file_in s id ≡ slot → block < BLOCKS
    by_slot None none = absurd (none-some block (sym (ap (λ (o : Option Inode). slice_get (blocks_of_slot o) index) none) ∙ is))
    by_slot (Some f) at = file_block s valid id f at index block (sym (ap (λ (o : Option Inode). slice_get (blocks_of_slot o) index) at) ∙ is)

-- the parts of a descriptor are few
few_parts : (s : Store) → Valid s → (process fd : ℕ) (d : Descriptor) → descriptor_at s process fd ≡ Some d → All (λ part. part < PARTS) d.attached
few_parts s valid process fd d is k x within =
    let below : slice_index_or d.attached k x < parts_in s d.file = (valid.descriptors process fd d is).parts k x within in
    let few = (few_blocks s valid d.file).0 in
    omega arith

-- ---- the numbers of each kind

-- a row of descriptors has no more slots than a process has descriptors
few_slots : (rows : List (List (Option Descriptor))) (process : ℕ) → All (λ (row : List (Option Descriptor)). length row ≡ DESCRIPTORS) rows →
    length (slice_index_or rows process []) ≤ DESCRIPTORS
few_slots [] process all = omega arith
few_slots (row ∷ rows) zero all =
    let is : length row ≡ DESCRIPTORS = All-head (λ (row : List (Option Descriptor)). length row ≡ DESCRIPTORS) row rows all in
    omega arith
few_slots (row ∷ rows) (suc process) all = few_slots rows process (All-tail (λ (row : List (Option Descriptor)). length row ≡ DESCRIPTORS) row rows all)

-- the file of the call
call_file : (s : Store) → Valid s → (p : Place) (file : ℕ) → file_of s p ≡ Some file → file < FILES
call_file s valid p file is = file_id s valid file (file_of-there s p (attaching s.work) file (sound_all s valid.descriptors) is)

created_in_range : (call : Call) (name : List ℕ) (perms : ℕ) → IsCall call → CreatesAs call name perms → IsName name × (perms < ASKED_PERMS)
created_in_range (Create asked asked_perms) name perms ok creates =
    let same : perms ≡ asked_perms = creates.1 in
    let low : asked_perms < PERMS = ok.1 in
    (subst IsName (sym creates.0) ok.0, omega arith)
created_in_range call name perms ok creates = absurd creates

-- the part that a descriptor is given a right on next
attached_in_range : (s : Store) → Valid s → (d : Descriptor) (part : ℕ) → lowest_unattached s d ≡ Some part → part < PARTS
attached_in_range s valid d part is =
    let below : part < 0 + parts_in s d.file = (find-range_lowest (λ q. not (has_part q d.attached)) 0 (parts_in s d.file) part is).to in
    let few = (few_blocks s valid d.file).0 in
    omega arith

-- a part that a descriptor has a right on
right_in_range : (s : Store) → Valid s → (owner fd : ℕ) (d : Descriptor) (part : ℕ) → descriptor_at s owner fd ≡ Some d →
    has_part part d.attached ≡ true → part < PARTS
right_in_range s valid owner fd d part is has = of_part (λ q. q < PARTS) part d.attached (few_parts s valid owner fd d is) has

-- the bytes of an access
access_bytes : (s : Store) (p : Place) (file index : ℕ) (block : Option ℕ) (range : Bounds) (wrote : Bool) (bytes : List ℕ) → Valid s →
    IsCall p.call →
    range.hi ≤ BLOCK_SIZE → IsContent s p file index block range wrote bytes → IsBytes bytes
access_bytes s p file index block range true bytes valid ok within is =
    subst IsBytes (sym is) (bytes_for_piece-block_bytes p.call (record { index = index; range = range }) ok within)
access_bytes s p file index None range false bytes valid ok within is = subst IsBytes (sym is) no_bytes
access_bytes s p file index (Some block) range false bytes valid ok within is =
    let limit = limit_in s file index in
    subst IsBytes (sym is)
    (slice_range-block_bytes s.bytes (BLOCK_SIZE * block + range.lo) (BLOCK_SIZE * block + min range.hi limit) valid.volume.are_bytes (omega arith))

-- what a walk found
found_in_range : (s : Store) (writes : Bool) (slot : Option Descriptor) (found : Found) (piece : Piece) → piece.range.hi ≤ BLOCK_SIZE →
    MayMiss s writes slot found piece → IsFound found
found_in_range s writes None (Beyond limit) piece within misses = absurd misses
found_in_range s writes (Some d) (Beyond limit) piece within misses =
    let least : 1 ≤ limit = misses.2 in
    let most : limit < piece.range.hi = misses.3 in
    (least, omega arith)
found_in_range s writes slot other piece within misses = tt

-- the size to which a file grows
grown_in_range : (s : Store) (file to : ℕ) (goal : Option ℕ) → option_and_then (next_size (size_in s file)) goal ≡ Some to →
    MayGrowToGoal s file goal → to ≤ FILE_SIZE
grown_in_range s file to None is may = absurd (none-some to is)
grown_in_range s file to (Some goal) is may =
    let size = size_in s file in
    let next : min goal (BLOCK_SIZE * (size / BLOCK_SIZE + 1)) ≡ to =
    (cond_some (nat_lt size goal) (min goal (BLOCK_SIZE * (size / BLOCK_SIZE + 1))) to is).1 in
    let high : goal ≤ FILE_SIZE = may.within in
    omega arith

-- the block that a growth takes
growth_block_in_range : (s : Store) → Valid s → (f : Inode) (block : Option ℕ) → growth_block s.total s.files f ≡ block → IsOptional BLOCKS block
growth_block_in_range s valid f None is = tt
growth_block_in_range s valid f (Some block) is =
    let free = is_free s.total s.files in
    let taken : allocated_block free s.total (last_block f.blocks) ≡ Some block =
    some_branch (nat_eq (f.size % BLOCK_SIZE) 0) (allocated_block free s.total (last_block f.blocks)) is in
    let is_free_one = allocated_block-free free s.total (last_block f.blocks) block taken in
    let in_area = (and_parts (is_data_block s.total (length s.files) block) (nat_eq (times_listed (block_lists s.files) block) 0) is_free_one).0 in
    let below : block < s.total = ltb-true block s.total (and_parts (nat_le (data_start (length s.files)) block) (nat_lt block s.total) in_area).1 in
    let few : s.total ≤ BLOCKS = valid.volume.files.valid.few_blocks in
    omega arith
  where
    some_branch : (b : Bool) (o : Option ℕ) → cond b o None ≡ Some block → o ≡ Some block
    some_branch true o e = e
    some_branch false o e = absurd (none-some block e)

in_range : (s : Store) (call : Call) (e : Entry) → IsKeptAt s call e → IsInRange e
in_range s call (Opened at file fd mode how) kept =
    let slot : fd < length (slots_of s at.process) = (position-Some is_empty_slot (slots_of s at.process) fd None (kept.keeps IsOpen)).0 in
    let few = few_slots s.opens at.process kept.valid.rows.slots in
    (call_file s kept.valid (place_in s call at) file (kept.keeps RightFile), omega arith)
in_range s call (Created at file name perms) kept =
    let within : file < length s.files = (position-Some (λ (f : Option Inode). not (is_some f)) s.files file None (kept.keeps RightFile)).0 in
    let few : length s.files ≤ FILES = kept.valid.volume.files.valid.few_files in
    let fields = created_in_range call name perms kept.is_call kept.of_call.fields in
    (omega arith, fields.0, fields.1)
in_range s call (Attached at fd part) kept =
    let right = kept.keeps Rights in
    ((open_holder s kept.valid kept.few at.process fd (kept.keeps IsOpen)).fd_is, attached_in_range s kept.valid right.0 part right.2.0)
in_range s call (Mapped at fd count) kept =
    let right = kept.keeps Rights in
    let d = right.0 in
    let few = few_below PARTS d.attached (kept.valid.descriptors at.process fd d right.1).ascending (few_parts s kept.valid at.process fd d right.1) in
    let same : count ≡ length d.attached = right.2.0 in
    ((open_holder s kept.valid kept.few at.process fd (kept.keeps IsOpen)).fd_is, omega arith)
in_range s call (Cleared at owner fd part) kept =
    let right = kept.keeps Rights in
    let holder = open_holder s kept.valid kept.few owner fd (kept.keeps IsOpen) in
    (holder.process_is, holder.fd_is, right_in_range s kept.valid owner fd right.0 part right.1 right.2.0.attached)
in_range s call (Detached at owner fd part) kept =
    let right = kept.keeps Rights in
    let holder = open_holder s kept.valid kept.few owner fd (kept.keeps IsOpen) in
    (holder.process_is, holder.fd_is, right_in_range s kept.valid owner fd right.0 part right.1 right.2.0)
in_range s call (Access at number fd file index block range wrote way bytes) kept =
    let piece = piece_of_call-is call number (record { index = index; range = range }) kept.is_call kept.of_call.fields.1.piece in
    let block_range = piece_of_call-in_block call number (record { index = index; range = range }) kept.is_call kept.of_call.fields.1.piece in
    let of_file = kept.keeps RightFile in
    let content = access_bytes s (place_in s call at) file index block range wrote bytes kept.valid kept.is_call block_range.within (kept.keeps RightBytes) in (
      piece.number_is,
      (open_holder s kept.valid kept.few at.process fd (kept.keeps IsOpen)).fd_is,
      subst (λ (id : ℕ). id < FILES) of_file.2 (file_id s kept.valid of_file.0.file (kept.valid.descriptors at.process fd of_file.0 of_file.1).of_file),
      piece.index,
      any_block s kept.valid file index block (kept.keeps RightBlock),
      (block_range.some, block_range.within),
      content,
    )
in_range s call (Missed at number found) kept =
    let may = kept.keeps Rights in
    let piece = piece_of_call-is call number may.0 kept.is_call may.1 in (
      piece.number_is,
      found_in_range s (does_write call) (descriptor_of s (place_in s call at)) found may.0
          (piece_of_call-in_block call number may.0 kept.is_call may.1).within may.2,
    )
in_range s call (Extended at file to block) kept =
    let file_is = kept.keeps RightBlock in (
      file_id s kept.valid file (some_is (file_in s file) file_is.0 file_is.1),
      grown_in_range s file to (goal_of s (place_in s call at)) (kept.keeps WithinLimit) (kept.keeps NotRefused).1,
      growth_block_in_range s kept.valid file_is.0 block file_is.2,
    )
in_range s call (Released at file index block) kept =
    let file_is = kept.keeps RightBlock in
    let f = file_is.0 in
    let at_file = file_at s kept.valid file f file_is.1 in
    let few : length f.blocks ≤ FILE_BLOCKS = at_file.blocks in
    let last : length f.blocks ≡ index + 1 = file_is.2.index_is in
    (at_file.id_is, omega arith, file_block s kept.valid file f file_is.1 (length f.blocks - 1) block file_is.2.block_is)
in_range s call (Sized at fd size) kept =
    let limit = kept.keeps WithinLimit in
    let few = (few_blocks s kept.valid limit.0.file).0 in
    let blocks : length (blocks_in s limit.0.file) ≡ blocks_for size = limit.2.1 in
    ((open_holder s kept.valid kept.few at.process fd (kept.keeps IsOpen)).fd_is, omega arith)
in_range s call (SizeRead at fd size) kept =
    let limit = kept.keeps WithinLimit in
    let few = (few_blocks s kept.valid limit.0.file).1 in
    let same : size ≡ size_in s limit.0.file = limit.2 in
    ((open_holder s kept.valid kept.few at.process fd (kept.keeps IsOpen)).fd_is, omega arith)
in_range s call (Closed at fd) kept = (open_holder s kept.valid kept.few at.process fd (kept.keeps IsOpen)).fd_is
in_range s call (Unlinked at file) kept = call_file s kept.valid (place_in s call at) file (kept.keeps RightFile)
in_range s call (Refused at None reason) kept =
    let rows : HasFewRows s = record { count = kept.few; slots = kept.valid.rows.slots } in
    (tt, MatchOption-at_some _ _ reason (kept.keeps NotRefused).first (refusal_of-in_range s rows (place_in s call at)))
in_range s call (Refused at (Some number) reason) kept =
    let it = some_of (piece_of_call call number) kept.of_call.fields in (
      (piece_of_call-is call number it.0 kept.is_call it.1).number_is,
      MatchOption-at_some _ _ reason (kept.keeps NotRefused).first (piece_refusal-in_range s (place_in s call at) number),
    )

-- ---- a journal

-- a process has few calls
pub few_calls : (script : Script) → IsWithinLimits script → (process : ℕ) → length (calls_of script process) ≤ CALLS
few_calls script limits process = by_process (slice_get script.processes process) refl
  where
    by_process : (o : Option Process) → slice_get script.processes process ≡ o → length (option_map_or (λ (p : Process). p.calls) o []) ≤ CALLS
    by_process None none = omega arith
    by_process (Some p) is = (All-slice_get IsProcess script.processes process p limits.processes is).count

-- an entry that is legal and in order
entry_in_range : (script : Script) (before : List Entry) (s : Store) (call : Call) (e : Entry) → IsWithinLimits script → IsLed script before s →
    ((rule : EntryRule) → FitsScript script before e rule) → call_at script (at_of e) ≡ Some call →
    ((rule : EntryRule) → FitsStore s (place_in s call (at_of e)) e rule) → IsEntry e
entry_in_range script before s call e limits led fits called keeps =
    let place : (at_of e).process < length script.processes = process_there script (at_of e) call called in
    let few : length script.processes ≤ PROCESSES = limits.process_count in
    let number : (at_of e).call < length (calls_of script (at_of e).process) = (fits NextCall).in_script in
    let few_of_process = few_calls script limits (at_of e).process in
    let work : length s.work ≡ length script.processes = led.rows in
    let opens : length s.work ≡ length s.opens = led.valid.rows.work in
    let next = next_entry script before s call e led fits called in
    record {
      at = record { process = omega arith; call = omega arith };
      fields =
          in_range s call e
          (record {
            valid = led.valid;
            few = omega arith;
            is_call = is_call script (at_of e) call limits called;
            of_call = (AreOfCall-parts (start_of call (at_of e)) (work_of s (at_of e).process) (e ∷ []) next.of_call).1.0;
            keeps = keeps;
          });
    }

entries_in_range : (script : Script) (before : List Entry) (s : Store) (journal : List Entry) (t : Store) → IsWithinLimits script →
    IsLed script before s →
    Legal script s journal t → InOrderFrom script before journal → All IsEntry journal
entries_in_range script before s [] t limits led legal order = All-nil IsEntry
entries_in_range script before s (e ∷ journal) t limits led legal order =
    All-cons IsEntry e journal (entry_in_range script before s legal.0 e limits led order.0 legal.2 legal.3.keeps)
    (entries_in_range script (before ++ e ∷ []) legal.1 journal t limits
    (led-push script before s legal.0 e legal.1 limits led order.0 legal.2 legal.3) legal.4 order.1)

pub histories_have_readings : HistoriesHaveReadings
histories_have_readings v script journal s history =
    entries_in_range script [] (start_store v script) journal s history.limits
    (led_at_start v script history.sound history.limits) history.legal history.in_order
