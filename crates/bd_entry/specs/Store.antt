-- The plain store: files as lists of blocks, the bytes of all blocks, and descriptors with sets of rights.
use Rattle.std.specs.Prelude.{◌≡◌, ◌≢◌, ℕ, ◌+◌, ◌<◌, ◌≤◌, nat_eq, nat_lt, cond, Bool, false, ◌&&◌, not, is_some, List, [], ◌∷◌, map, filter, length, slice_index_or, slice_set, position, Option, None, Some, IsSome, All, IsTrue, true, ◌||◌, replicate}
use Rattle.std.specs.Option.{option_and_then, option_map, option_map_or, option_or}
use Rattle.std.specs.List.{find, flat_map, list_any, range_with_len}
use Rattle.std.specs.List.Sorted.{IsStrictlyIncreasing}
use Rattle.bd_base.specs.declared.limits.TheConstants.{DESCRIPTORS, FRAGMENTS, USERS}
use Rattle.bd_base.specs.declared.volume.Inode.{Inode}
use Rattle.bd_base.specs.declared.volume.Volume.{Volume}
use Rattle.bd_base.specs.declared.script.How.{How}
use Rattle.bd_base.specs.declared.script.How.TheVariants.{Plain, Direct}
use Rattle.bd_base.specs.declared.script.Mode.{Mode}
use Rattle.bd_base.specs.declared.script.Process.{Process}
use Rattle.bd_base.specs.declared.script.Script.{Script}
use Rattle.bd_base.specs.Files.{limit_of, parts_for}
use Rattle.bd_base.specs.Inodes.{blocks_of_slot, inode_at}
use Rattle.bd_base.specs.Volumes.{IsSoundVolume}
use Rattle.bd_entry.specs.declared.entry.Entry.{Entry}
use Rattle.bd_entry.specs.declared.entry.Entry.TheVariants.{Attached}

-- an open descriptor: its file, how it reaches it, on which parts of the file it has rights and which of these are
-- cleared, both in ascending order, the size that its process knows, and the one that it was told last
pub record Descriptor : Type 0 where
  pub file : ℕ
  pub mode : Mode
  pub how : How
  pub attached : List ℕ
  pub cleared : List ℕ
  pub known : ℕ
  pub told : ℕ

-- the files by their ids, the bytes of all blocks, the descriptors of each process by their numbers, and the entries of
-- each process's running call
pub record Store : Type 0 where
  pub total : ℕ
  pub uids : List ℕ
  pub files : List (Option Inode)
  pub bytes : List ℕ
  pub opens : List (List (Option Descriptor))
  pub work : List (List Entry)

-- ---- files

-- the file with this id
abbrev pub file_in : Store → ℕ → Option Inode
file_in s file = inode_at s.files file

-- the size of a file, 0 where there is none
abbrev pub size_at : List (Option Inode) → ℕ → ℕ
size_at files file = option_map_or (λ (f : Inode). f.size) (inode_at files file) 0

-- the same in a store
abbrev pub size_in : Store → ℕ → ℕ
size_in s file = size_at s.files file

-- the blocks of a file, none where there is no such file
abbrev pub blocks_in : Store → ℕ → List ℕ
blocks_in s file = blocks_of_slot (inode_at s.files file)

-- how many bytes of block number index belong to the file
abbrev pub limit_in : Store → ℕ → ℕ → ℕ
limit_in s file index = limit_of (size_in s file) (blocks_in s file) index

-- how many parts the file has
abbrev pub parts_in : Store → ℕ → ℕ
parts_in s file = parts_for (length (blocks_in s file))

-- the user of a process
abbrev pub user_of : Store → ℕ → ℕ
user_of s process = slice_index_or s.uids process 0

-- ---- descriptors

-- what stands at an index of a list of slots
abbrev pub in_slot : {X : Type 0} → List (Option X) → ℕ → Option X
in_slot slots i = slice_index_or slots i None

-- the descriptors of a process by their numbers
abbrev pub slots_of : Store → ℕ → List (Option Descriptor)
slots_of s process = slice_index_or s.opens process []

-- the descriptor of a process with this number
abbrev pub descriptor_at : Store → ℕ → ℕ → Option Descriptor
descriptor_at s process fd = in_slot (slots_of s process) fd

-- the entries of the running call of a process
abbrev pub work_of : Store → ℕ → List Entry
work_of s process = slice_index_or s.work process []

-- whether a slot holds no descriptor
abbrev pub is_empty_slot : Option Descriptor → Bool
is_empty_slot None = true
is_empty_slot (Some d) = false

-- the lowest descriptor number that the process has not open
abbrev pub lowest_fd : Store → ℕ → Option ℕ
lowest_fd s process = position is_empty_slot (slots_of s process)

-- whether a descriptor reaches its file by the kernel alone
abbrev pub is_plain : How → Bool
is_plain Plain = true
is_plain Direct = false

-- whether a slot has a descriptor of the file
abbrev pub is_open_of : ℕ → Option Descriptor → Bool
is_open_of file None = false
is_open_of file (Some d) = nat_eq d.file file

-- whether a slot has a plain descriptor of the file
abbrev pub is_plain_of : ℕ → Option Descriptor → Bool
is_plain_of file None = false
is_plain_of file (Some d) = nat_eq d.file file && is_plain d.how

-- a process and the number of one of its descriptors
pub record Holder : Type 0 where
  pub process : ℕ
  pub fd : ℕ

-- the least process, counted from this one on, and then its least descriptor whose slot passes a test
abbrev pub first_holder : (Option Descriptor → Bool) → ℕ → List (List (Option Descriptor)) → Option Holder
first_holder test process [] = None
first_holder test process (slots ∷ rows) =
    let later = first_holder test (process + 1) rows in
    option_or (option_map (λ fd. record { process = process; fd = fd }) (position test slots)) later

-- the least process, and then its least descriptor, that has the file open
abbrev pub first_open : Store → ℕ → Option Holder
first_open s file = first_holder (is_open_of file) 0 s.opens

-- the least process, and then its least descriptor, that has the file open by the kernel alone
abbrev pub first_plain : Store → ℕ → Option Holder
first_plain s file = first_holder (is_plain_of file) 0 s.opens

-- whether some process has the file open
abbrev pub has_open : Store → ℕ → Bool
has_open s file = is_some (first_open s file)

-- whether some process has the file open by the kernel alone
abbrev pub has_plain : Store → ℕ → Bool
has_plain s file = is_some (first_plain s file)

-- ---- rights

-- the part joins a set of parts
abbrev pub with_part : ℕ → List ℕ → List ℕ
with_part part [] = part ∷ []
with_part part (x ∷ xs) =
    cond (nat_lt part x) (part ∷ x ∷ xs) (cond (nat_eq part x) (x ∷ xs) (x ∷ with_part part xs))

-- the part leaves a set of parts
abbrev pub without_part : ℕ → List ℕ → List ℕ
without_part part parts = filter (λ other. not (nat_eq part other)) parts

-- whether the part is among these
abbrev pub has_part : ℕ → List ℕ → Bool
has_part part parts = list_any (nat_eq part) parts

-- whether a descriptor has a right
abbrev pub has_rights : Descriptor → Bool
has_rights d = nat_lt 0 (length d.attached)

-- whether a slot has a descriptor of the file with a right
abbrev pub is_attached_of : ℕ → Option Descriptor → Bool
is_attached_of file None = false
is_attached_of file (Some d) = nat_eq d.file file && has_rights d

-- whether some right on the file is attached
abbrev pub has_rights_on : Store → ℕ → Bool
has_rights_on s file = list_any (list_any (is_attached_of file)) s.opens

-- a file and one of its parts
abbrev pub same_pair : (ℕ × ℕ) → (ℕ × ℕ) → Bool
same_pair a b = nat_eq a.0 b.0 && nat_eq a.1 b.1

-- the pairs that a descriptor in a slot has rights on
abbrev pub pairs_of_slot : Option Descriptor → List (ℕ × ℕ)
pairs_of_slot None = []
pairs_of_slot (Some d) = map (λ part. (d.file, part)) d.attached

-- each of these pairs once
abbrev pub distinct_pairs : List (ℕ × ℕ) → List (ℕ × ℕ)
distinct_pairs [] = []
distinct_pairs (pair ∷ pairs) = pair ∷ filter (λ other. not (same_pair pair other)) (distinct_pairs pairs)

-- the pairs of a file and a part that some right stands on
abbrev pub pairs_in_use : Store → List (ℕ × ℕ)
pairs_in_use s = distinct_pairs (flat_map (flat_map pairs_of_slot) s.opens)

-- whether a right can be given on this pair: some right stands on it already, or fewer pairs than fragments are in use
abbrev pub has_fragment : Store → ℕ → ℕ → Bool
has_fragment s file part =
    list_any (same_pair (file, part)) (pairs_in_use s) || nat_lt (length (pairs_in_use s)) FRAGMENTS

-- the lowest part of its file that a descriptor has no right on
abbrev pub lowest_unattached : Store → Descriptor → Option ℕ
lowest_unattached s d = find (λ part. not (has_part part d.attached)) (range_with_len 0 (parts_in s d.file))

-- the part on which a descriptor can be given a right next
abbrev pub next_part : Store → Descriptor → Option ℕ
next_part s d =
    option_and_then
    (λ part. cond (not (has_plain s d.file) && has_fragment s d.file part) (Some part) None)
    (lowest_unattached s d)

-- ---- stores with a part changed

-- the store with this in the slot of a descriptor
abbrev pub with_slot : Store → ℕ → ℕ → Option Descriptor → Store
with_slot s process fd slot = record s { opens = slice_set s.opens process (slice_set (slots_of s process) fd slot) }

-- the store with its descriptor changed so, where it is open
abbrev pub with_descriptor : Store → ℕ → ℕ → (Descriptor → Descriptor) → Store
with_descriptor s process fd change = with_slot s process fd (option_map change (descriptor_at s process fd))

-- the store with this as the file of an id
abbrev pub with_file : Store → ℕ → Option Inode → Store
with_file s id file = record s { files = slice_set s.files id file }

-- the store with these as the entries of a process's running call
abbrev pub with_work : Store → ℕ → List Entry → Store
with_work s process entries = record s { work = slice_set s.work process entries }

-- the volume that a store says
abbrev pub volume_in : Store → Volume
volume_in s = record { total = s.total; inodes = s.files; bytes = s.bytes }

-- ---- valid stores

-- each process has a row of descriptors, each row as many slots as a process has numbers for them, and a row for its
-- running call
pub record HasRows (s : Store) : Type 0 where
  pub uids : length s.uids ≡ length s.opens
  pub work : length s.work ≡ length s.opens
  pub slots : All (λ (row : List (Option Descriptor)). length row ≡ DESCRIPTORS) s.opens

-- whether the entry attaches a right by this descriptor
abbrev pub attaches_by : ℕ → Entry → Bool
attaches_by fd (Attached at by part) = nat_eq by fd
attaches_by fd entry = false

-- what a descriptor of a valid store is; while its process's running call attaches rights by it, the sizes may be those
-- of another time
pub record IsDescriptor (s : Store) (process fd : ℕ) (d : Descriptor) : Type 0 where
  pub of_file : IsSome (file_in s d.file)
  pub ascending : IsStrictlyIncreasing d.attached
  pub cleared_ascending : IsStrictlyIncreasing d.cleared
  pub parts : All (λ part. part < parts_in s d.file) d.attached
  pub cleared : All (λ part. IsTrue (has_part part d.attached)) d.cleared
  pub known : d.attached ≢ [] → list_any (attaches_by fd) (work_of s process) ≡ false
      → d.known ≤ size_in s d.file
  pub told : d.attached ≢ [] → list_any (attaches_by fd) (work_of s process) ≡ false
      → d.told ≤ size_in s d.file
  pub direct : d.attached ≢ [] → d.how ≡ Direct
  pub no_plain : d.attached ≢ [] → has_plain s d.file ≡ false

-- what a store is that the steps of running calls keep
pub record Valid (s : Store) : Type 0 where
  pub volume : IsSoundVolume (volume_in s)
  pub users : All (λ uid. uid < USERS) s.uids
  pub rows : HasRows s
  pub descriptors : (process fd : ℕ) (d : Descriptor) → descriptor_at s process fd ≡ Some d →
      IsDescriptor s process fd d

-- the store of a volume with nothing open
abbrev pub start_store : Volume → Script → Store
start_store v script =
    record {
      total = v.total;
      uids = map (λ (p : Process). p.uid) script.processes;
      files = v.inodes;
      bytes = v.bytes;
      opens = map (λ (p : Process). replicate DESCRIPTORS None) script.processes;
      work = map (λ (p : Process). []) script.processes;
    }
