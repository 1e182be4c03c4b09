-- What a plain store keeps, and the stores of the definitions that it stands for.
use Rattle.std.specs.Prelude.{All, ◌≡◌, ◌↔◌, ℕ, Bool, true, false, Option, None, Some, List, [], length, map, slice_index_or}
use Rattle.bd_base.specs.declared.journal.At.{At}
use Rattle.bd_base.specs.declared.script.Call.{Call}
use Rattle.bd_base.specs.declared.script.Process.{Process}
use Rattle.bd_base.specs.declared.script.Script.{Script}
use Rattle.bd_base.specs.declared.volume.Inode.{Inode}
use Rattle.bd_base.specs.declared.volume.Volume.{Volume}
use Rattle.bd_base.specs.Rules.{IsLeastBroken}
use Rattle.bd_entry.specs.declared.entry.Entry.{Entry}
use Rattle.bd_entry.specs.Calls.{Place, at_of}
use Rattle.bd_entry.specs.Rules.{EntryRule, FitsStore, entry_rule_number, place_in}
use Rattle.bd_entry.specs.Store.{Descriptor, Store, Valid, start_store}
use Rattle.bd_fs.specs.Files.{Files}
use Rattle.bd_kernel.specs.Disks.{DiskState}
use Rattle.bd_kernel.specs.Marks.{AreMarksOf, Marks}

-- a store with marks of the entries of each running call in their place
pub record Kept : Type 0 where
  pub total : ℕ
  pub uids : List ℕ
  pub files : List (Option Inode)
  pub bytes : List ℕ
  pub opens : List (List (Option Descriptor))
  pub marks : List Marks

-- each process has its marks
pub record IsKept (k : Kept) : Type 0 where
  pub marks : length k.marks ≡ length k.uids

-- the marks of no entry
abbrev pub no_marks : Marks
no_marks = record { begun = false; opened = None; answered = []; missed = []; cleared = [] }

-- the marks of a process's running call
abbrev pub marks_at : Kept → ℕ → Marks
marks_at k process = slice_index_or k.marks process no_marks

-- these are the marks of so many processes of which none has a running call
pub record AreIdle (processes : ℕ) (marks : List Marks) : Type 0 where
  pub count : length marks ≡ processes
  pub idle : All (λ m. AreMarksOf m []) marks

-- the files, and how many blocks there are
abbrev pub files_of : Kept → Files
files_of k = record { total = k.total; files = k.files }

-- the disk, on which processes hold these files
abbrev pub disk_of : Kept → List (Option ℕ) → DiskState
disk_of k held = record { total = k.total; files = k.files; bytes = k.bytes; rows = k.opens; held = held }

-- the store with these as the entries of running calls
abbrev pub store_of : Kept → List (List Entry) → Store
store_of k work =
    record { total = k.total; uids = k.uids; files = k.files; bytes = k.bytes; opens = k.opens; work = work }

-- the same with no call running, where running calls are not looked at
abbrev pub bare : Kept → Store
bare k = store_of k []

-- the marks are those of these entries of running calls
abbrev pub AreMarked : Kept → List (List Entry) → Type 0
AreMarked k work = (process : ℕ) → AreMarksOf (marks_at k process) (slice_index_or work process [])

-- what is kept is that of the store, which is valid
pub record Represents (k : Kept) (s : Store) : Type 0 where
  pub store : s ≡ store_of k s.work
  pub marked : AreMarked k s.work
  pub valid : Valid s

-- a script of these users who call nothing
abbrev pub idle_script : List ℕ → Script
idle_script uids =
    let idle : ℕ → Process = λ uid. record { uid = uid; calls = [] } in
    record { processes = map idle uids; schedule = [] }

-- the store of a volume with nothing open, and a process for each of these users
abbrev pub start_of : Volume → List ℕ → Store
start_of v uids = start_store v (idle_script uids)

-- ---- what is decided in a store

-- this holds at the place of the call's next entry, whatever the entries of running calls are that have these marks
abbrev pub AtPlace : Kept → Call → At → (Store → Place → Type 0) → Type 0
AtPlace k call at Holds =
    (work : List (List Entry)) → AreMarked k work → Holds (store_of k work) (place_in (store_of k work) call at)

-- the answer is whether the entry keeps the rule
abbrev pub Judges : (Store → Place → Entry → Type 0) → Kept → Call → Entry → Bool → Type 0
Judges Keeps k call e answer = AtPlace k call (at_of e) (λ s p. (answer ≡ true) ↔ Keeps s p e)

-- of the rules of the store that the entry breaks, the least is the one of this number
abbrev pub BreaksAt : Store → Place → Entry → ℕ → Type 0
BreaksAt s p e = IsLeastBroken EntryRule entry_rule_number (FitsStore s p e) (λ rule. ¬ FitsStore s p e rule)

-- the answer is whether the entry keeps the rule, which does not look at the place
abbrev pub JudgesAnywhere : (Store → Place → Entry → Type 0) → Kept → Entry → Bool → Type 0
JudgesAnywhere Keeps k e answer =
    (work : List (List Entry)) (p : Place) → (answer ≡ true) ↔ Keeps (store_of k work) p e

-- the answer is the least rule that the entry breaks, none where it keeps all
abbrev pub IsBroken : Store → Place → Entry → Option ℕ → Type 0
IsBroken s p e None = (rule : EntryRule) → FitsStore s p e rule
IsBroken s p e (Some number) = BreaksAt s p e number
