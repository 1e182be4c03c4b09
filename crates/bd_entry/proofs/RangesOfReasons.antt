-- Each reason of a refusal tells a rule, a process and a descriptor that are in their ranges.
use Rattle.std.proofs.Common.{◌≡◌, ℕ, ◌+◌, ◌%◌, ◌<◌, ◌≤◌, Bool, true, false, cond, not, List, [], ◌∷◌, ◌++◌, length, Option, None, Some, refl, subst, arith}
use Rattle.std.specs.Prelude.{is_some, nat_eq, nat_le, nat_lt, position, All, IfSome}
use Rattle.std.specs.Option.{option_and_then, option_map, option_map_or, option_or}
use Rattle.std.proofs.lemmas.List.Elements.{All-head, All-tail}
use Rattle.std.proofs.lemmas.List.Quantifiers.{position-Some}
use Rattle.bd_base.specs.declared.limits.TheConstants.{BLOCK_SIZE, DESCRIPTORS, EXTENTS, FILE_SIZE, POLICY_RULES, PROCESSES}
use Rattle.bd_base.specs.declared.reason.Reason.{Reason}
use Rattle.bd_base.specs.declared.reason.Reason.TheVariants.{BadFd, Denied, Exists, Extents, FdsFull, Inodes, KernelOpen, NoFile, OpenBy, ReadOnly, TooBig}
use Rattle.bd_base.specs.declared.script.Call.{Call}
use Rattle.bd_base.specs.declared.script.Call.TheVariants.{Enter, Create, Map, Truncate, Unlink, Write, RawRead, RawWrite, Read, Size, Close}
use Rattle.bd_base.specs.declared.script.Mode.{Mode}
use Rattle.bd_base.specs.declared.script.Mode.TheVariants.{R, Rw}
use Rattle.bd_base.specs.declared.volume.Inode.{Inode}
use Rattle.bd_base.specs.Allocation.{allocated_block, last_block}
use Rattle.bd_base.specs.Extents.{extents_of}
use Rattle.bd_base.specs.Inodes.{block_refusal, create_refusal, growth_refusal, id_of, free_id, is_free}
use Rattle.bd_base.specs.Pieces.{Piece}
use Rattle.bd_base.specs.Policy.{first_denial, has_permission, open_denial, read_denial, unlink_denial, write_denial}
use Rattle.bd_entry.specs.Calls.{Place, piece_end, piece_of_call}
use Rattle.bd_entry.specs.Ranges.{IsReason}
use Rattle.bd_entry.specs.Refusals.{denial, file_of, first_refusal, growth_reason, growth_reason_of, is_read_only, map_refusal, open_refusal, piece_refusal, reason_if, refusal_of, truncate_refusal, truncation_goal, unlink_denial_of, unlink_refusal}
use Rattle.bd_entry.specs.Store.{Descriptor, Holder, Store, descriptor_at, file_in, first_holder, first_open, first_plain, is_open_of, is_plain_of, lowest_fd, user_of}

-- the reason, if there is one, is in its ranges
abbrev pub HasRanges : Option Reason → Type 0
HasRanges reason = IfSome reason IsReason

-- ---- how reasons are put together

-- the first of two
either_in_range : (a b : Option Reason) → HasRanges a → HasRanges b → HasRanges (option_or a b)
either_in_range None b first second = second
either_in_range (Some r) b first second = first

-- one that comes where a test holds
tested_in_range : (holds : Bool) (reason : Reason) → IsReason reason → HasRanges (reason_if holds reason)
tested_in_range true reason is = is
tested_in_range false reason is = tt

-- one that depends on what is there
found_in_range : {X : Type 0} (why : X → Option Reason) (o : Option X) → ((x : X) → HasRanges (why x)) → HasRanges (option_and_then why o)
found_in_range why None each = tt
found_in_range why (Some x) each = each x

-- or another one where nothing is
found_or_in_range : {X : Type 0} (why : X → Option Reason) (o : Option X) (other : Reason) → IsReason other → ((x : X) → HasRanges (why x)) →
    HasRanges (option_map_or why o (Some other))
found_or_in_range why None other is each = is
found_or_in_range why (Some x) other is each = each x

-- one that tells what is there
told_in_range : {X : Type 0} (Holds : X → Type 0) (reason : X → Reason) (o : Option X) → IfSome o Holds →
    ((x : X) → Holds x → IsReason (reason x)) →
    HasRanges (option_map reason o)
told_in_range Holds reason None holds each = tt
told_in_range Holds reason (Some x) holds each = each x holds

-- ---- the policy

abbrev IsRule : ℕ → Type 0
IsRule rule = (1 ≤ rule) × (rule ≤ POLICY_RULES)

permitted : (allowed : Bool) (rule : ℕ) → IsRule rule → IfSome (cond allowed None (Some rule)) IsRule
permitted true rule is = tt
permitted false rule is = is

denied_to : (owns : Bool) (a b : Option ℕ) → IfSome a IsRule → IfSome b IsRule → IfSome (cond owns a b) IsRule
denied_to true a b first second = first
denied_to false a b first second = second

denied_first : (a b : Option ℕ) → IfSome a IsRule → IfSome b IsRule → IfSome (first_denial a b) IsRule
denied_first None b first second = second
denied_first (Some rule) b first second = first

read_denial-rule : (uid owner perms : ℕ) → IfSome (read_denial uid owner perms) IsRule
read_denial-rule uid owner perms =
    denied_to (nat_eq uid owner) (cond (has_permission perms 1) None (Some 1)) (cond (has_permission perms 4) None (Some 3))
    (permitted (has_permission perms 1) 1 (omega arith, omega arith)) (permitted (has_permission perms 4) 3 (omega arith, omega arith))

write_denial-rule : (uid owner perms : ℕ) → IfSome (write_denial uid owner perms) IsRule
write_denial-rule uid owner perms =
    denied_to (nat_eq uid owner) (cond (has_permission perms 2) None (Some 2)) (cond (has_permission perms 8) None (Some 4))
    (permitted (has_permission perms 2) 2 (omega arith, omega arith)) (permitted (has_permission perms 8) 4 (omega arith, omega arith))

open_denial-rule : (mode : Mode) (uid owner perms : ℕ) → IfSome (open_denial mode uid owner perms) IsRule
open_denial-rule R uid owner perms = read_denial-rule uid owner perms
open_denial-rule Rw uid owner perms =
    denied_first (read_denial uid owner perms) (write_denial uid owner perms) (read_denial-rule uid owner perms) (write_denial-rule uid owner perms)

-- ---- holders

-- a holder that is found is a process that has a row, and one of its descriptors
abbrev IsHolder : ℕ → Holder → Type 0
IsHolder below h = (h.process < below) × (h.fd < DESCRIPTORS)

first_holder-within : (test : Option Descriptor → Bool) (process : ℕ) (rows : List (List (Option Descriptor))) →
    All (λ (row : List (Option Descriptor)). length row ≡ DESCRIPTORS) rows → IfSome (first_holder test process rows) (IsHolder (process + length rows))
first_holder-within test process [] all = tt
first_holder-within test process (slots ∷ rows) all =
    by_row (position test slots) refl
    (first_holder-within test (process + 1) rows (All-tail (λ (row : List (Option Descriptor)). length row ≡ DESCRIPTORS) slots rows all))
  where
    by_row : (o : Option ℕ) → position test slots ≡ o → IfSome (first_holder test (process + 1) rows) (IsHolder ((process + 1) + length rows)) →
        IfSome (option_or (option_map (λ (fd : ℕ). record { process = process; fd = fd }) o) (first_holder test (process + 1) rows))
        (IsHolder (process + length (slots ∷ rows)))
    by_row None none later =
        let end : (process + 1) + length rows ≡ process + length (slots ∷ rows) = omega arith in
        subst (λ (below : ℕ). IfSome (first_holder test (process + 1) rows) (IsHolder below)) end later
    by_row (Some fd) some later =
        let slots_are : length slots ≡ DESCRIPTORS = All-head (λ (row : List (Option Descriptor)). length row ≡ DESCRIPTORS) slots rows all in
        let within : fd < length slots = (position-Some test slots fd None some).0 in
        (omega arith, omega arith)

-- ---- growth

block_refusal-in_range : (blocks : List ℕ) (block : Option ℕ) → HasRanges (block_refusal blocks block)
block_refusal-in_range blocks None = tt
block_refusal-in_range blocks (Some block) = by_test (nat_le (length (extents_of (blocks ++ block ∷ []))) EXTENTS)
  where
    by_test : (few : Bool) → HasRanges (cond few None (Some Extents))
    by_test true = tt
    by_test false = tt

growth_refusal-in_range : (total : ℕ) (files : List (Option Inode)) (f : Inode) (to : ℕ) → HasRanges (growth_refusal total files f to)
growth_refusal-in_range total files f to = by_size (nat_lt FILE_SIZE to) (nat_eq (f.size % BLOCK_SIZE) 0)
  where
    by_size : (big full : Bool) →
        HasRanges (cond big (Some TooBig) (cond full (block_refusal f.blocks (allocated_block (is_free total files) total (last_block f.blocks))) None))
    by_size true full = tt
    by_size false true = block_refusal-in_range f.blocks (allocated_block (is_free total files) total (last_block f.blocks))
    by_size false false = tt

-- the reasons why the file of a call does not grow
pub growth_reason_of-in_range : (s : Store) (p : Place) (goal : ℕ) → HasRanges (growth_reason_of s p goal)
growth_reason_of-in_range s p goal =
    found_in_range (λ (file : ℕ). growth_reason s file goal) (file_of s p)
    (λ file. found_in_range (λ (f : Inode). cond (nat_lt f.size goal) (growth_refusal s.total s.files f goal) None) (file_in s file)
    (λ f. below f (nat_lt f.size goal)))
  where
    below : (f : Inode) (grows : Bool) → HasRanges (cond grows (growth_refusal s.total s.files f goal) None)
    below f true = growth_refusal-in_range s.total s.files f goal
    below f false = tt

-- ---- refusals of whole calls

create_refusal-in_range : (name : List ℕ) (files : List (Option Inode)) → HasRanges (create_refusal name files)
create_refusal-in_range name files = by_tests (is_some (id_of name files)) (is_some (free_id files))
  where
    by_tests : (exists room : Bool) → HasRanges (cond exists (Some Exists) (cond room None (Some Inodes)))
    by_tests true room = tt
    by_tests false true = tt
    by_tests false false = tt

-- the rows of descriptors are those of so many processes
pub record HasFewRows (s : Store) : Type 0 where
  pub count : length s.opens ≤ PROCESSES
  pub slots : All (λ (row : List (Option Descriptor)). length row ≡ DESCRIPTORS) s.opens

module _ (s : Store) (rows : HasFewRows s) where
  open_refusal-in_range : (process : ℕ) (name : List ℕ) (mode : Mode) → HasRanges (open_refusal s process name mode)
  open_refusal-in_range process name mode =
      found_or_in_range (λ (file : ℕ). option_or (denial s process mode file) (reason_if (not (is_some (lowest_fd s process))) FdsFull))
      (id_of name s.files) NoFile tt
      (λ file. either_in_range (denial s process mode file) (reason_if (not (is_some (lowest_fd s process))) FdsFull)
      (found_in_range (λ (f : Inode). option_map Denied (open_denial mode (user_of s process) f.owner f.perms)) (file_in s file)
      (λ f. told_in_range IsRule Denied (open_denial mode (user_of s process) f.owner f.perms) (open_denial-rule mode (user_of s process) f.owner f.perms)
      (λ rule is. is)))
      (tested_in_range (not (is_some (lowest_fd s process))) FdsFull tt))

  unlink_denial-in_range : (uid owner : ℕ) → IfSome (unlink_denial uid owner) IsRule
  unlink_denial-in_range uid owner = permitted (nat_eq uid owner) 5 (omega arith, omega arith)

  unlink_refusal-in_range : (process : ℕ) (name : List ℕ) → HasRanges (unlink_refusal s process name)
  unlink_refusal-in_range process name =
      found_or_in_range (λ (file : ℕ). option_or (unlink_denial_of s process file) (option_map (λ (h : Holder). OpenBy h.process h.fd) (first_open s file)))
      (id_of name s.files) NoFile tt
      (λ file. either_in_range (unlink_denial_of s process file) (option_map (λ (h : Holder). OpenBy h.process h.fd) (first_open s file))
      (found_in_range (λ (f : Inode). option_map Denied (unlink_denial (user_of s process) f.owner)) (file_in s file)
      (λ f. told_in_range IsRule Denied (unlink_denial (user_of s process) f.owner) (unlink_denial-in_range (user_of s process) f.owner) (λ rule is. is)))
      (told_in_range (IsHolder (0 + length s.opens)) (λ (h : Holder). OpenBy h.process h.fd) (first_open s file)
      (first_holder-within (is_open_of file) 0 s.opens rows.slots)
      (λ h is. (let below : h.process < 0 + length s.opens = is.0 in let count : length s.opens ≤ PROCESSES = rows.count in omega arith, is.1))))

  map_refusal-in_range : (d : Descriptor) → HasRanges (map_refusal s d)
  map_refusal-in_range d =
      told_in_range (IsHolder (0 + length s.opens)) (λ (h : Holder). KernelOpen h.process) (first_plain s d.file)
      (first_holder-within (is_plain_of d.file) 0 s.opens rows.slots)
      (λ h is. let below : h.process < 0 + length s.opens = is.0 in let count : length s.opens ≤ PROCESSES = rows.count in omega arith)

  descriptor_refusal-in_range : (process fd : ℕ) (further : Descriptor → Option Reason) → ((d : Descriptor) → HasRanges (further d)) →
      HasRanges (option_map_or further (descriptor_at s process fd) (Some BadFd))
  descriptor_refusal-in_range process fd further each = found_or_in_range further (descriptor_at s process fd) BadFd tt each

  first_refusal-in_range : (process : ℕ) (call : Call) → HasRanges (first_refusal s process call)
  first_refusal-in_range process (Enter name mode how) = open_refusal-in_range process name mode
  first_refusal-in_range process (Create name perms) = create_refusal-in_range name s.files
  first_refusal-in_range process (Truncate fd size) =
      descriptor_refusal-in_range process fd (truncate_refusal size)
      (λ d. either_in_range (reason_if (is_read_only d.mode) ReadOnly) (reason_if (nat_lt FILE_SIZE size) TooBig)
      (tested_in_range (is_read_only d.mode) ReadOnly tt) (tested_in_range (nat_lt FILE_SIZE size) TooBig tt))
  first_refusal-in_range process (Unlink name) = unlink_refusal-in_range process name
  first_refusal-in_range process (Size fd) = descriptor_refusal-in_range process fd (λ d. None) (λ d. tt)
  first_refusal-in_range process (Map fd) = descriptor_refusal-in_range process fd (map_refusal s) map_refusal-in_range
  first_refusal-in_range process (Close fd) = descriptor_refusal-in_range process fd (λ d. None) (λ d. tt)
  first_refusal-in_range process (Read fd off len) = descriptor_refusal-in_range process fd (λ d. None) (λ d. tt)
  first_refusal-in_range process (Write fd off bytes) =
      descriptor_refusal-in_range process fd (λ d. reason_if (is_read_only d.mode) ReadOnly) (λ d. tested_in_range (is_read_only d.mode) ReadOnly tt)
  first_refusal-in_range process (RawRead address range) = tt
  first_refusal-in_range process (RawWrite address lo bytes) = tt

  -- why a whole call is refused
  pub refusal_of-in_range : (p : Place) → HasRanges (refusal_of s p)
  refusal_of-in_range p =
      either_in_range (first_refusal s p.at.process p.call) (option_and_then (growth_reason_of s p) (truncation_goal p.call))
      (first_refusal-in_range p.at.process p.call) (found_in_range (growth_reason_of s p) (truncation_goal p.call) (growth_reason_of-in_range s p))

-- why a piece is refused
pub piece_refusal-in_range : (s : Store) (p : Place) (number : ℕ) → HasRanges (piece_refusal s p number)
piece_refusal-in_range s p number =
    found_in_range (λ (piece : Piece). growth_reason_of s p (piece_end piece)) (piece_of_call p.call number)
    (λ piece. growth_reason_of-in_range s p (piece_end piece))
