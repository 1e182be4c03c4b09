-- How many effective turns are left to a running call at most, and that none takes more than the rest allows it.
use Rattle.std.specs.Prelude.{◌≡◌, ℕ, ◌+◌, ◌-◌, ◌*◌, ◌/◌, ◌≤◌, nat_eq, nat_lt, cond, Bool, true, false, not, ◌&&◌, List, map, length, count_by, sum, Option, None, Some}
use Rattle.std.specs.Option.{option_map_or}
use Rattle.std.specs.List.{range_with_len}
use Rattle.std.specs.FinMap as fin
use Rattle.bd_base.specs.declared.key.Key.{Key}
use Rattle.bd_base.specs.declared.limits.TheConstants.{BLOCK_SIZE, DESCRIPTORS, PARTS, PROCESSES}
use Rattle.bd_base.specs.declared.script.Call.{Call}
use Rattle.bd_base.specs.declared.script.Call.TheVariants.{Enter, Create, Read, Write, Truncate, Unlink, Size, Map, Close, RawRead, RawWrite}
use Rattle.bd_base.specs.declared.script.How.TheVariants as hows
use Rattle.bd_base.specs.Files.{blocks_for}
use Rattle.bd_entry.specs.Actions.{has_begun, is_untouched, piece_numbers}
use Rattle.bd_entry.specs.Calls.{Place, fd_of, is_answered}
use Rattle.bd_entry.specs.Store.{Descriptor, Store, blocks_in, descriptor_at, size_in}
use Rattle.bd_tables.specs.declared.state.Right.{Right}
use Rattle.bd_tables.specs.declared.state.RightState.{RightState}
use Rattle.bd_tables.specs.declared.state.RightState.TheVariants as states
use Rattle.bd_tables.specs.State.{Rights}
use Rattle.bd_turns.specs.Processors.{is_posted, running_of}
use Rattle.bd_turns.specs.State.{InHand, Phase, Looking, Reading, Filling, Moving, Missing, Retiring, Completing, Posted, Progress, State, progress_of, running}

-- ---- revocation

-- how many turns it takes still to revoke a right in this state, posted or not: it is cleared, posted and drained, each
-- line is swept, and then it is detached
abbrev pub right_turns : Bool → RightState → ℕ
right_turns posted states.On = 20
right_turns posted states.Cleared = cond posted 18 19
right_turns posted (states.Drained swept) = count_by not swept + 1

-- the same of what a key has, where it is one of these rights
abbrev pub slot_turns : (Right → Bool) → Bool → Option Right → ℕ
slot_turns test posted None = 0
slot_turns test posted (Some right) = cond (test right) (right_turns posted right.state) 0

-- the same of a key, of which these are posted
abbrev pub key_turns : Rights → List Posted → (Key → Right → Bool) → Key → ℕ
key_turns rights posted test key = slot_turns (test key) (is_posted posted key) (fin.get rights key)

-- the sum of these numbers below a bound
abbrev pub sum_below : ℕ → (ℕ → ℕ) → ℕ
sum_below n f = sum (map f (range_with_len 0 n))

-- the same of all keys together that pass the test
abbrev pub revocation_turns : Rights → List Posted → (Key → Right → Bool) → ℕ
revocation_turns rights posted test =
    sum_below PROCESSES (λ process. sum_below DESCRIPTORS (λ fd. sum_below PARTS (λ part.
    key_turns rights posted test (record { process = process; fd = fd; part = part }))))

-- whether the right is on this file
abbrev pub is_on_file : Option ℕ → Key → Right → Bool
is_on_file file key right = option_map_or (nat_eq right.file) file false

-- whether the right is one of this descriptor
abbrev pub is_by : ℕ → ℕ → Key → Right → Bool
is_by process fd key right = nat_eq key.process process && nat_eq key.fd fd

-- ---- sizes

-- how many steps a file of this size takes on its way to a goal above it
abbrev pub growth_turns : ℕ → ℕ → ℕ
growth_turns size goal = cond (nat_lt size goal) (blocks_for goal - size / BLOCK_SIZE) 0

-- how many turns a truncation to this size takes for a file of that one
abbrev pub size_turns : ℕ → ℕ → ℕ
size_turns now size = blocks_for now - blocks_for size + growth_turns now size

-- the size of a file, if there is one
abbrev pub size_of : Store → Option ℕ → ℕ
size_of s file = option_map_or (size_in s) file 0

-- how many blocks it has
abbrev pub blocks_of : Store → Option ℕ → ℕ
blocks_of s file = option_map_or (λ file. length (blocks_in s file)) file 0

-- ---- opens and maps

-- how many turns an open or a map takes still: a right on each part that the descriptor has none on, and the end
abbrev pub part_turns : Option Descriptor → ℕ
part_turns None = PARTS + 1
part_turns (Some d) = PARTS - length d.attached + 1

-- the same, with the turn that opens
abbrev pub attach_turns : Store → ℕ → Option ℕ → ℕ
attach_turns s process None = PARTS + 2
attach_turns s process (Some fd) = part_turns (descriptor_at s process fd)

-- ---- pieces

-- how many turns the command in an engine's hand takes still
abbrev pub phase_turns : Phase → ℕ
phase_turns Looking = 7
phase_turns Reading = 6
phase_turns Filling = 5
phase_turns Moving = 4
phase_turns Missing = 4
phase_turns Retiring = 3
phase_turns Completing = 2

-- and all commands of a process
abbrev pub command_turns : Progress → ℕ
command_turns progress =
    8 * length progress.submitted + option_map_or (λ (hand : InHand). phase_turns hand.phase) progress.hand 0
    + length progress.completed

-- how many turns the kernel takes for a piece at most: the file grows by a step for each block of the largest file and
-- of the piece's call, and by one in its last block, and then comes the access
abbrev pub most_for_piece : ℕ
most_for_piece = 4103

-- where the bytes end that the call writes
abbrev pub end_of_call : Call → ℕ
end_of_call (Write fd off bytes) = off + length bytes
end_of_call call = 0

-- how many pieces of the call are not answered
abbrev pub unanswered : Place → ℕ
unanswered p = count_by (λ number. not (is_answered number p.before)) (piece_numbers p.call)

-- how many were not submitted yet, and may be
abbrev pub untouched : State → Place → ℕ
untouched m p = count_by (is_untouched (running_of m p)) (piece_numbers p.call)

-- how many turns the kernel takes for the pieces of a call at most: for the one for which it has grown the file that it
-- holds, only the growth that is left up to the end of the call, and the access
abbrev pub kernel_turns : Store → Place → Option ℕ → ℕ
kernel_turns s p None = most_for_piece * unanswered p
kernel_turns s p (Some file) =
    most_for_piece * (unanswered p - 1) + growth_turns (size_in s file) (end_of_call p.call) + 1

-- how many turns the pieces of a call take at most
abbrev pub piece_turns : State → Place → Option ℕ → ℕ
piece_turns m p held =
    kernel_turns m.store p held + 9 * untouched m p + command_turns (progress_of m p.at.process)

-- ---- calls

-- how many turns are left at most to a running call, on this file
abbrev pub turns_for : State → Place → Call → Option ℕ → ℕ
turns_for m p (Enter name mode hows.Plain) file = revocation_turns m.tables.rights m.posted (is_on_file file) + 1
turns_for m p (Enter name mode hows.Direct) file = attach_turns m.store p.at.process (fd_of p)
turns_for m p (Create name perms) file = 1
turns_for m p (Read fd off len) file = piece_turns m p file
turns_for m p (Write fd off bytes) file = piece_turns m p file
turns_for m p (Truncate fd size) file =
    revocation_turns m.tables.rights m.posted (is_on_file file) + size_turns (size_of m.store file) size + 1
turns_for m p (Unlink name) file = blocks_of m.store file + 1
turns_for m p (Size fd) file = 1
turns_for m p (Map fd) file = attach_turns m.store p.at.process (fd_of p)
turns_for m p (Close fd) file = revocation_turns m.tables.rights m.posted (is_by p.at.process fd) + 1
turns_for m p (RawRead address range) file = piece_turns m p file
turns_for m p (RawWrite address lo bytes) file = piece_turns m p file

-- the same on the file that its process holds
abbrev pub turns_left : State → Place → ℕ
turns_left m p = turns_for m p p.call (progress_of m p.at.process).held

-- how many turns a call takes at most: 20 for each right on a file, one for each block, and one for the end
abbrev pub most_turns : ℕ
most_turns = 24577

-- no call takes more turns than that: a call that has begun has not so many left, and one that has not has taken none
-- and holds nothing
pub record AreWithinTurns (m : State) : Type 0 where
  pub none : (process : ℕ) → running m process ≡ None → (progress_of m process).used ≡ 0
  pub new : (process : ℕ) (p : Place) → running m process ≡ Some p → has_begun (running_of m p) ≡ false →
      ((progress_of m process).used ≡ 0) × ((progress_of m process).held ≡ None)
  pub within : (process : ℕ) (p : Place) → running m process ≡ Some p → has_begun (running_of m p) ≡ true →
      (progress_of m process).used + turns_left m p ≤ most_turns
