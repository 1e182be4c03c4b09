-- Why a call, or a piece of it, is refused: of the reasons that hold, the first in the order of its call.
use Rattle.std.specs.Prelude.{ℕ, ◌+◌, ◌*◌, ◌/◌, min, nat_lt, Bool, true, false, ◌||◌, ◌&&◌, not, is_some, cond, List, length, Option, None, Some}
use Rattle.std.specs.Option.{option_and_then, option_map, option_map_or, option_or}
use Rattle.std.specs.List.{find, range_with_len}
use Rattle.bd_base.specs.declared.limits.TheConstants.{BLOCK_SIZE, FILE_SIZE}
use Rattle.bd_base.specs.declared.reason.Reason.{Reason}
use Rattle.bd_base.specs.declared.reason.Reason.TheVariants.{NoFile, Denied, TooBig, OpenBy, BadFd, ReadOnly, FdsFull, KernelOpen}
use Rattle.bd_base.specs.declared.script.Call.{Call}
use Rattle.bd_base.specs.declared.script.Call.TheVariants.{Enter, Create, Read, Write, Truncate, Unlink, Size, Map, Close, RawRead, RawWrite}
use Rattle.bd_base.specs.declared.script.Mode.{Mode}
use Rattle.bd_base.specs.declared.script.Mode.TheVariants.{R, Rw}
use Rattle.bd_base.specs.declared.volume.Inode.{Inode}
use Rattle.bd_base.specs.Inodes.{create_refusal, growth_refusal, id_of}
use Rattle.bd_base.specs.Pieces.{Piece}
use Rattle.bd_base.specs.Policy.{open_denial, unlink_denial}
use Rattle.bd_entry.specs.Calls.{Place, fd_of, has_missed, is_answered, piece_end, piece_of_call, pieces_of_call}
use Rattle.bd_entry.specs.Store.{Descriptor, Holder, Store, descriptor_at, file_in, first_open, first_plain, is_plain, lowest_fd, user_of}

-- ---- the descriptor, the file and the goal of a call

-- the descriptor of the call, where it is open
abbrev pub descriptor_of : Store → Place → Option Descriptor
descriptor_of s p = option_and_then (descriptor_at s p.at.process) (fd_of p)

-- the file of a call with this descriptor: the one of its name, or else of the descriptor
abbrev pub file_of_call : Store → Call → Option Descriptor → Option ℕ
file_of_call s (Enter name mode how) d = id_of name s.files
file_of_call s (Unlink name) d = id_of name s.files
file_of_call s call d = option_map (λ (d : Descriptor). d.file) d

-- the file of the call at this place
abbrev pub file_of : Store → Place → Option ℕ
file_of s p = file_of_call s p.call (descriptor_of s p)

-- whether a piece of this descriptor goes to the device: the descriptor is direct, and the piece ends within the known
-- size
abbrev pub goes_direct : Descriptor → Piece → Bool
goes_direct d piece = not (is_plain d.how || nat_lt d.known (piece_end piece))

-- whether the piece of this number goes to the kernel: it does not go to the device, or its walk found nothing
abbrev pub is_for_kernel : Store → Place → ℕ → Piece → Bool
is_for_kernel s p number piece =
    has_missed number p.before || not (option_map_or (λ d. goes_direct d piece) (descriptor_of s p) false)

-- whether the piece of this number is one that the kernel has yet to do
abbrev pub is_next_for_kernel : Store → Place → ℕ → Bool
is_next_for_kernel s p number =
    not (is_answered number p.before) && option_map_or (is_for_kernel s p number) (piece_of_call p.call number) false

-- the first piece that the kernel has yet to do
abbrev pub kernel_piece : Store → Place → Option Piece
kernel_piece s p =
    option_and_then (piece_of_call p.call)
    (find (is_next_for_kernel s p) (range_with_len 0 (length (pieces_of_call p.call))))

-- the size to which a call lets its file grow: that of a truncation, or the end of the piece of a write that the kernel
-- does next
abbrev pub goal_of_call : Call → Option Piece → Option ℕ
goal_of_call (Truncate fd size) next = Some size
goal_of_call (Write fd off bytes) next = option_map piece_end next
goal_of_call call next = None

-- the size to which the call at this place lets its file grow
abbrev pub goal_of : Store → Place → Option ℕ
goal_of s p = goal_of_call p.call (kernel_piece s p)

-- ---- growth

-- the next size of a file on its way to a goal: the goal, or the end of the block that it reaches first; none where it
-- is there
abbrev pub next_size : ℕ → ℕ → Option ℕ
next_size size goal = cond (nat_lt size goal) (Some (min goal (BLOCK_SIZE * (size / BLOCK_SIZE + 1)))) None

-- why a file does not grow towards a goal; no reason where it is there
abbrev pub growth_reason : Store → ℕ → ℕ → Option Reason
growth_reason s file goal =
    option_and_then
    (λ (f : Inode). cond (nat_lt f.size goal) (growth_refusal s.total s.files f goal) None)
    (file_in s file)

-- why the file of the call does not grow towards a goal
abbrev pub growth_reason_of : Store → Place → ℕ → Option Reason
growth_reason_of s p goal = option_and_then (λ file. growth_reason s file goal) (file_of s p)

-- ---- refusals of whole calls

-- the reason, where the test holds
abbrev pub reason_if : Bool → Reason → Option Reason
reason_if holds reason = cond holds (Some reason) None

-- why the process may not open this file in this mode
abbrev pub denial : Store → ℕ → Mode → ℕ → Option Reason
denial s process mode file =
    option_and_then
    (λ (f : Inode). option_map Denied (open_denial mode (user_of s process) f.owner f.perms))
    (file_in s file)

-- why an open is refused: no such file, the policy, or all descriptors of the process are open
abbrev pub open_refusal : Store → ℕ → List ℕ → Mode → Option Reason
open_refusal s process name mode =
    option_map_or
    (λ file. option_or (denial s process mode file) (reason_if (not (is_some (lowest_fd s process))) FdsFull))
    (id_of name s.files) (Some NoFile)

-- why the process may not remove this file
abbrev pub unlink_denial_of : Store → ℕ → ℕ → Option Reason
unlink_denial_of s process file =
    option_and_then (λ (f : Inode). option_map Denied (unlink_denial (user_of s process) f.owner)) (file_in s file)

-- why a removal is refused: no such file, the policy, or some process has it open
abbrev pub unlink_refusal : Store → ℕ → List ℕ → Option Reason
unlink_refusal s process name =
    option_map_or
    (λ file. option_or (unlink_denial_of s process file)
    (option_map (λ (h : Holder). OpenBy h.process h.fd) (first_open s file)))
    (id_of name s.files) (Some NoFile)

-- whether this mode allows reading alone
abbrev pub is_read_only : Mode → Bool
is_read_only R = true
is_read_only Rw = false

-- why a call on a descriptor is refused: it is not open, or for this further reason
abbrev pub descriptor_refusal : Store → ℕ → ℕ → (Descriptor → Option Reason) → Option Reason
descriptor_refusal s process fd further = option_map_or further (descriptor_at s process fd) (Some BadFd)

-- why a truncation is refused before it grows its file: the descriptor may only read, or the size is above that of any
-- file
abbrev pub truncate_refusal : ℕ → Descriptor → Option Reason
truncate_refusal size d =
    option_or (reason_if (is_read_only d.mode) ReadOnly) (reason_if (nat_lt FILE_SIZE size) TooBig)

-- why a map is refused: some process has the file open by the kernel alone
abbrev pub map_refusal : Store → Descriptor → Option Reason
map_refusal s d = option_map (λ (h : Holder). KernelOpen h.process) (first_plain s d.file)

-- why a process's call is refused as it begins, by the first reason that holds; a raw command never is
abbrev pub first_refusal : Store → ℕ → Call → Option Reason
first_refusal s process (Enter name mode how) = open_refusal s process name mode
first_refusal s process (Create name perms) = create_refusal name s.files
first_refusal s process (Truncate fd size) = descriptor_refusal s process fd (truncate_refusal size)
first_refusal s process (Unlink name) = unlink_refusal s process name
first_refusal s process (Size fd) = descriptor_refusal s process fd (λ d. None)
first_refusal s process (Map fd) = descriptor_refusal s process fd (map_refusal s)
first_refusal s process (Close fd) = descriptor_refusal s process fd (λ d. None)
first_refusal s process (Read fd off len) = descriptor_refusal s process fd (λ d. None)
first_refusal s process (Write fd off bytes) =
    descriptor_refusal s process fd (λ d. reason_if (is_read_only d.mode) ReadOnly)
first_refusal s process (RawRead address range) = None
first_refusal s process (RawWrite address lo bytes) = None

-- the size to which a truncation lets its file grow; none of another call
abbrev pub truncation_goal : Call → Option ℕ
truncation_goal (Truncate fd size) = Some size
truncation_goal call = None

-- why the call is refused here: as it begins, or, of a truncation, since its file cannot grow further
abbrev pub refusal_of : Store → Place → Option Reason
refusal_of s p =
    option_or
    (first_refusal s p.at.process p.call)
    (option_and_then (growth_reason_of s p) (truncation_goal p.call))

-- why a piece is refused: the file cannot grow to its end
abbrev pub piece_refusal : Store → Place → ℕ → Option Reason
piece_refusal s p number =
    option_and_then (λ piece. growth_reason_of s p (piece_end piece)) (piece_of_call p.call number)
