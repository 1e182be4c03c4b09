-- What an entry changes in the plain store: its own change, then the size that its process is told, then the end of its
-- call.
use Rattle.std.specs.Prelude.{ℕ, ◌+◌, ◌-◌, ◌*◌, nat_lt, Bool, true, false, cond, List, [], ◌∷◌, ◌++◌, length, replicate, slice_index, Option, None, Some}
use Rattle.std.specs.Option.{option_map, option_map_or}
use Rattle.std.specs.List.{splice}
use Rattle.bd_base.specs.declared.limits.TheConstants.{BLOCK_SIZE}
use Rattle.bd_base.specs.declared.journal.Way.{Way}
use Rattle.bd_base.specs.declared.journal.Way.TheVariants.{Direct, Plain, PastKnown, AfterMiss}
use Rattle.bd_base.specs.declared.volume.Inode.{Inode}
use Rattle.bd_base.specs.Inodes.{empty_file, grown_file, without_last}
use Rattle.bd_entry.specs.declared.entry.Entry.{Entry}
use Rattle.bd_entry.specs.declared.entry.Entry.TheVariants.{Access, Attached, Cleared, Closed, Created, Detached, Extended, Mapped, Missed, Opened, Refused, Released, SizeRead, Sized, Unlinked}
use Rattle.bd_entry.specs.Calls.{Place, fd_of_call, is_ended_by}
use Rattle.bd_entry.specs.Store.{Descriptor, Store, descriptor_at, file_in, size_in, user_of, with_descriptor, with_file, with_part, with_slot, with_work, without_part}

-- ---- files and bytes

-- the bytes with others in the place of those from there on
abbrev pub with_bytes_at : ℕ → List ℕ → List ℕ → List ℕ
with_bytes_at place new bytes = splice bytes place (place + length new) new

-- the bytes of all blocks after these were written into a block from lo on; no change where there is no block
abbrev pub with_block_bytes : Option ℕ → ℕ → List ℕ → List ℕ → List ℕ
with_block_bytes None lo new bytes = bytes
with_block_bytes (Some block) lo new bytes = with_bytes_at (BLOCK_SIZE * block + lo) new bytes

-- the file after_change so, where it is there
abbrev pub with_changed_file : Store → ℕ → (Inode → Inode) → Store
with_changed_file s id change = with_file s id (option_map change (file_in s id))

-- the bytes of all blocks after those of the file's last block past a size were set to zero; the file has the blocks
-- that this size needs
abbrev pub with_zero_tail : Inode → ℕ → List ℕ → List ℕ
with_zero_tail f size bytes =
    let last = length f.blocks - 1 in
    let lo = size - BLOCK_SIZE * last in
    cond (nat_lt 0 (length f.blocks))
    (with_bytes_at (BLOCK_SIZE * slice_index f.blocks last + lo) (replicate (BLOCK_SIZE - lo) 0) bytes)
    bytes

-- the store after a file got this size, with as many blocks as before
abbrev pub with_size : Store → ℕ → ℕ → Store
with_size s id size =
    record (with_changed_file s id (λ f. record f { size = size })) {
      bytes = option_map_or (λ f. with_zero_tail f size s.bytes) (file_in s id) s.bytes;
    }

-- the store after a file grew to this size by this block, if any, which is all zeros
abbrev pub with_growth : Store → ℕ → ℕ → Option ℕ → Store
with_growth s id to block =
    record (with_changed_file s id (λ f. grown_file f block to)) {
      bytes = with_block_bytes block 0 (replicate BLOCK_SIZE 0) s.bytes;
    }

-- ---- an entry's own change

-- a new descriptor: without rights, and of known size 0
abbrev pub new_descriptor : Entry → Option Descriptor
new_descriptor (Opened at file fd mode how) =
    Some (record { file = file; mode = mode; how = how; attached = []; cleared = []; known = 0; told = 0 })
new_descriptor entry = None

-- the part joins the rights of a descriptor, uncleared
abbrev pub attach : ℕ → Descriptor → Descriptor
attach part d = record d { attached = with_part part d.attached; cleared = without_part part d.cleared }

-- the part leaves the rights of a descriptor
abbrev pub detach : ℕ → Descriptor → Descriptor
detach part d = record d { attached = without_part part d.attached; cleared = without_part part d.cleared }

-- the right on a part is cleared
abbrev pub clear : ℕ → Descriptor → Descriptor
clear part d = record d { cleared = with_part part d.cleared }

-- the store after an access: one that wrote changes the bytes of its range
abbrev pub after_access : Store → Bool → Option ℕ → ℕ → List ℕ → Store
after_access s true block lo bytes = record s { bytes = with_block_bytes block lo bytes s.bytes }
after_access s false block lo bytes = s

-- the store after the entry's own change
abbrev pub after_change : Store → Entry → Store
after_change s (Opened at file fd mode how) = with_slot s at.process fd (new_descriptor (Opened at file fd mode how))
after_change s (Created at file name perms) = with_file s file (Some (empty_file name (user_of s at.process) perms))
after_change s (Attached at fd part) = with_descriptor s at.process fd (attach part)
after_change s (Mapped at fd count) = s
after_change s (Cleared at owner fd part) = with_descriptor s owner fd (clear part)
after_change s (Detached at owner fd part) = with_descriptor s owner fd (detach part)
after_change s (Access at piece fd file index block range wrote way bytes) = after_access s wrote block range.lo bytes
after_change s (Missed at piece found) = s
after_change s (Extended at file to block) = with_growth s file to block
after_change s (Released at file index block) = with_changed_file s file without_last
after_change s (Sized at fd size) =
    option_map_or (λ (d : Descriptor). with_size s d.file size) (descriptor_at s at.process fd) s
after_change s (SizeRead at fd size) = s
after_change s (Closed at fd) = with_slot s at.process fd None
after_change s (Unlinked at file) = with_file s file None
after_change s (Refused at piece reason) = s

-- ---- the size that a process is told

-- whether an access is the kernel's
abbrev pub is_by_kernel : Way → Bool
is_by_kernel Direct = false
is_by_kernel Plain = true
is_by_kernel PastKnown = true
is_by_kernel AfterMiss = true

-- whether the entry tells its process the size of its call's file
abbrev pub tells_size : Entry → Bool
tells_size (Opened at file fd mode how) = true
tells_size (Created at file name perms) = false
tells_size (Attached at fd part) = false
tells_size (Mapped at fd count) = true
tells_size (Cleared at owner fd part) = false
tells_size (Detached at owner fd part) = false
tells_size (Access at piece fd file index block range wrote way bytes) = is_by_kernel way
tells_size (Missed at piece found) = false
tells_size (Extended at file to block) = true
tells_size (Released at file index block) = false
tells_size (Sized at fd size) = true
tells_size (SizeRead at fd size) = true
tells_size (Closed at fd) = false
tells_size (Unlinked at file) = false
tells_size (Refused at piece reason) = false

-- the descriptor is told the size that its file has
abbrev pub with_told_size : Store → Descriptor → Descriptor
with_told_size s d = record d { told = size_in s d.file }

-- its process knows the size that the descriptor was told
abbrev pub with_known_size : Descriptor → Descriptor
with_known_size d = record d { known = d.told }

-- a store in which the descriptor of a call, if it has one, is changed so, where it is open
abbrev pub with_descriptor_of_call : Store → ℕ → Option ℕ → (Descriptor → Descriptor) → Store
with_descriptor_of_call s process None change = s
with_descriptor_of_call s process (Some fd) change = with_descriptor s process fd change

-- the store after the call's descriptor was told the size, by an entry that tells it
abbrev pub after_telling : Bool → Store → ℕ → Option ℕ → Store
after_telling true s process fd = with_descriptor_of_call s process fd (with_told_size s)
after_telling false s process fd = s

-- ---- the end of a call

-- the store after these entries of a running call: where they end it, its work is done, and its process knows what it
-- was told
abbrev pub after_call : Bool → Store → ℕ → Option ℕ → List Entry → Store
after_call true s process fd entries = with_descriptor_of_call (with_work s process []) process fd with_known_size
after_call false s process fd entries = with_work s process entries

-- the store after an entry at this place
abbrev pub effect_of : Store → Place → Entry → Store
effect_of s p e =
    let entries = p.before ++ e ∷ [] in
    let fd = fd_of_call p.call entries in
    after_call (is_ended_by p.call entries)
    (after_telling (tells_size e) (after_change s e) p.at.process fd) p.at.process fd entries
