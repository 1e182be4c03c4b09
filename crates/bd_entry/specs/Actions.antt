-- What a call does next: the first action that it still needs. The same is said here of the entry that an action adds.
use Rattle.std.specs.Prelude.{ℕ, ◌-◌, nat_eq, nat_lt, cond, Bool, true, false, not, ◌&&◌, ◌||◌, List, [], ◌∷◌, map, filter, length, slice_get, Option, None, Some}
use Rattle.std.specs.Option.{option_and_then, option_map, option_map_or, option_or}
use Rattle.std.specs.List.{enumerate_from, find, flat_map, list_any, range_with_len}
use Rattle.bd_base.specs.declared.journal.Way.{Way}
use Rattle.bd_base.specs.declared.journal.Way.TheVariants as ways
use Rattle.bd_base.specs.declared.key.Key.{Key}
use Rattle.bd_base.specs.declared.reason.Reason.{Reason}
use Rattle.bd_base.specs.declared.reason.Reason.TheVariants as reasons
use Rattle.bd_base.specs.declared.script.Call.{Call}
use Rattle.bd_base.specs.declared.script.Call.TheVariants.{Enter, Create, Read, Write, Truncate, Unlink, Size, Map, Close, RawRead, RawWrite}
use Rattle.bd_base.specs.declared.script.How.{How}
use Rattle.bd_base.specs.declared.script.How.TheVariants as hows
use Rattle.bd_base.specs.declared.volume.Inode.{Inode}
use Rattle.bd_base.specs.Files.{blocks_for}
use Rattle.bd_base.specs.Inodes.{free_id, growth_block}
use Rattle.bd_base.specs.Pieces.{Piece}
use Rattle.bd_entry.specs.declared.act.Act.{Act}
use Rattle.bd_entry.specs.declared.act.Act.TheVariants as acts
use Rattle.bd_entry.specs.declared.entry.Entry.{Entry}
use Rattle.bd_entry.specs.declared.entry.Entry.TheVariants as entries
use Rattle.bd_entry.specs.Calls.{Place, bytes_for_piece, does_write, fd_of, has_missed, is_answered, is_raw, piece_end, piece_of_call, pieces_of_call}
use Rattle.bd_entry.specs.Refusals.{descriptor_of, file_of, first_refusal, goes_direct, growth_reason_of, is_next_for_kernel, next_size}
use Rattle.bd_entry.specs.RulesOfContents.{bytes_within}
use Rattle.bd_entry.specs.Store.{Descriptor, Store, blocks_in, descriptor_at, file_in, limit_in, lowest_fd, next_part, size_in}

-- who holds a file, if anybody does
abbrev pub Holders : Type 0
Holders = ℕ → Option ℕ

-- where a call is: its place, and the pieces of its commands that are submitted and not polled yet
pub record Running : Type 0 where
  pub place : Place
  pub outstanding : List ℕ

-- whether there is nothing in the list
abbrev pub is_none_of : {X : Type 0} → List X → Bool
is_none_of [] = true
is_none_of (x ∷ xs) = false

-- ---- before a call begins: refusals and holders

-- whether the call has begun: it has an entry, or a command of it is outstanding
abbrev pub has_begun : Running → Bool
has_begun r = not (is_none_of r.place.before && is_none_of r.outstanding)

-- whether the reason is tested before the file's holder is
abbrev pub comes_before_holder : Reason → Bool
comes_before_holder reasons.NoFile = true
comes_before_holder reasons.BadFd = true
comes_before_holder reasons.ReadOnly = true
comes_before_holder reasons.TooBig = true
comes_before_holder reason = false

-- whether the call waits, as it begins, while another process holds its file
abbrev pub tests_for_holder : Call → Bool
tests_for_holder (Enter name mode how) = true
tests_for_holder (Create name perms) = false
tests_for_holder (Read fd off len) = false
tests_for_holder (Write fd off bytes) = false
tests_for_holder (Truncate fd size) = true
tests_for_holder (Unlink name) = true
tests_for_holder (Size fd) = true
tests_for_holder (Map fd) = true
tests_for_holder (Close fd) = true
tests_for_holder (RawRead address range) = false
tests_for_holder (RawWrite address lo bytes) = false

-- a process that meets this holder of a file waits, if that is another
abbrev pub wait_for : ℕ → ℕ → Option ℕ → Option Act
wait_for process file None = None
wait_for process file (Some holder) = cond (nat_eq holder process) None (Some (acts.Busy file holder))

-- the call waits for the holder of its file
abbrev pub busy : Store → Holders → Place → Option Act
busy s holders p = option_and_then (λ file. wait_for p.at.process file (holders file)) (file_of s p)

-- the same as the call begins, where it tests that
abbrev pub busy_at_first : Store → Holders → Place → Option Act
busy_at_first s holders p = cond (tests_for_holder p.call) (busy s holders p) None

-- what keeps the call from beginning: a reason, or a holder, in the order in which they are tested
abbrev pub before_beginning : Store → Holders → Place → Option Reason → Option Act
before_beginning s holders p None = busy_at_first s holders p
before_beginning s holders p (Some reason) =
    let refused = Some (acts.Refuse None reason) in
    cond (comes_before_holder reason) refused (option_or (busy_at_first s holders p) refused)

-- ---- revocation

-- the keys of the rights of the descriptor in a slot, where it passes the test
abbrev pub keys_of_slot : (Descriptor → Bool) → ℕ → ℕ → Option Descriptor → List Key
keys_of_slot test process fd None = []
keys_of_slot test process fd (Some d) =
    cond (test d) (map (λ part. record { process = process; fd = fd; part = part }) d.attached) []

-- the keys of all rights of descriptors that pass the test, by process, descriptor and part
abbrev pub keys_where : (Descriptor → Bool) → Store → List Key
keys_where test s =
    flat_map
    (λ row. flat_map (λ slot. keys_of_slot test row.0 slot.0 slot.1) (enumerate_from 0 row.1))
    (enumerate_from 0 s.opens)

-- the keys of all rights on a file
abbrev pub keys_on : Store → ℕ → List Key
keys_on s file = keys_where (λ d. nat_eq d.file file) s

-- the keys of the rights of one descriptor
abbrev pub keys_by : Store → ℕ → ℕ → List Key
keys_by s process fd =
    filter (λ (key : Key). nat_eq key.process process && nat_eq key.fd fd) (keys_where (λ d. true) s)

-- the keys that the call has to revoke before its end: a plain open and a truncation that lowers the size those on the
-- file, a close those of its descriptor
abbrev pub keys_to_revoke : Store → Place → Call → List Key
keys_to_revoke s p (Enter name mode hows.Plain) = option_map_or (keys_on s) (file_of s p) []
keys_to_revoke s p (Enter name mode hows.Direct) = []
keys_to_revoke s p (Create name perms) = []
keys_to_revoke s p (Read fd off len) = []
keys_to_revoke s p (Write fd off bytes) = []
keys_to_revoke s p (Truncate fd size) =
    option_map_or (λ file. cond (nat_lt size (size_in s file)) (keys_on s file) []) (file_of s p) []
keys_to_revoke s p (Unlink name) = []
keys_to_revoke s p (Size fd) = []
keys_to_revoke s p (Map fd) = []
keys_to_revoke s p (Close fd) = keys_by s p.at.process fd
keys_to_revoke s p (RawRead address range) = []
keys_to_revoke s p (RawWrite address lo bytes) = []

-- the keys are revoked, if there are any
abbrev pub revoke : List Key → Option Act
revoke [] = None
revoke (key ∷ keys) = Some (acts.Revoke (key ∷ keys))

-- ---- calls on files

-- a right is attached, as long as one can be, and then it is told how many there are
abbrev pub attach_or_map : Store → Descriptor → Act
attach_or_map s d = option_map_or acts.Attach (next_part s d) (acts.Mapped (length d.attached))

-- the same by this descriptor of the call's process
abbrev pub attach_by : Store → Place → ℕ → Option Act
attach_by s p fd = option_map (attach_or_map s) (descriptor_at s p.at.process fd)

-- an open begins, with the lowest free descriptor
abbrev pub open_file : Store → Place → Option Act
open_file s p = option_and_then (λ file. option_map (acts.Opened file) (lowest_fd s p.at.process)) (file_of s p)

-- the file has a block more than this size needs, and is larger
abbrev pub is_to_shrink : Store → ℕ → ℕ → Bool
is_to_shrink s file size = nat_lt size (size_in s file) && nat_lt (blocks_for size) (length (blocks_in s file))

-- a truncation, whose rights are revoked: down to the blocks that its size needs, or up to its size, and then its end
abbrev pub truncate_to : Store → Place → ℕ → ℕ → Act
truncate_to s p size file =
    cond (is_to_shrink s file size) (acts.Release file)
    (option_map_or
    (λ to. option_map_or (acts.Refuse None) (growth_reason_of s p size) (acts.Extend file to))
    (next_size (size_in s file) size)
    (acts.Sized size))

-- a removal: each block, and then the file
abbrev pub remove_file : Store → ℕ → Act
remove_file s file = cond (is_none_of (blocks_in s file)) acts.Unlinked (acts.Release file)

-- ---- reads, writes and raw commands

-- the piece of this number is not answered, has not missed, and no command of it is outstanding
abbrev pub is_untouched : Running → ℕ → Bool
is_untouched r number =
    not (is_answered number r.place.before || has_missed number r.place.before
    || list_any (nat_eq number) r.outstanding)

-- whether the piece of this number goes to the device; that of a raw command does
abbrev pub is_for_device : Store → Place → ℕ → Bool
is_for_device s p number =
    is_raw p.call
    || option_map_or (λ d. option_map_or (goes_direct d) (piece_of_call p.call number) false) (descriptor_of s p) false

-- the numbers of the pieces of a call
abbrev pub piece_numbers : Call → List ℕ
piece_numbers call = range_with_len 0 (length (pieces_of_call call))

-- pieces are submitted in order, and then their completions taken
abbrev pub submit_or_poll : Store → Running → Option Act
submit_or_poll s r =
    option_or
    (option_map acts.Submit
    (find (λ number. is_for_device s r.place number && is_untouched r number) (piece_numbers r.place.call)))
    (cond (is_none_of r.outstanding) None (Some acts.Poll))

-- how the kernel reaches a piece of this descriptor
abbrev pub kernel_way : How → Bool → Way
kernel_way hows.Plain missed = ways.Plain
kernel_way hows.Direct true = ways.AfterMiss
kernel_way hows.Direct false = ways.PastKnown

-- the kernel accesses a piece
abbrev pub access_piece : Place → ℕ → Descriptor → Act
access_piece p number d = acts.Access number (kernel_way d.how (has_missed number p.before))

-- the kernel writes a piece after the file has grown to its end, or refuses it where the file cannot
abbrev pub write_piece : Store → Place → ℕ → Piece → Descriptor → Act
write_piece s p number piece d =
    option_map_or
    (λ to. option_map_or (acts.Refuse (Some number)) (growth_reason_of s p (piece_end piece)) (acts.Extend d.file to))
    (next_size (size_in s d.file) (piece_end piece))
    (access_piece p number d)

-- the kernel reads or writes a piece
abbrev pub move_piece : Store → Place → ℕ → Piece → Descriptor → Act
move_piece s p number piece d = cond (does_write p.call) (write_piece s p number piece d) (access_piece p number d)

-- the kernel does the first piece that is left for it, once no other process holds the file
abbrev pub kernel_part : Store → Holders → Place → Option Act
kernel_part s holders p =
    option_and_then
    (λ number. option_or (busy s holders p)
    (option_and_then
    (λ piece. option_map (move_piece s p number piece) (descriptor_of s p))
    (piece_of_call p.call number)))
    (find (is_next_for_kernel s p) (piece_numbers p.call))

-- ---- the next action

-- the call's own next action, once it may begin and has nothing to revoke
abbrev pub own_act : Store → Holders → Running → Call → Option Act
own_act s holders r (Enter name mode hows.Direct) =
    option_map_or (attach_by s r.place) (fd_of r.place) (open_file s r.place)
own_act s holders r (Enter name mode hows.Plain) = open_file s r.place
own_act s holders r (Create name perms) = Some acts.Created
own_act s holders r (Read fd off len) = option_or (submit_or_poll s r) (kernel_part s holders r.place)
own_act s holders r (Write fd off bytes) = option_or (submit_or_poll s r) (kernel_part s holders r.place)
own_act s holders r (Truncate fd size) = option_map (truncate_to s r.place size) (file_of s r.place)
own_act s holders r (Unlink name) = option_map (remove_file s) (file_of s r.place)
own_act s holders r (Size fd) = option_map (λ file. acts.SizeRead (size_in s file)) (file_of s r.place)
own_act s holders r (Map fd) = attach_by s r.place fd
own_act s holders r (Close fd) = Some acts.Closed
own_act s holders r (RawRead address range) = submit_or_poll s r
own_act s holders r (RawWrite address lo bytes) = submit_or_poll s r

-- what a call does next: as it begins its refusals and the holder of its file are tested; then the rights that it
-- revokes go; and then comes its own action
abbrev pub next_act : Store → Holders → Running → Option Act
next_act s holders r =
    let p = r.place in
    option_or
    (cond (has_begun r) None (before_beginning s holders p (first_refusal s p.at.process p.call)))
    (option_or (revoke (keys_to_revoke s p p.call)) (own_act s holders r p.call))

-- ---- the entry that an action adds

-- the entry of an open
abbrev pub opened_entry : Place → Call → ℕ → ℕ → Option Entry
opened_entry p (Enter name mode how) file fd = Some (entries.Opened p.at file fd mode how)
opened_entry p call file fd = None

-- the entry of a create
abbrev pub created_entry : Store → Place → Call → Option Entry
created_entry s p (Create name perms) =
    option_map (λ file. entries.Created p.at file name perms) (free_id s.files)
created_entry s p call = None

-- the entry of the release of a file's last block
abbrev pub released_entry : Store → Place → ℕ → Option Entry
released_entry s p file =
    let index = length (blocks_in s file) - 1 in
    option_map (entries.Released p.at file index) (slice_get (blocks_in s file) index)

-- the bytes that an access of the kernel moves: the call's, or what stands there as far as the file goes
abbrev pub kernel_bytes : Store → Place → ℕ → Piece → List ℕ
kernel_bytes s p file piece =
    cond (does_write p.call) (bytes_for_piece p.call piece)
    (bytes_within s.bytes (slice_get (blocks_in s file) piece.index) piece.range (limit_in s file piece.index))

-- the entry of an access of the kernel
abbrev pub kernel_entry : Store → Place → ℕ → Way → ℕ → Piece → Descriptor → Entry
kernel_entry s p number way fd piece d =
    entries.Access p.at number fd d.file piece.index (slice_get (blocks_in s d.file) piece.index) piece.range
    (does_write p.call) way (kernel_bytes s p d.file piece)

-- the same of the piece of this number by the call's descriptor
abbrev pub access_entry : Store → Place → ℕ → Way → Option Entry
access_entry s p number way =
    option_and_then
    (λ fd. option_and_then
    (λ piece. option_map (kernel_entry s p number way fd piece) (descriptor_of s p))
    (piece_of_call p.call number))
    (fd_of p)

-- the entry that the action adds, None where it adds none
abbrev pub entry_of_act : Store → Place → Act → Option Entry
entry_of_act s p (acts.Busy file holder) = None
entry_of_act s p (acts.Refuse piece reason) = Some (entries.Refused p.at piece reason)
entry_of_act s p (acts.Opened file fd) = opened_entry p p.call file fd
entry_of_act s p acts.Created = created_entry s p p.call
entry_of_act s p (acts.Attach part) = option_map (λ fd. entries.Attached p.at fd part) (fd_of p)
entry_of_act s p (acts.Mapped count) = option_map (λ fd. entries.Mapped p.at fd count) (fd_of p)
entry_of_act s p (acts.Revoke keys) = None
entry_of_act s p (acts.Extend file to) =
    option_map (λ (f : Inode). entries.Extended p.at file to (growth_block s.total s.files f)) (file_in s file)
entry_of_act s p (acts.Release file) = released_entry s p file
entry_of_act s p (acts.Submit piece) = None
entry_of_act s p acts.Poll = None
entry_of_act s p (acts.Access number way) = access_entry s p number way
entry_of_act s p (acts.Sized size) = option_map (λ fd. entries.Sized p.at fd size) (fd_of p)
entry_of_act s p (acts.SizeRead size) = option_map (λ fd. entries.SizeRead p.at fd size) (fd_of p)
entry_of_act s p acts.Closed = option_map (entries.Closed p.at) (fd_of p)
entry_of_act s p acts.Unlinked = option_map (entries.Unlinked p.at) (file_of s p)
