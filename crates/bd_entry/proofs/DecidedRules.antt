-- An entry keeps a rule at its place or does not, whatever the script, the journal and the store are.
use Rattle.std.proofs.Common.{◌≡◌, ℕ, ◌+◌, ◌*◌, ◌<◌, Bool, true, false, List, [], length, Option, None, Some}
use Rattle.std.specs.Prelude.{is_some, slice_get}
use Rattle.std.specs.Option.{option_and_then}
use Rattle.std.specs.List.{list_any}
use Rattle.bd_base.specs.declared.limits.TheConstants.{BLOCK_SIZE, FILE_SIZE}
use Rattle.bd_base.specs.declared.reason.Reason.{Reason}
use Rattle.bd_base.specs.declared.reason.Reason.TheVariants.{NoSpace, Extents}
use Rattle.bd_base.specs.declared.script.Call.{Call}
use Rattle.bd_base.specs.declared.script.Call.TheVariants.{Enter, Create, Truncate, Close}
use Rattle.bd_base.specs.declared.script.How.{How}
use Rattle.bd_base.specs.declared.script.How.TheVariants as hows
use Rattle.bd_base.specs.declared.script.Mode.{Mode}
use Rattle.bd_base.specs.declared.script.Mode.TheVariants.{R, Rw}
use Rattle.bd_base.specs.declared.script.Script.{Script}
use Rattle.bd_base.specs.declared.volume.Inode.{Inode}
use Rattle.bd_base.specs.declared.journal.At.{At}
use Rattle.bd_base.specs.declared.journal.Found.{Found}
use Rattle.bd_base.specs.declared.journal.Found.TheVariants.{NoDirectory, NoRight, NoEntry, Beyond}
use Rattle.bd_base.specs.declared.journal.Way.{Way}
use Rattle.bd_base.specs.declared.journal.Way.TheVariants.{Direct, Plain, PastKnown, AfterMiss}
use Rattle.bd_base.specs.Allocation.{last_block}
use Rattle.bd_base.specs.Bounds.{Bounds}
use Rattle.bd_base.specs.Files.{blocks_for}
use Rattle.bd_base.specs.Inodes.{free_id, growth_block}
use Rattle.bd_base.specs.Pieces.{Piece}
use Rattle.bd_base.proofs.Decided.{Decided, decided-and, decided-as, decided-below, decided-bool, decided-if, decided-if_some, decided-le, decided-lt, decided-nat, decided-nats, decided-nil, decided-no, decided-none, decided-not, decided-number, decided-or, decided-the, decided-yes}
use Rattle.bd_entry.specs.declared.entry.Entry.{Entry}
use Rattle.bd_entry.specs.declared.entry.Entry.TheVariants.{Access, Attached, Cleared, Closed, Created, Detached, Extended, Mapped, Missed, Opened, Refused, Released, SizeRead, Sized, Unlinked}
use Rattle.bd_entry.specs.Calls.{Place, at_of, bytes_for_piece, call_at, calls_of, does_write, entries_of, fd_of, has_cleared, has_missed, is_answered, is_finished, is_made_by, is_opened, is_raw, named_fd, piece_of_call}
use Rattle.bd_entry.specs.Refusals.{denial, descriptor_of, file_of, first_refusal, goal_of, goes_direct, growth_reason, next_size, piece_refusal, refusal_of}
use Rattle.bd_entry.specs.Rules.{EntryRule, FitsScript, FitsStore, KeepsRule, NextCall, FitsCall, Once, RightWay, IsOpen, RightFile, Allowed, Rights, NoPlain, RightBlock, WithinLimit, RightBytes, NotRefused, place_in}
use Rattle.bd_entry.specs.RulesOfCalls.{CreatesAs, HasFieldsOf, IsFirstOfKind, IsNextCall, IsOfCall, IsPieceOf, MayClear, OpensAs}
use Rattle.bd_entry.specs.RulesOfContents.{AsksForSize, EndsWithin, HasRightBlock, HasRightBytes, HasRightReason, IsContent, IsLastBlock, IsOfGrowth, IsPieceRefusedFor, IsRefusedFor, IsWithinLimit, MayBegin, MayGrowToGoal, NeedsNoLastBlock, bytes_within}
use Rattle.bd_entry.specs.RulesOfRights.{HasNoPlain, HasNoRights, HasRightDescriptor, HasRightFile, HasRightToAccess, HasRightWay, HasRights, IsAllowed, IsOfFile, IsWay, IsWayBy, IsWayOf, LowersWhereTruncates, MayFind, MayMiss, MayWrite, NamedIsOpen, NoRightsWherePlain, RawOrNot, Stands, WentDirect, WentToKernel, part_of}
use Rattle.bd_entry.specs.Store.{Descriptor, Store, blocks_in, descriptor_at, file_in, has_fragment, has_open, has_part, has_plain, has_rights_on, limit_in, lowest_fd, lowest_unattached, next_part, size_in}
use Rattle.bd_entry.proofs.DecidedFields.{decided-how, decided-mode, decided-piece, decided-reason, decided-way}

-- ---- rules 1 to 3

decided-next_call : (script : Script) (journal : List Entry) (at : At) → Decided (IsNextCall script journal at)
decided-next_call script journal at =
    decided-as
    (λ all. record { in_script = all.0; unfinished = all.1.0; earlier = all.1.1 })
    (λ next. (next.in_script, (next.unfinished, next.earlier)))
    (decided-and (decided-lt at.call (length (calls_of script at.process)))
    (decided-and (decided-bool (is_finished script journal at) false)
    (decided-below (λ call. is_finished script journal (record { process = at.process; call = call }) ≡ true)
    (λ call. decided-bool (is_finished script journal (record { process = at.process; call = call })) true) at.call)))

decided-opens : (call : Call) (mode : Mode) (how : How) → Decided (OpensAs call mode how)
decided-opens (Enter name call_mode call_how) mode how = decided-and (decided-mode mode call_mode) (decided-how how call_how)
decided-opens call mode how = decided-no

decided-creates : (call : Call) (name : List ℕ) (perms : ℕ) → Decided (CreatesAs call name perms)
decided-creates (Create call_name call_perms) name perms = decided-and (decided-nats name call_name) (decided-nat perms call_perms)
decided-creates call name perms = decided-no

decided-clears : (call : Call) (process owner fd : ℕ) → Decided (MayClear call process owner fd)
decided-clears (Close named) process owner fd = decided-and (decided-nat owner process) (decided-nat fd named)
decided-clears call process owner fd = decided-yes

decided-piece_of : (p : Place) (number index : ℕ) (range : Bounds) (wrote : Bool) → Decided (IsPieceOf p number index range wrote)
decided-piece_of p number index range wrote =
    decided-as
    (λ both. record { piece = both.0; direction = both.1 })
    (λ is. (is.piece, is.direction))
    (decided-and (decided-piece (piece_of_call p.call number) (Some (record { index = index; range = range }))) (decided-bool wrote (does_write p.call)))

decided-fields : (p : Place) (e : Entry) → Decided (HasFieldsOf p e)
decided-fields p (Opened at file fd mode how) = decided-opens p.call mode how
decided-fields p (Created at file name perms) = decided-creates p.call name perms
decided-fields p (Attached at fd part) = decided-number (fd_of p) (Some fd)
decided-fields p (Mapped at fd count) = decided-number (fd_of p) (Some fd)
decided-fields p (Cleared at owner fd part) = decided-clears p.call p.at.process owner fd
decided-fields p (Detached at owner fd part) = decided-clears p.call p.at.process owner fd
decided-fields p (Access at piece fd file index block range wrote way bytes) =
    decided-and (decided-number (fd_of p) (Some fd)) (decided-piece_of p piece index range wrote)
decided-fields p (Missed at piece found) = decided-bool (is_some (piece_of_call p.call piece)) true
decided-fields p (Sized at fd size) = decided-number (fd_of p) (Some fd)
decided-fields p (SizeRead at fd size) = decided-number (fd_of p) (Some fd)
decided-fields p (Closed at fd) = decided-number (fd_of p) (Some fd)
decided-fields p (Refused at (Some piece) reason) = decided-bool (is_some (piece_of_call p.call piece)) true
decided-fields p e = decided-yes

decided-of_call : (p : Place) (e : Entry) → Decided (IsOfCall p e)
decided-of_call p e =
    decided-as
    (λ both. record { kind = both.0; fields = both.1 })
    (λ is. (is.kind, is.fields))
    (decided-and (decided-bool (is_made_by p.call e) true) (decided-fields p e))

decided-first : (before : List Entry) (e : Entry) → Decided (IsFirstOfKind before e)
decided-first before (Opened at file fd mode how) = decided-bool (list_any is_opened before) false
decided-first before (Access at piece fd file index block range wrote way bytes) = decided-bool (is_answered piece before) false
decided-first before (Missed at piece found) = decided-and (decided-bool (is_answered piece before) false) (decided-bool (has_missed piece before) false)
decided-first before (Refused at (Some piece) reason) = decided-bool (is_answered piece before) false
decided-first before e = decided-yes

-- ---- rule 4

decided-way_of : (direct missed : Bool) (way : Way) → Decided (IsWayOf direct missed way)
decided-way_of true missed AfterMiss = decided-bool missed true
decided-way_of true missed Direct = decided-yes
decided-way_of false missed PastKnown = decided-yes
decided-way_of true missed way = decided-no
decided-way_of false missed way = decided-no

decided-way_by : (how : How) (direct missed : Bool) (way : Way) → Decided (IsWayBy how direct missed way)
decided-way_by hows.Plain direct missed way = decided-way way Plain
decided-way_by hows.Direct direct missed way = decided-way_of direct missed way

decided-is_way : (slot : Option Descriptor) (piece : Piece) (missed : Bool) (way : Way) → Decided (IsWay slot piece missed way)
decided-is_way None piece missed Direct = decided-yes
decided-is_way None piece missed AfterMiss = decided-bool missed true
decided-is_way None piece missed way = decided-no
decided-is_way (Some d) piece missed way = decided-way_by d.how (goes_direct d piece) missed way

decided-went_direct : (slot : Option Descriptor) (piece : Piece) → Decided (WentDirect slot piece)
decided-went_direct None piece = decided-no
decided-went_direct (Some d) piece = decided-bool (goes_direct d piece) true

decided-went_to_kernel : (slot : Option Descriptor) (piece : Piece) (missed : Bool) → Decided (WentToKernel slot piece missed)
decided-went_to_kernel None piece missed = decided-yes
decided-went_to_kernel (Some d) piece missed = decided-or (decided-bool (goes_direct d piece) false) (decided-bool missed true)

decided-raw_or_not : (raw : Bool) (Raw Other : Type 0) → Decided Raw → Decided Other → Decided (RawOrNot raw Raw Other)
decided-raw_or_not true Raw Other first second = first
decided-raw_or_not false Raw Other first second = second

decided-the_piece : (p : Place) (number : ℕ) (Holds : Piece → Type 0) → ((piece : Piece) → Decided (Holds piece)) →
    Decided ((piece : Piece) × (piece_of_call p.call number ≡ Some piece) × Holds piece)
decided-the_piece p number Holds each = decided-the Holds each (piece_of_call p.call number)

decided-right_way : (s : Store) (p : Place) (e : Entry) → Decided (HasRightWay s p e)
decided-right_way s p (Access at number fd file index block range wrote way bytes) =
    decided-raw_or_not (is_raw p.call) _ _ (decided-way way Direct)
    (decided-the_piece p number (λ piece. IsWay (descriptor_of s p) piece (has_missed number p.before) way)
    (λ piece. decided-is_way (descriptor_of s p) piece (has_missed number p.before) way))
decided-right_way s p (Missed at number found) =
    decided-raw_or_not (is_raw p.call) _ _ decided-yes
    (decided-the_piece p number (WentDirect (descriptor_of s p)) (decided-went_direct (descriptor_of s p)))
decided-right_way s p (Refused at None reason) = decided-bool (is_raw p.call) false
decided-right_way s p (Refused at (Some number) reason) =
    decided-the_piece p number (λ piece. WentToKernel (descriptor_of s p) piece (has_missed number p.before))
    (λ piece. decided-went_to_kernel (descriptor_of s p) piece (has_missed number p.before))
decided-right_way s p e = decided-yes

-- ---- rules 5 to 7

decided-open : (s : Store) (process fd : ℕ) → Decided (is_some (descriptor_at s process fd) ≡ true)
decided-open s process fd = decided-bool (is_some (descriptor_at s process fd)) true

decided-named_open : (s : Store) (process : ℕ) (named : Option ℕ) → Decided (NamedIsOpen s process named)
decided-named_open s process None = decided-yes
decided-named_open s process (Some fd) = decided-open s process fd

decided-right_descriptor : (s : Store) (p : Place) (e : Entry) → Decided (HasRightDescriptor s p e)
decided-right_descriptor s p (Opened at file fd mode how) = decided-number (lowest_fd s p.at.process) (Some fd)
decided-right_descriptor s p (Attached at fd part) = decided-open s p.at.process fd
decided-right_descriptor s p (Mapped at fd count) = decided-open s p.at.process fd
decided-right_descriptor s p (Cleared at owner fd part) = decided-open s owner fd
decided-right_descriptor s p (Detached at owner fd part) = decided-open s owner fd
decided-right_descriptor s p (Access at piece fd file index block range wrote way bytes) = decided-open s p.at.process fd
decided-right_descriptor s p (Missed at piece found) = decided-named_open s p.at.process (named_fd p.call)
decided-right_descriptor s p (Extended at file to block) = decided-named_open s p.at.process (named_fd p.call)
decided-right_descriptor s p (Released at file index block) = decided-named_open s p.at.process (named_fd p.call)
decided-right_descriptor s p (Sized at fd size) = decided-open s p.at.process fd
decided-right_descriptor s p (SizeRead at fd size) = decided-open s p.at.process fd
decided-right_descriptor s p (Closed at fd) = decided-open s p.at.process fd
decided-right_descriptor s p e = decided-yes

decided-of_file : (s : Store) (p : Place) (owner fd : ℕ) → Decided (IsOfFile s p owner fd)
decided-of_file s p owner fd =
    decided-the (λ (d : Descriptor). file_of s p ≡ Some d.file) (λ d. decided-number (file_of s p) (Some d.file)) (descriptor_at s owner fd)

decided-right_file : (s : Store) (p : Place) (e : Entry) → Decided (HasRightFile s p e)
decided-right_file s p (Opened at file fd mode how) = decided-number (file_of s p) (Some file)
decided-right_file s p (Created at file name perms) = decided-number (free_id s.files) (Some file)
decided-right_file s p (Cleared at owner fd part) = decided-of_file s p owner fd
decided-right_file s p (Detached at owner fd part) = decided-of_file s p owner fd
decided-right_file s p (Access at piece fd file index block range wrote way bytes) =
    decided-the (λ (d : Descriptor). d.file ≡ file) (λ d. decided-nat d.file file) (descriptor_at s p.at.process fd)
decided-right_file s p (Extended at file to block) = decided-number (file_of s p) (Some file)
decided-right_file s p (Released at file index block) = decided-number (file_of s p) (Some file)
decided-right_file s p (Unlinked at file) = decided-number (file_of s p) (Some file)
decided-right_file s p e = decided-yes

decided-may_write : (writes : Bool) (mode : Mode) → Decided (MayWrite writes mode)
decided-may_write true mode = decided-mode mode Rw
decided-may_write false mode = decided-yes

decided-allowed : (s : Store) (p : Place) (e : Entry) → Decided (IsAllowed s p e)
decided-allowed s p (Opened at file fd mode how) = decided-none (denial s p.at.process mode file)
decided-allowed s p (Access at piece fd file index block range wrote way bytes) =
    decided-the (λ (d : Descriptor). MayWrite wrote d.mode) (λ d. decided-may_write wrote d.mode) (descriptor_at s p.at.process fd)
decided-allowed s p e = decided-yes

-- ---- rules 8 and 9

decided-stands : (part : ℕ) (d : Descriptor) → Decided (Stands part d)
decided-stands part d =
    decided-as
    (λ both. record { attached = both.0; not_cleared = both.1 })
    (λ stands. (stands.attached, stands.not_cleared))
    (decided-and (decided-bool (has_part part d.attached) true) (decided-bool (has_part part d.cleared) false))

decided-right_to_access : (slot : Option Descriptor) (way : Way) (index : ℕ) → Decided (HasRightToAccess slot way index)
decided-right_to_access slot Direct index =
    decided-the (λ (d : Descriptor). has_part (part_of index) d.attached ≡ true) (λ d. decided-bool (has_part (part_of index) d.attached) true) slot
decided-right_to_access slot way index = decided-yes

decided-may_find : (s : Store) (writes : Bool) (d : Descriptor) (piece : Piece) (found : Found) → Decided (MayFind s writes d piece found)
decided-may_find s writes d piece NoDirectory = decided-not (decided-stands (part_of piece.index) d)
decided-may_find s writes d piece NoRight =
    decided-as
    (λ all. (all.0, all.1.0, all.1.1))
    (λ may. (may.0, (may.1, may.2)))
    (decided-and (decided-bool (has_part (part_of piece.index) d.attached) true) (decided-and (decided-bool writes true) (decided-mode d.mode R)))
decided-may_find s writes d piece NoEntry =
    decided-as
    (λ all. (all.0, all.1.0, all.1.1))
    (λ may. (may.0, (may.1, may.2)))
    (decided-and (decided-bool (has_part (part_of piece.index) d.attached) true)
    (decided-and (decided-may_write writes d.mode) (decided-le d.known (BLOCK_SIZE * piece.index))))
decided-may_find s writes d piece (Beyond limit) =
    decided-as
    (λ all. (all.0.0, all.0.1.0, all.0.1.1, all.1.0, all.1.1.0, all.1.1.1))
    (λ may. ((may.0, (may.1, may.2)), (may.3, (may.4, may.5))))
    (decided-and
    (decided-and (decided-bool (has_part (part_of piece.index) d.attached) true) (decided-and (decided-may_write writes d.mode) (decided-le 1 limit)))
    (decided-and (decided-lt limit piece.range.hi)
    (decided-and (decided-le limit (limit_in s d.file piece.index)) (decided-le d.known (BLOCK_SIZE * piece.index + limit)))))

decided-may_miss : (s : Store) (writes : Bool) (slot : Option Descriptor) (found : Found) (piece : Piece) → Decided (MayMiss s writes slot found piece)
decided-may_miss s writes None NoDirectory piece = decided-yes
decided-may_miss s writes None found piece = decided-no
decided-may_miss s writes (Some d) found piece = decided-may_find s writes d piece found

decided-lowers : (s : Store) (call : Call) (file : ℕ) → Decided (LowersWhereTruncates s call file)
decided-lowers s (Truncate fd size) file = decided-lt size (size_in s file)
decided-lowers s call file = decided-yes

decided-no_rights : (s : Store) (file : ℕ) → Decided (HasNoRights s file)
decided-no_rights s file = decided-bool (has_rights_on s file) false

decided-where_plain : (s : Store) (how : How) (file : ℕ) → Decided (NoRightsWherePlain s how file)
decided-where_plain s hows.Plain file = decided-no_rights s file
decided-where_plain s hows.Direct file = decided-yes

decided-rights : (s : Store) (p : Place) (e : Entry) → Decided (HasRights s p e)
decided-rights s p (Opened at file fd mode how) = decided-where_plain s how file
decided-rights s p (Attached at fd part) =
    decided-the (λ (d : Descriptor). (lowest_unattached s d ≡ Some part) × (has_fragment s d.file part ≡ true))
    (λ d. decided-and (decided-number (lowest_unattached s d) (Some part)) (decided-bool (has_fragment s d.file part) true))
    (descriptor_at s p.at.process fd)
decided-rights s p (Mapped at fd count) =
    decided-the (λ (d : Descriptor). (count ≡ length d.attached) × (next_part s d ≡ None))
    (λ d. decided-and (decided-nat count (length d.attached)) (decided-none (next_part s d)))
    (descriptor_at s p.at.process fd)
decided-rights s p (Cleared at owner fd part) =
    decided-the (λ (d : Descriptor). Stands part d × LowersWhereTruncates s p.call d.file)
    (λ d. decided-and (decided-stands part d) (decided-lowers s p.call d.file))
    (descriptor_at s owner fd)
decided-rights s p (Detached at owner fd part) =
    decided-the (λ (d : Descriptor). (has_part part d.attached ≡ true) × (has_cleared owner fd part p.before ≡ true))
    (λ d. decided-and (decided-bool (has_part part d.attached) true) (decided-bool (has_cleared owner fd part p.before) true))
    (descriptor_at s owner fd)
decided-rights s p (Access at piece fd file index block range wrote way bytes) = decided-right_to_access (descriptor_at s p.at.process fd) way index
decided-rights s p (Missed at piece found) =
    decided-the_piece p piece (MayMiss s (does_write p.call) (descriptor_of s p) found) (decided-may_miss s (does_write p.call) (descriptor_of s p) found)
decided-rights s p (Released at file index block) = decided-no_rights s file
decided-rights s p (Sized at fd size) =
    decided-the (λ (d : Descriptor). size < size_in s d.file → HasNoRights s d.file)
    (λ d. decided-if (decided-lt size (size_in s d.file)) (decided-no_rights s d.file))
    (descriptor_at s p.at.process fd)
decided-rights s p (Closed at fd) = decided-the (λ (d : Descriptor). d.attached ≡ []) (λ d. decided-nil d.attached) (descriptor_at s p.at.process fd)
decided-rights s p (Unlinked at file) = decided-no_rights s file
decided-rights s p e = decided-yes

decided-no_plain : (s : Store) (p : Place) (e : Entry) → Decided (HasNoPlain s p e)
decided-no_plain s p (Attached at fd part) =
    decided-the (λ (d : Descriptor). has_plain s d.file ≡ false) (λ d. decided-bool (has_plain s d.file) false) (descriptor_at s p.at.process fd)
decided-no_plain s p e = decided-yes

-- ---- rules 10 to 12

decided-last_block : (f : Inode) (index block : ℕ) → Decided (IsLastBlock f index block)
decided-last_block f index block =
    decided-as
    (λ both. record { index_is = both.0; block_is = both.1 })
    (λ is. (is.index_is, is.block_is))
    (decided-and (decided-nat (length f.blocks) (index + 1)) (decided-number (last_block f.blocks) (Some block)))

decided-right_block : (s : Store) (p : Place) (e : Entry) → Decided (HasRightBlock s p e)
decided-right_block s p (Access at piece fd file index block range wrote way bytes) = decided-number (slice_get (blocks_in s file) index) block
decided-right_block s p (Extended at file to block) =
    decided-the (λ (f : Inode). growth_block s.total s.files f ≡ block) (λ f. decided-number (growth_block s.total s.files f) block) (file_in s file)
decided-right_block s p (Released at file index block) =
    decided-the (λ (f : Inode). IsLastBlock f index block) (λ f. decided-last_block f index block) (file_in s file)
decided-right_block s p e = decided-yes

decided-ends_within : (way : Way) (wrote : Bool) (hi limit : ℕ) → Decided (EndsWithin way wrote hi limit)
decided-ends_within Direct wrote hi limit = decided-le hi limit
decided-ends_within way true hi limit = decided-le hi limit
decided-ends_within way false hi limit = decided-yes

decided-asks : (call : Call) (told : ℕ) → Decided (AsksForSize call told)
decided-asks (Truncate fd size) told = decided-nat told size
decided-asks call told = decided-no

decided-needs_no : (call : Call) (f : Inode) → Decided (NeedsNoLastBlock call f)
decided-needs_no (Truncate fd size) f = decided-lt (blocks_for size) (length f.blocks)
decided-needs_no call f = decided-yes

decided-within_limit : (s : Store) (p : Place) (e : Entry) → Decided (IsWithinLimit s p e)
decided-within_limit s p (Access at piece fd file index block range wrote way bytes) = decided-ends_within way wrote range.hi (limit_in s file index)
decided-within_limit s p (Extended at file to block) = decided-number (option_and_then (next_size (size_in s file)) (goal_of s p)) (Some to)
decided-within_limit s p (Released at file index block) = decided-the (NeedsNoLastBlock p.call) (decided-needs_no p.call) (file_in s file)
decided-within_limit s p (Sized at fd size) =
    decided-the (λ (d : Descriptor). AsksForSize p.call size × (length (blocks_in s d.file) ≡ blocks_for size))
    (λ d. decided-and (decided-asks p.call size) (decided-nat (length (blocks_in s d.file)) (blocks_for size)))
    (descriptor_at s p.at.process fd)
decided-within_limit s p (SizeRead at fd size) =
    decided-the (λ (d : Descriptor). size ≡ size_in s d.file) (λ d. decided-nat size (size_in s d.file)) (descriptor_at s p.at.process fd)
decided-within_limit s p (Unlinked at file) = decided-and (decided-nil (blocks_in s file)) (decided-bool (has_open s file) false)
decided-within_limit s p e = decided-yes

decided-content : (s : Store) (p : Place) (file index : ℕ) (block : Option ℕ) (range : Bounds) (wrote : Bool) (bytes : List ℕ) →
    Decided (IsContent s p file index block range wrote bytes)
decided-content s p file index block range true bytes = decided-nats bytes (bytes_for_piece p.call (record { index = index; range = range }))
decided-content s p file index block range false bytes = decided-nats bytes (bytes_within s.bytes block range (limit_in s file index))

decided-right_bytes : (s : Store) (p : Place) (e : Entry) → Decided (HasRightBytes s p e)
decided-right_bytes s p (Access at piece fd file index block range wrote way bytes) = decided-content s p file index block range wrote bytes
decided-right_bytes s p e = decided-yes

-- ---- rule 13

decided-may_begin : (s : Store) (p : Place) → Decided (MayBegin s p)
decided-may_begin s p = decided-if (decided-nil p.before) (decided-none (first_refusal s p.at.process p.call))

decided-of_growth : (reason : Reason) → Decided (IsOfGrowth reason)
decided-of_growth NoSpace = decided-yes
decided-of_growth Extents = decided-yes
decided-of_growth reason = decided-no

decided-refused : (s : Store) (p : Place) (reason : Reason) → Decided (IsRefusedFor s p reason)
decided-refused s p reason =
    decided-as
    (λ both. record { first = both.0; of_growth = both.1 })
    (λ is. (is.first, is.of_growth))
    (decided-and (decided-reason (refusal_of s p) (Some reason)) (decided-if (decided-not (decided-nil p.before)) (decided-of_growth reason)))

decided-piece_refused : (s : Store) (p : Place) (number : ℕ) (reason : Reason) → Decided (IsPieceRefusedFor s p number reason)
decided-piece_refused s p number reason =
    decided-as
    (λ both. record { not_whole = both.0; first = both.1 })
    (λ is. (is.not_whole, is.first))
    (decided-and (decided-none (first_refusal s p.at.process p.call)) (decided-reason (piece_refusal s p number) (Some reason)))

decided-may_grow : (s : Store) (file : ℕ) (goal : Option ℕ) → Decided (MayGrowToGoal s file goal)
decided-may_grow s file None = decided-yes
decided-may_grow s file (Some goal) =
    decided-as
    (λ both. record { within = both.0; room = both.1 })
    (λ may. (may.within, may.room))
    (decided-and (decided-le goal FILE_SIZE) (decided-none (growth_reason s file goal)))

decided-right_reason : (s : Store) (p : Place) (e : Entry) → Decided (HasRightReason s p e)
decided-right_reason s p (Extended at file to block) = decided-and (decided-may_begin s p) (decided-may_grow s file (goal_of s p))
decided-right_reason s p (Refused at None reason) = decided-refused s p reason
decided-right_reason s p (Refused at (Some piece) reason) = decided-piece_refused s p piece reason
decided-right_reason s p e = decided-may_begin s p

-- ---- all rules

decided-fits_script : (script : Script) (before : List Entry) (e : Entry) (rule : EntryRule) → Decided (FitsScript script before e rule)
decided-fits_script script before e NextCall = decided-next_call script before (at_of e)
decided-fits_script script before e FitsCall =
    decided-if_some (λ (call : Call). IsOfCall (record { call = call; at = at_of e; before = entries_of (at_of e) before }) e)
    (λ call. decided-of_call (record { call = call; at = at_of e; before = entries_of (at_of e) before }) e) (call_at script (at_of e))
decided-fits_script script before e Once = decided-first (entries_of (at_of e) before) e
decided-fits_script script before e rule = decided-yes

decided-fits_store : (s : Store) (p : Place) (e : Entry) (rule : EntryRule) → Decided (FitsStore s p e rule)
decided-fits_store s p e RightWay = decided-right_way s p e
decided-fits_store s p e IsOpen = decided-right_descriptor s p e
decided-fits_store s p e RightFile = decided-right_file s p e
decided-fits_store s p e Allowed = decided-allowed s p e
decided-fits_store s p e Rights = decided-rights s p e
decided-fits_store s p e NoPlain = decided-no_plain s p e
decided-fits_store s p e RightBlock = decided-right_block s p e
decided-fits_store s p e WithinLimit = decided-within_limit s p e
decided-fits_store s p e RightBytes = decided-right_bytes s p e
decided-fits_store s p e NotRefused = decided-right_reason s p e
decided-fits_store s p e rule = decided-yes

pub decided-keeps_rule : (script : Script) (before : List Entry) (s : Store) (e : Entry) (rule : EntryRule) → Decided (KeepsRule script before s e rule)
decided-keeps_rule script before s e rule =
    decided-and (decided-fits_script script before e rule)
    (decided-if_some (λ (call : Call). FitsStore s (place_in s call (at_of e)) e rule) (λ call. decided-fits_store s (place_in s call (at_of e)) e rule)
    (call_at script (at_of e)))
