-- Every entry that is legal at its place keeps the volume of a store sound.
use Rattle.std.proofs.Common.{◌≡◌, ℕ, ◌+◌, ◌-◌, ◌*◌, ◌/◌, ◌<◌, ◌≤◌, min, true, false, nat_lt, cond, is_some, List, [], ◌∷◌, ◌++◌, length, drop, replicate, slice_set, Option, None, Some, arith, refl, sym, ap, ◌∙◌, inl, inr, subst}
use Rattle.std.specs.Prelude.{slice_get}
use Rattle.std.specs.Option.{option_and_then, option_map, option_map_or}
use Rattle.std.proofs.lemmas.Bool.{both_ways, cases_lt, cond-true, false≢true, lt-ltb, ltb-true, or_left}
use Rattle.std.proofs.lemmas.List.{append-nil, get_or_past, set-get_or}
use Rattle.std.proofs.lemmas.List.Elements.{All-drop, All-take}
use Rattle.std.proofs.lemmas.Option.{cond_some, get_or_from_slice_get, none-some, slice_get_within}
use Rattle.bd_base.specs.declared.limits.TheConstants.{BLOCK_SIZE, FILE_SIZE, USERS}
use Rattle.bd_base.specs.declared.reason.Reason.{Reason}
use Rattle.bd_base.specs.declared.reason.Reason.TheVariants.{Exists}
use Rattle.bd_base.specs.declared.script.Call.{Call}
use Rattle.bd_base.specs.declared.script.Call.TheVariants.{Create, RawWrite, Write}
use Rattle.bd_base.specs.declared.journal.At.{At}
use Rattle.bd_base.specs.declared.journal.Way.{Way}
use Rattle.bd_base.specs.declared.journal.Way.TheVariants.{Direct}
use Rattle.bd_base.specs.declared.range.Range.{Range}
use Rattle.bd_base.specs.declared.volume.Inode.{Inode}
use Rattle.bd_base.specs.Allocation.{last_block}
use Rattle.bd_base.specs.Bytes.{AreBytes}
use Rattle.bd_base.specs.Files.{blocks_for, limit_of}
use Rattle.bd_base.specs.Inodes.{blocks_of_slot, create_refusal, empty_file, grown_file, growth_block, growth_refusal, id_of, is_free, without_last}
use Rattle.bd_base.specs.Pieces.{Piece}
use Rattle.bd_base.specs.Scripts.{IsCall}
use Rattle.bd_base.specs.Volumes.{IsSoundVolume}
use Rattle.bd_base.proofs.Growth.{allocated_block-free}
use Rattle.bd_base.proofs.Takes.{Grows, Grows-from, enough_grown, enough_within, full_before}
use Rattle.bd_base.proofs.ValidFiles.{IsFree-from}
use Rattle.bd_entry.specs.declared.entry.Entry.{Entry}
use Rattle.bd_entry.specs.declared.entry.Entry.TheVariants.{Access, Created, Extended, Refused, Released, Sized, Unlinked}
use Rattle.bd_entry.specs.Calls.{at_of, bytes_for_piece, does_write, is_end_of, is_ended_by, is_made_by, piece_of_call}
use Rattle.bd_entry.specs.Effects.{after_change, with_block_bytes, with_size, with_zero_tail}
use Rattle.bd_entry.specs.Laws.{AreOfCall, IsNextEntry}
use Rattle.bd_entry.specs.Refusals.{goal_of, next_size}
use Rattle.bd_entry.specs.Rules.{EntryRule, FitsStore, NotRefused, RightBlock, RightBytes, RightFile, WithinLimit, place_in}
use Rattle.bd_entry.specs.RulesOfCalls.{IsOfCall}
use Rattle.bd_entry.specs.RulesOfContents.{EndsWithin, MayGrowToGoal}
use Rattle.bd_entry.specs.Store.{Descriptor, Store, Valid, blocks_in, file_in, limit_in, size_in, user_of, volume_in, work_of}
use Rattle.bd_entry.proofs.CallEntries.{AreOfCall-parts}
use Rattle.bd_entry.proofs.CallPieces.{bytes_for_piece-length, piece_of_call-in_block}
use Rattle.bd_entry.proofs.VolumeFiles.{sound-dropped, sound-grown, sound-grown_within, sound-made, sound-removed, sound-resized, sound-written}

-- the entry keeps each rule of stores at its place
abbrev pub KeepsAll : Store → Call → Entry → Type 0
KeepsAll s call e = (rule : EntryRule) → FitsStore s (place_in s call (at_of e)) e rule

-- ---- what the next entry of a call is

pub is_of_call : (s : Store) (call : Call) (e : Entry) → IsNextEntry s call e → IsOfCall (place_in s call (at_of e)) e
is_of_call s call e next =
    (AreOfCall-parts (record { call = call; at = at_of e; before = [] }) (work_of s (at_of e).process) (e ∷ []) next.of_call).1.0

-- ---- a file that is made

-- each entry of a create ends it
create_ends : (name : List ℕ) (perms : ℕ) (e : Entry) → is_made_by (Create name perms) e ≡ true → is_end_of (Create name perms) e ≡ true
create_ends name perms (Created at file entry_name entry_perms) made = refl
create_ends name perms (Refused at None reason) made = refl
create_ends name perms other made = absurd (false≢true made)

-- so nothing stands before an entry of one
pub first_of_create : (name : List ℕ) (perms : ℕ) (at : At) (before : List Entry) (e : Entry) →
    AreOfCall (record { call = Create name perms; at = at; before = [] }) (before ++ e ∷ []) →
    is_ended_by (Create name perms) before ≡ false → before ≡ []
first_of_create name perms at [] e all unfinished = refl
first_of_create name perms at (first ∷ more) e all unfinished =
    absurd (both_ways (is_ended_by (Create name perms) (first ∷ more)) unfinished
    (or_left (is_end_of (Create name perms) first) _ (create_ends name perms first all.0.kind)))

-- a create that is not refused has a name of no file
unused_name : (id : Option ℕ) (further : Option Reason) → cond (is_some id) (Some Exists) further ≡ None → id ≡ None
unused_name None further is = refl
unused_name (Some id) further is = absurd (none-some Exists (sym is))

user_below : (s : Store) (process : ℕ) → Valid s → user_of s process < USERS
user_below s process valid =
    elim (cases_lt process (length s.uids)) [
      | inl inside ↦ valid.users process 0 inside
      | inr past ↦ rw (get_or_past s.uids process 0 past) (omega arith)
    ]

created : (s : Store) (call : Call) (at : At) (file : ℕ) (name : List ℕ) (perms : ℕ) → let e = Created at file name perms in
    Valid s → IsCall call → IsNextEntry s call e → KeepsAll s call e → IsSoundVolume (volume_in (after_change s e))
created s (Create asked asked_perms) at file name perms valid is_call next keeps =
    let e = Created at file name perms in
    let of_call = is_of_call s (Create asked asked_perms) e next in
    let first : work_of s at.process ≡ [] = first_of_create asked asked_perms at (work_of s at.process) e next.of_call next.unfinished in
    let allowed : create_refusal asked s.files ≡ None = keeps NotRefused first in
    let unused : id_of asked s.files ≡ None = unused_name (id_of asked s.files) _ allowed in
    subst (λ (n : List ℕ). IsSoundVolume (record {
      total = s.total;
      inodes = slice_set s.files file (Some (empty_file n (user_of s at.process) perms));
      bytes = s.bytes;
    })) (sym of_call.fields.0)
    (sound-made (volume_in s) file asked (user_of s at.process) perms valid.volume (keeps RightFile) unused is_call.0 (user_below s at.process valid)
    (omega (arith, is_call.1, of_call.fields.1)))
created s call at file name perms valid is_call next keeps = absurd (is_of_call s call (Created at file name perms) next).fields

-- ---- bytes that are written

-- the bytes that a call writes by a piece are bytes, and no more than the piece has
record FillsPiece (call : Call) (piece : Piece) : Type 0 where
  are_bytes : AreBytes (bytes_for_piece call piece)
  within : piece.range.lo + length (bytes_for_piece call piece) ≤ piece.range.hi

fills_piece : (call : Call) (number : ℕ) (piece : Piece) → IsCall call → does_write call ≡ true → piece_of_call call number ≡ Some piece →
    FillsPiece call piece
fills_piece call number piece is_call writes at =
    let count = bytes_for_piece-length call number piece is_call writes at in
    record {
      are_bytes = are_bytes call is_call writes;
      within = omega (arith, count, (piece_of_call-in_block call number piece is_call at).some);
    }
  where
    are_bytes : (call : Call) → IsCall call → does_write call ≡ true → AreBytes (bytes_for_piece call piece)
    are_bytes (Write fd off bytes) is_call writes =
        let start = BLOCK_SIZE * piece.index + piece.range.lo - off in
        All-take (λ byte. byte < 256) (start + (piece.range.hi - piece.range.lo) - start) (drop start bytes)
        (All-drop (λ byte. byte < 256) start bytes is_call.2.0)
    are_bytes (RawWrite address lo bytes) is_call writes = is_call.2.0
    are_bytes call is_call writes = absurd (false≢true writes)

-- a write ends within the limit, by any way
pub writes_end-within : (way : Way) (hi limit : ℕ) → EndsWithin way true hi limit → hi ≤ limit
writes_end-within Direct hi limit within = within
writes_end-within other hi limit within = within

written : (s : Store) (call : Call) (at : At) (piece fd file index : ℕ) (block : Option ℕ) (range : Range) (way : Way) (bytes : List ℕ) →
    let e = Access at piece fd file index block range true way bytes in
    Valid s → IsCall call → IsNextEntry s call e → KeepsAll s call e → IsSoundVolume (volume_in (after_change s e))
written s call at piece fd file index None range way bytes valid is_call next keeps = valid.volume
written s call at piece fd file index (Some block) range way bytes valid is_call next keeps = by (file_in s file) refl
  where
    of_call : IsOfCall (place_in s call at) (Access at piece fd file index (Some block) range true way bytes)
    of_call = is_of_call s call (Access at piece fd file index (Some block) range true way bytes) next

    the_piece : Piece
    the_piece = record { index = index; range = range }

    fills : FillsPiece call the_piece
    fills = fills_piece call piece the_piece is_call (sym of_call.fields.1.direction) of_call.fields.1.piece

    same_bytes : bytes ≡ bytes_for_piece call the_piece
    same_bytes = keeps RightBytes

    by : (slot : Option Inode) → file_in s file ≡ slot →
        IsSoundVolume (volume_in (after_change s (Access at piece fd file index (Some block) range true way bytes)))
    by None none = absurd (none-some block (sym (ap (λ (o : Option Inode). slice_get (blocks_of_slot o) index) none) ∙ keeps RightBlock))
    by (Some f) there =
        let at_index : slice_get f.blocks index ≡ Some block =
        sym (ap (λ (o : Option Inode). slice_get (blocks_of_slot o) index) there) ∙ keeps RightBlock in
        let limit : limit_in s file index ≡ limit_of f.size f.blocks index =
        ap (λ (o : Option Inode). limit_of (option_map_or (λ (f : Inode). f.size) o 0) (blocks_of_slot o) index) there in
        let ends : range.hi ≤ limit_in s file index = writes_end-within way range.hi (limit_in s file index) (keeps WithinLimit) in
        let count : length bytes ≡ length (bytes_for_piece call the_piece) = ap length same_bytes in
        sound-written (volume_in s) file f index block range.lo bytes valid.volume there
        (record { inside = slice_get_within f.blocks index block at_index; is = get_or_from_slice_get f.blocks index block 0 at_index })
        (subst AreBytes (sym same_bytes) fills.are_bytes)
        (omega (arith, fills.within, count, ends, limit))

-- ---- a file that grows

-- a size on the way to the goal of a growth that is not refused
pub record GrowsTo (s : Store) (f : Inode) (to : ℕ) : Type 0 where
  pub goal : ℕ
  pub larger : f.size < to
  pub near : to ≤ BLOCK_SIZE * (f.size / BLOCK_SIZE + 1)
  pub fits : to ≤ FILE_SIZE
  pub allowed : growth_refusal s.total s.files f goal ≡ None

pub grows_to : (s : Store) (file : ℕ) (f : Inode) (to : ℕ) (goal : Option ℕ) → file_in s file ≡ Some f →
    option_and_then (next_size (size_in s file)) goal ≡ Some to → MayGrowToGoal s file goal → GrowsTo s f to
grows_to s file f to None there next may = absurd (none-some to next)
grows_to s file f to (Some goal) there next may =
    let size : size_in s file ≡ f.size = ap (λ (o : Option Inode). option_map_or (λ (f : Inode). f.size) o 0) there in
    let step = cond_some (nat_lt (size_in s file) goal) (min goal (BLOCK_SIZE * (size_in s file / BLOCK_SIZE + 1))) to next in
    let below : f.size < goal = (let under = ltb-true (size_in s file) goal step.0 in omega (arith, under, size)) in
    let reason : cond (nat_lt f.size goal) (growth_refusal s.total s.files f goal) None ≡ None =
    sym (ap (option_and_then (λ (f : Inode). cond (nat_lt f.size goal) (growth_refusal s.total s.files f goal) None)) there) ∙ may.room in
    record {
      goal = goal;
      larger = omega (arith, step.1, size, below);
      near = omega (arith, step.1, size);
      fits = omega (arith, step.1, may.within);
      allowed = sym (cond-true (nat_lt f.size goal) _ None (lt-ltb f.size goal below)) ∙ reason;
    }

extended : (s : Store) (call : Call) (at : At) (file to : ℕ) (block : Option ℕ) → let e = Extended at file to block in
    Valid s → KeepsAll s call e → IsSoundVolume (volume_in (after_change s e))
extended s call at file to block valid keeps =
    let the_file = keeps RightBlock in
    let f = the_file.0 in
    let grows = grows_to s file f to (goal_of s (place_in s call at)) the_file.1 (keeps WithinLimit) (keeps NotRefused).1 in
    subst (λ (slot : Option Inode). IsSoundVolume (record {
      total = s.total;
      inodes = slice_set s.files file (option_map (λ (f : Inode). grown_file f block to) slot);
      bytes = with_block_bytes block 0 (replicate BLOCK_SIZE 0) s.bytes;
    })) (sym the_file.1) (by block f the_file.1 the_file.2 grows)
  where
    by : (block : Option ℕ) (f : Inode) → file_in s file ≡ Some f → growth_block s.total s.files f ≡ block → GrowsTo s f to →
        IsSoundVolume (record {
          total = s.total;
          inodes = slice_set s.files file (Some (grown_file f block to));
          bytes = with_block_bytes block 0 (replicate BLOCK_SIZE 0) s.bytes;
        })
    by None f there planned grows =
        let enough = (valid.volume.files.valid.each file f there).enough_blocks in
        subst (λ (bs : List ℕ). IsSoundVolume (record {
          total = s.total;
          inodes = slice_set s.files file (Some (record f { size = to; blocks = bs }));
          bytes = s.bytes;
        })) (sym (append-nil f.blocks))
        (sound-grown_within (volume_in s) file f to valid.volume there (omega (arith, grows.larger))
        (enough_within s.total s.files f grows.goal to grows.allowed planned enough grows.larger grows.near))
    by (Some block) f there planned grows =
        let enough = (valid.volume.files.valid.each file f there).enough_blocks in
        let takes : Grows s.total s.files f grows.goal block = Grows-from s.total s.files f grows.goal block grows.allowed planned in
        let free : is_free s.total s.files block ≡ true =
        allocated_block-free (is_free s.total s.files) s.total (last_block f.blocks) block takes.takes in
        sound-grown (volume_in s) file f block to valid.volume there (IsFree-from s.total s.files block free)
        (omega (arith, enough, full_before s.total s.files f block planned, grows.larger))
        (enough_grown s.total s.files f to block planned enough grows.larger grows.near) grows.fits takes.few

-- ---- a file that loses its last block, gets a size, or is taken away

released : (s : Store) (call : Call) (at : At) (file index block : ℕ) → let e = Released at file index block in
    Valid s → KeepsAll s call e → IsSoundVolume (volume_in (after_change s e))
released s call at file index block valid keeps =
    let the_file = keeps RightBlock in
    subst (λ (slot : Option Inode). IsSoundVolume (record {
      total = s.total;
      inodes = slice_set s.files file (option_map without_last slot);
      bytes = s.bytes;
    })) (sym the_file.1)
    (sound-dropped (volume_in s) file the_file.0 block valid.volume the_file.1 the_file.2.block_is)

sized : (s : Store) (call : Call) (at : At) (fd size : ℕ) → let e = Sized at fd size in
    Valid s → KeepsAll s call e → IsSoundVolume (volume_in (after_change s e))
sized s call at fd size valid keeps =
    let the = keeps WithinLimit in
    let d : Descriptor = the.0 in
    let there = (valid.descriptors at.process fd d the.1).of_file in
    subst (λ (slot : Option Descriptor). IsSoundVolume (volume_in (option_map_or (λ (d : Descriptor). with_size s d.file size) slot s))) (sym the.1)
    (by (file_in s d.file) d refl there the.2.1)
  where
    by : (slot : Option Inode) (d : Descriptor) → file_in s d.file ≡ slot → is_some slot ≡ true → length (blocks_in s d.file) ≡ blocks_for size →
        IsSoundVolume (volume_in (with_size s d.file size))
    by None d none some enough = absurd (false≢true some)
    by (Some f) d there some enough =
        subst (λ (slot : Option Inode). IsSoundVolume (record {
          total = s.total;
          inodes = slice_set s.files d.file (option_map (λ (f : Inode). record f { size = size }) slot);
          bytes = option_map_or (λ (f : Inode). with_zero_tail f size s.bytes) slot s.bytes;
        })) (sym there)
        (sound-resized (volume_in s) d.file f size valid.volume there (sym (ap (λ (o : Option Inode). length (blocks_of_slot o)) there) ∙ enough))

unlinked : (s : Store) (call : Call) (at : At) (file : ℕ) → let e = Unlinked at file in
    Valid s → KeepsAll s call e → IsSoundVolume (volume_in (after_change s e))
unlinked s call at file valid keeps = by (file_in s file) refl
  where
    by : (slot : Option Inode) → file_in s file ≡ slot → IsSoundVolume (volume_in (after_change s (Unlinked at file)))
    by None none =
        subst (λ (files : List (Option Inode)). IsSoundVolume (record { total = s.total; inodes = files; bytes = s.bytes }))
        (sym (set-get_or s.files file None) ∙ ap (slice_set s.files file) none) valid.volume
    by (Some f) there =
        sound-removed (volume_in s) file f valid.volume there (sym (ap blocks_of_slot there) ∙ (keeps WithinLimit).0)

-- ---- every entry

pub change_keeps_volume : (s : Store) (call : Call) (e : Entry) → Valid s → IsCall call → IsNextEntry s call e →
    ((rule : EntryRule) → FitsStore s (place_in s call (at_of e)) e rule) → IsSoundVolume (volume_in (after_change s e))
change_keeps_volume s call (Created at file name perms) valid is_call next keeps = created s call at file name perms valid is_call next keeps
change_keeps_volume s call (Access at piece fd file index block range true way bytes) valid is_call next keeps =
    written s call at piece fd file index block range way bytes valid is_call next keeps
change_keeps_volume s call (Extended at file to block) valid is_call next keeps = extended s call at file to block valid keeps
change_keeps_volume s call (Released at file index block) valid is_call next keeps = released s call at file index block valid keeps
change_keeps_volume s call (Sized at fd size) valid is_call next keeps = sized s call at fd size valid keeps
change_keeps_volume s call (Unlinked at file) valid is_call next keeps = unlinked s call at file valid keeps
change_keeps_volume s call other valid is_call next keeps = valid.volume
