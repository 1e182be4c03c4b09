-- What the own change of an entry asks of a disk holds where the entry keeps the rules of a valid store.
use Rattle.std.proofs.Common.{◌≡◌, ℕ, ◌*◌, ◌<◌, ◌≤◌, true, false, nat_lt, unwrap_or, List, [], ◌∷◌, map, length, position, Option, None, Some, arith, refl, sym, ap, ◌∙◌, inl, inr, subst}
use Rattle.std.specs.Prelude.{IsSome, IsTrue, slice_get}
use Rattle.std.specs.Option.{option_map_or}
use Rattle.std.proofs.lemmas.Bool.{cases_Bool, cases_lt, cond-false, cond-true}
use Rattle.std.proofs.lemmas.Bool.Decides.{nat_tests}
use Rattle.std.proofs.lemmas.List.{get_or_past}
use Rattle.std.proofs.lemmas.Option.{none-some}
use Rattle.bd_base.specs.declared.limits.TheConstants.{BLOCK_SIZE, FILE_SIZE, PIECES}
use Rattle.bd_base.specs.declared.journal.At.{At}
use Rattle.bd_base.specs.declared.journal.Way.{Way}
use Rattle.bd_base.specs.declared.range.Range.{Range}
use Rattle.bd_base.specs.declared.reason.Reason.TheVariants.{TooBig}
use Rattle.bd_base.specs.declared.script.Call.{Call}
use Rattle.bd_base.specs.declared.script.Call.TheVariants.{Create}
use Rattle.bd_base.specs.declared.volume.Inode.{Inode}
use Rattle.bd_base.specs.Allocation.{is_data_block}
use Rattle.bd_base.specs.Inodes.{blocks_of_slot, create_refusal, existing_file, growth_block, growth_refusal, inode_at, no_file}
use Rattle.bd_base.specs.Pieces.{Piece}
use Rattle.bd_base.specs.Scripts.{IsCall}
use Rattle.bd_entry.specs.declared.entry.Entry.{Entry}
use Rattle.bd_entry.specs.declared.entry.Entry.TheVariants.{Access, Attached, Closed, Created, Detached, Extended, Missed, Opened, Refused, Released, Sized, Unlinked}
use Rattle.bd_entry.specs.Calls.{Place, at_of, bytes_for_piece}
use Rattle.bd_entry.specs.Laws.{IsNextEntry}
use Rattle.bd_entry.specs.NextEntries.{IsLegalAt, IsReadyPlace}
use Rattle.bd_entry.specs.Actions.{Running}
use Rattle.bd_entry.specs.Refusals.{goal_of}
use Rattle.bd_entry.specs.Rules.{EntryRule, FitsStore, IsOpen, NotRefused, RightBlock, RightBytes, RightFile, Rights, WithinLimit, place_in}
use Rattle.bd_entry.specs.RulesOfCalls.{IsOfCall}
use Rattle.bd_entry.specs.Store.{Descriptor, Store, Valid, file_in, is_empty_slot, lowest_fd, pairs_of_slot, size_at, slots_of}
use Rattle.bd_entry.proofs.CallEntries.{AreOfCall-parts}
use Rattle.bd_entry.proofs.CallOrder.{AreOfCall-push}
use Rattle.bd_entry.proofs.CallPieces.{All-slice_get, bytes_for_piece-length}
use Rattle.bd_entry.proofs.ChangedStores.{file_of-there}
use Rattle.bd_entry.proofs.DescriptorSteps.{lowest_fd-free}
use Rattle.bd_entry.proofs.Descriptors.{attaching, sound_all}
use Rattle.bd_entry.proofs.RangesOfPieces.{piece_of_call-is}
use Rattle.bd_entry.proofs.Slots.{row_within, some_of}
use Rattle.bd_entry.proofs.SoundVolumes.{first_of_create, grows_to}
use Rattle.bd_kernel.specs.Changes.{has_right}
use Rattle.bd_kernel.specs.Disks.{CanChange, CanGrow, CanWrite, DiskState, IsDiskOf, IsSoundEntry, disk_as}
use Rattle.bd_kernel.specs.Marks.{HasPieceOf}
use Rattle.bd_kernel.proofs.DiskBytes.{within_total}

-- the entry is of the call
of_call : (s : Store) (p : Place) (e : Entry) → IsSoundEntry s p e → IsOfCall p e
of_call s p e is = (AreOfCall-parts (record p { before = [] }) p.before (e ∷ []) is.all_of_call).1.0

-- ---- the piece that is noted

some_piece : (call : Call) (number : ℕ) (found : Option Piece) → IsCall call → IsSome found → ((piece : Piece) → found ≡ Some piece → number < PIECES) →
    number < PIECES
some_piece call number found is_call some within = let it = some_of found some in within it.0 it.1

-- the piece of an entry of a call is one that a call may have
pub has_piece : (p : Place) (e : Entry) → IsCall p.call → IsOfCall p e → HasPieceOf e
has_piece p (Access at piece fd file index block range wrote way bytes) is_call of_call =
    (piece_of_call-is p.call piece _ is_call of_call.fields.1.piece).number_is
has_piece p (Missed at piece found) is_call of_call =
    some_piece p.call piece _ is_call of_call.fields (λ of is. (piece_of_call-is p.call piece of is_call is).number_is)
has_piece p (Refused at (Some piece) reason) is_call of_call =
    some_piece p.call piece _ is_call of_call.fields (λ of is. (piece_of_call-is p.call piece of is_call is).number_is)
has_piece p e is_call of_call = tt

-- ---- descriptors

-- the process of a descriptor is there
row_of_lowest : (s : Store) (process fd : ℕ) → lowest_fd s process ≡ Some fd → process < length s.opens
row_of_lowest s process fd lowest =
    elim (cases_lt process (length s.opens)) [
      | inl there ↦ there
      | inr past ↦
          let none : slots_of s process ≡ [] = get_or_past s.opens process [] past in
          absurd (none-some fd (subst (λ (slots : List (Option Descriptor)). position is_empty_slot slots ≡ Some fd) none lowest))
    ]

-- ---- a file that is made

can_make : (s : Store) (call : Call) (at : At) (before : List Entry) (file : ℕ) (name : List ℕ) (perms : ℕ) →
    let p : Place = record { call = call; at = at; before = before } in
    IsSoundEntry s p (Created at file name perms) → create_refusal name s.files ≡ None
can_make s (Create asked asked_perms) at before file name perms is =
    let e : Entry = Created at file name perms in
    let is_of : IsOfCall (record { call = Create asked asked_perms; at = at; before = before }) e =
    of_call s (record { call = Create asked asked_perms; at = at; before = before }) e is in
    subst (λ (n : List ℕ). create_refusal n s.files ≡ None) (sym is_of.fields.0)
    (is.keeps NotRefused (first_of_create asked asked_perms at before e is.all_of_call is.unfinished))
can_make s call at before file name perms is =
    absurd (of_call s (record { call = call; at = at; before = before }) (Created at file name perms) is).fields

-- ---- bytes that are written

can_write : (s : Store) (p : Place) (at : At) (piece fd file index block : ℕ) (range : Range) (way : Way) (bytes : List ℕ) →
    IsSoundEntry s p (Access at piece fd file index (Some block) range true way bytes) → CanWrite s.bytes block range bytes
can_write s p at piece fd file index block range way bytes is = by (file_in s file) refl
  where
    by : (slot : Option Inode) → file_in s file ≡ slot → CanWrite s.bytes block range bytes
    by None none =
        absurd (none-some block (sym (ap (λ (o : Option Inode). slice_get (blocks_of_slot o) index) none) ∙ is.keeps RightBlock))
    by (Some f) there =
        let the_piece : Piece = record { index = index; range = range } in
        let at_index : slice_get f.blocks index ≡ Some block =
        sym (ap (λ (o : Option Inode). slice_get (blocks_of_slot o) index) there) ∙ is.keeps RightBlock in
        let below : block < s.total =
        within_total s.total (length s.files) block
        (All-slice_get (λ (b : ℕ). IsTrue (is_data_block s.total (length s.files) b)) f.blocks index block
        (is.valid.volume.files.valid.each file f there).in_data_area at_index) in
        let is_of = of_call s p (Access at piece fd file index (Some block) range true way bytes) is in
        let count = bytes_for_piece-length p.call piece the_piece is.within (sym is_of.fields.1.direction) is_of.fields.1.piece in
        let same : length bytes ≡ length (bytes_for_piece p.call the_piece) = ap length (is.keeps RightBytes) in
        let all : length s.bytes ≡ BLOCK_SIZE * s.total = is.valid.volume.all_bytes in
        record { there = omega (arith, below, all); count = same ∙ count }

-- ---- files that grow, shrink or go

-- no file in place of none
existing-blocks : (slot : Option Inode) → (unwrap_or slot no_file).blocks ≡ blocks_of_slot slot
existing-blocks None = refl
existing-blocks (Some f) = refl

not_below : (a b : ℕ) → b ≤ a → nat_lt a b ≡ false
not_below a b le = grind (arith, nat_tests)

-- a growth that may go as far as a goal may go less far
allowed_before : (total : ℕ) (files : List (Option Inode)) (f : Inode) (goal to : ℕ) → growth_refusal total files f goal ≡ None →
    to ≤ FILE_SIZE → growth_refusal total files f to ≡ None
allowed_before total files f goal to allowed within =
    elim (cases_Bool (nat_lt FILE_SIZE goal)) [
      | inl big ↦ absurd (none-some TooBig (sym allowed ∙ cond-true _ _ _ big))
      | inr fits ↦ cond-false (nat_lt FILE_SIZE to) _ _ (not_below FILE_SIZE to within) ∙ sym (cond-false _ _ _ fits) ∙ allowed
    ]

can_grow : (s : Store) (p : Place) (at : At) (file to : ℕ) (block : Option ℕ) → IsSoundEntry s p (Extended at file to block) →
    CanGrow s.total s.files file to block
can_grow s p at file to block ready =
    let the_file = ready.keeps RightBlock in
    let f : Inode = the_file.0 in
    let grows = grows_to s file f to (goal_of s p) the_file.1 (ready.keeps WithinLimit) (ready.keeps NotRefused).1 in
    let is : existing_file s.files file ≡ f = ap (λ (o : Option Inode). unwrap_or o no_file) the_file.1 in
    let size : size_at s.files file ≡ f.size = ap (λ (o : Option Inode). option_map_or (λ (f : Inode). f.size) o 0) the_file.1 in
    record {
      exists = subst IsSome (sym the_file.1) refl;
      larger = omega (arith, size, grows.larger);
      one_block = omega (arith, size, grows.near);
      allowed =
          subst (λ (g : Inode). growth_refusal s.total s.files g to ≡ None) (sym is)
          (allowed_before s.total s.files f grows.goal to grows.allowed grows.fits);
      block_is = subst (λ (g : Inode). growth_block s.total s.files g ≡ block) (sym is) the_file.2;
    }

-- ---- every entry

can_change_at : (d : DiskState) (s : Store) (call : Call) (before : List Entry) (e : Entry) →
    IsSoundEntry s (record { call = call; at = at_of e; before = before }) e → CanChange (disk_as d s) e
can_change_at d s call before (Opened at file fd mode how) is =
    record {
      there = row_of_lowest s at.process fd (is.keeps IsOpen);
      none = ap pairs_of_slot (lowest_fd-free s at.process fd (is.keeps IsOpen));
    }
can_change_at d s call before (Created at file name perms) is =
    record { lowest = is.keeps RightFile; allowed = can_make s call at before file name perms is }
can_change_at d s call before (Attached at fd part) is = is.keeps IsOpen
can_change_at d s call before (Detached at owner fd part) is =
    let right = is.keeps Rights in
    record { is_open = is.keeps IsOpen; attached = ap (has_right part) right.1 ∙ right.2.0 }
can_change_at d s call before (Access at piece fd file index (Some block) range true way bytes) is =
    can_write s (record { call = call; at = at; before = before }) at piece fd file index block range way bytes is
can_change_at d s call before (Extended at file to block) is = can_grow s (record { call = call; at = at; before = before }) at file to block is
can_change_at d s call before (Released at file index block) is =
    let the_file = is.keeps RightBlock in
    let same : existing_file s.files file ≡ the_file.0 = ap (λ (o : Option Inode). unwrap_or o no_file) the_file.1 in
    record {
      exists = subst IsSome (sym the_file.1) refl;
      blocks = subst (λ (f : Inode). 0 < length f.blocks) (sym same) (omega (arith, the_file.2.index_is));
    }
can_change_at d s call before (Sized at fd size) is =
    let the = is.keeps WithinLimit in
    let it : Descriptor = the.0 in (
      it,
      the.1,
      record {
        exists = (is.valid.descriptors at.process fd it the.1).of_file;
        blocks = ap (λ (blocks : List ℕ). length blocks) (existing-blocks (inode_at s.files it.file)) ∙ the.2.1;
      },
    )
can_change_at d s call before (Closed at fd) is =
    let the = is.keeps Rights in
    let it : Descriptor = the.0 in
    record {
      there = row_within s.opens at.process fd it the.1;
      none = ap pairs_of_slot the.1 ∙ ap (λ (parts : List ℕ). map (λ part. (it.file, part)) parts) the.2;
    }
can_change_at d s call before (Unlinked at file) is =
    let p : Place = record { call = call; at = at; before = before } in
    record {
      exists = file_of-there s p (attaching s.work) file (sound_all s is.valid.descriptors) (is.keeps RightFile);
      blocks = existing-blocks (inode_at s.files file) ∙ (is.keeps WithinLimit).0;
    }
can_change_at d s call before e is = tt

-- the disk of a store, from the parts of the store
disk_is : (d : DiskState) (s : Store) → IsDiskOf d s → disk_as d s ≡ d
disk_is d s is =
    ap (λ total. record (disk_as d s) { total = total }) is.total
    ∙ ap (λ files. record (disk_as d s) { total = d.total; files = files }) is.files
    ∙ ap (λ bytes. record (disk_as d s) { total = d.total; files = d.files; bytes = bytes }) is.bytes
    ∙ ap (λ rows. record (disk_as d s) { total = d.total; files = d.files; bytes = d.bytes; rows = rows }) is.opens

-- an entry that a call within the limits adds to a valid store asks of its disk only what holds there
pub can_change : (d : DiskState) (s : Store) (p : Place) (e : Entry) → IsDiskOf d s → IsSoundEntry s p e → CanChange d e
can_change d s p e is sound =
    let same : p ≡ record { call = p.call; at = at_of e; before = p.before } = ap (λ (at : At). record p { at = at }) (sym sound.of_place) in
    subst (λ (d : DiskState). CanChange d e) (disk_is d s is)
    (can_change_at d s p.call p.before e (subst (λ (p : Place). IsSoundEntry s p e) same sound))

-- ---- where such entries come from

-- the next entry of a running call, where it keeps the rules
pub next_is_sound : (s : Store) (call : Call) (e : Entry) → Valid s → IsCall call → IsNextEntry s call e →
    ((rule : EntryRule) → FitsStore s (place_in s call (at_of e)) e rule) → IsSoundEntry s (place_in s call (at_of e)) e
next_is_sound s call e valid is_call next keeps = record {
  valid = valid;
  within = is_call;
  of_place = refl;
  all_of_call = next.of_call;
  unfinished = next.unfinished;
  keeps = keeps;
}

-- a legal entry of a call that goes on
pub legal_is_sound : (s : Store) (r : Running) (e : Entry) → IsReadyPlace s r → IsLegalAt s r.place e → IsSoundEntry s r.place e
legal_is_sound s r e ready legal = record {
  valid = ready.valid;
  within = ready.within;
  of_place = legal.of_place;
  all_of_call = AreOfCall-push (record r.place { before = [] }) r.place.before e ready.of_call legal.of_call legal.once;
  unfinished = ready.unfinished;
  keeps = legal.keeps;
}
