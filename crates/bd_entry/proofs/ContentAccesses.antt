-- Accesses read and write the content of their file.
use Rattle.std.proofs.Common.{◌≡◌, ℕ, ◌+◌, ◌-◌, ◌*◌, ◌<◌, ◌≤◌, min, true, false, List, length, Option, None, Some, refl, sym, ap, ◌∙◌, arith}
use Rattle.std.specs.Prelude.{nat_le, nat_lt, slice_index_or, slice_range, All}
use Rattle.std.specs.List.{splice}
use Rattle.std.specs.Option.{option_map_or}
use Rattle.std.proofs.lemmas.Bool.{and_parts, ltb-true}
use Rattle.bd_base.specs.declared.limits.TheConstants.{BLOCK_SIZE}
use Rattle.bd_base.specs.declared.volume.Inode.{Inode}
use Rattle.bd_base.specs.Files.{blocks_for, data_start}
use Rattle.bd_base.specs.Inodes.{AreValidFiles, IsValidFile, blocks_of_slot, inode_at}
use Rattle.bd_base.specs.Pieces.{Piece}
use Rattle.bd_base.proofs.Splices.{length-splice}
use Rattle.bd_entry.specs.declared.entry.Entry.TheVariants.{Access}
use Rattle.bd_entry.specs.Effects.{effect_of, with_block_bytes}
use Rattle.bd_entry.specs.Promises.{ReadsGiveContent, WritesGoToContent, content}
use Rattle.bd_entry.specs.Rules.{RightBlock, RightBytes, WithinLimit, place_in}
use Rattle.bd_entry.specs.Store.{Valid, blocks_in, limit_in, size_at, size_in}
use Rattle.bd_entry.proofs.Accesses.{block_below_limit, of_call-in_store}
use Rattle.bd_entry.proofs.HistoryLaws.{histories_keep_valid, is_call}
use Rattle.bd_entry.proofs.CallPieces.{All-slice_get, bytes_for_piece-length, piece_of_call-in_block}
use Rattle.bd_entry.proofs.EffectsOnFiles.{effect_of-files}
use Rattle.bd_entry.proofs.FileContents.{block_bytes, block_bytes-length, bytes_of_file, content-range, splice-reads}
use Rattle.bd_entry.proofs.SoundVolumes.{writes_end-within}

-- the blocks of a file are blocks of the volume, and its size is not above theirs
record HasBlocks (total size : ℕ) (blocks : List ℕ) : Type 0 where
  pub below : All (λ block. block < total) blocks
  pub covers : size ≤ BLOCK_SIZE * length blocks

file-has_blocks : (total : ℕ) (files : List (Option Inode)) → AreValidFiles total files → (file : ℕ) →
    HasBlocks total (size_at files file) (blocks_of_slot (inode_at files file))
file-has_blocks total files valid file = by (inode_at files file) (λ f is. valid.each file f is)
  where
    by : (slot : Option Inode) → ((f : Inode) → slot ≡ Some f → IsValidFile total (length files) f) →
        HasBlocks total (option_map_or (λ (f : Inode). f.size) slot 0) (blocks_of_slot slot)
    by None each = record { below = λ k d within. absurd (omega arith); covers = omega arith }
    by (Some f) each =
        let sound = each f refl in
        let enough : length f.blocks ≡ blocks_for f.size = sound.enough_blocks in
        record {
          below = λ k d within.
              let block = slice_index_or f.blocks k d in
              let parts = and_parts (nat_le (data_start (length files)) block) (nat_lt block total) (sound.in_data_area k d within) in
              ltb-true block total parts.1;
          covers = omega arith;
        }

-- so the bytes of each are all there
whole_blocks : (bytes : List ℕ) (total : ℕ) (blocks : List ℕ) → length bytes ≡ BLOCK_SIZE * total → All (λ block. block < total) blocks →
    All (λ block. length (block_bytes bytes block) ≡ BLOCK_SIZE) blocks
whole_blocks bytes total blocks all below k d within = block_bytes-length bytes total (slice_index_or blocks k d) all (below k d within)

pub reads_give_content : ReadsGiveContent
reads_give_content v script before s call at piece fd file index block range way bytes next =
    let e = Access at piece fd file index block range false way bytes in
    let valid : Valid s = histories_keep_valid v script before s next.history in
    let blocks = file-has_blocks s.total s.files valid.volume.files.valid file in
    let in_block =
    piece_of_call-in_block call piece (record { index = index; range = range }) (is_call script at call next.history.limits next.call_is)
    (of_call-in_store v script before s call e next).fields.1.piece in
    next.keeps RightBytes
    ∙ content-range s.bytes (blocks_in s file) (size_in s file) index range
    (whole_blocks s.bytes s.total (blocks_in s file) valid.volume.all_bytes blocks.below) blocks.covers in_block.within block (next.keeps RightBlock)

-- ---- writes

pub writes_go_to_content : WritesGoToContent
writes_go_to_content v script before s call at piece fd file index block range way bytes next =
    let e = Access at piece fd file index block range true way bytes in
    let p = place_in s call at in
    let t = effect_of s p e in
    let is_piece = (of_call-in_store v script before s call e next).fields.1 in
    let within = is_call script at call next.history.limits next.call_is in
    let this : Piece = record { index = index; range = range } in
    let in_block = piece_of_call-in_block call piece this within is_piece.piece in
    let some : range.lo < range.hi = in_block.some in
    let size : length bytes ≡ range.hi - range.lo =
    ap (λ (bs : List ℕ). length bs) (next.keeps RightBytes) ∙ bytes_for_piece-length call piece this within (sym is_piece.direction) is_piece.piece in
    let valid : Valid s = histories_keep_valid v script before s next.history in
    let blocks = file-has_blocks s.total s.files valid.volume.files.valid file in
    let inside : range.hi ≤ limit_in s file index = writes_end-within way range.hi (limit_in s file index) (next.keeps WithinLimit) in
    let current = block_below_limit (size_in s file) (blocks_in s file) index range.hi (omega arith) inside in
    let here : block ≡ Some current.0 = sym (next.keeps RightBlock) ∙ current.1 in
    let place = BLOCK_SIZE * current.0 + range.lo in
    let below : current.0 < s.total = All-slice_get (λ b. b < s.total) (blocks_in s file) index current.0 blocks.below current.1 in
    let all : length s.bytes ≡ BLOCK_SIZE * s.total = valid.volume.all_bytes in
    let inner : range.hi ≤ BLOCK_SIZE = in_block.within in
    let new = splice s.bytes place (place + length bytes) bytes in
    let written : t.bytes ≡ new = (effect_of-files s p e).bytes ∙ ap (λ (b : Option ℕ). with_block_bytes b range.lo bytes s.bytes) here in
    let same_length : length new ≡ BLOCK_SIZE * s.total = length-splice s.bytes bytes place (omega arith) ∙ all in
    let start = BLOCK_SIZE * index + range.lo in
    let end : start + length bytes ≡ BLOCK_SIZE * index + range.hi = omega arith in
    let read : slice_range (bytes_of_file new (blocks_in s file) (size_in s file)) start (BLOCK_SIZE * index + range.hi) ≡ bytes =
    sym (content-range new (blocks_in s file) (size_in s file) index range (whole_blocks new s.total (blocks_in s file) same_length blocks.below) blocks.covers
    inner (Some current.0) current.1)
    ∙ (let stop : BLOCK_SIZE * current.0 + min range.hi (limit_in s file index) ≡ place + length bytes = omega arith in
    ap (slice_range new place) stop ∙ splice-reads s.bytes place bytes (omega arith)) in
    let of_store : content t file ≡ bytes_of_file new (blocks_in s file) (size_in s file) =
    ap (λ (files : List (Option Inode)). bytes_of_file t.bytes (blocks_of_slot (inode_at files file)) (size_at files file)) (effect_of-files s p e).files
    ∙ ap (λ (bs : List ℕ). bytes_of_file bs (blocks_in s file) (size_in s file)) written in (
      next.keeps RightBytes,
      ap (slice_range (content t file) start) end
          ∙ ap (λ (bs : List ℕ). slice_range bs start (BLOCK_SIZE * index + range.hi)) of_store
          ∙ read,
    )
