-- The pieces of a call: how many they are, and which blocks and bytes of a file they take.
use Rattle.std.proofs.Common.{◌≡◌, ℕ, ◌+◌, ◌-◌, ◌*◌, ◌/◌, ◌<◌, ◌≤◌, List, [], ◌∷◌, length, drop, Some, subst, arith, length-take}
use Rattle.std.specs.Prelude.{slice_get, slice_range}
use Rattle.std.proofs.lemmas.List.Elements.{All-drop, All-nil, All-take}
use Rattle.std.proofs.lemmas.List.FromFn.{length-map-range_with_len}
use Rattle.std.proofs.lemmas.Option.{none-some, slice_get_within}
use Rattle.bd_base.specs.declared.limits.TheConstants.{BLOCK_SIZE, CALL_BYTES, LAST_INDEX, LAST_PLACE, PIECES}
use Rattle.bd_base.specs.declared.script.Call.{Call}
use Rattle.bd_base.specs.declared.script.Call.TheVariants.{Read, Write, RawRead, RawWrite}
use Rattle.bd_base.specs.Bytes.{AreBytes}
use Rattle.bd_base.specs.Pieces.{Piece, piece_at, pieces}
use Rattle.bd_base.specs.Scripts.{IsCall}
use Rattle.bd_base.proofs.Pieces.{pieces-are_parts}
use Rattle.bd_entry.specs.Calls.{bytes_for_piece, piece_of_call, raw_piece}
use Rattle.bd_entry.specs.Ranges.{IsBytes}
use Rattle.bd_entry.proofs.CallPieces.{only_piece}

-- a piece is one of few, of a block that a file could have
pub record IsPiece (number : ℕ) (piece : Piece) : Type 0 where
  pub number_is : number < PIECES
  pub index : piece.index ≤ LAST_INDEX

-- the pieces of so few bytes from there on
pieces-are : (off len number : ℕ) (piece : Piece) → off ≤ LAST_PLACE → 1 ≤ len → len ≤ CALL_BYTES →
    slice_get (pieces off len) number ≡ Some piece → IsPiece number piece
pieces-are off len number piece start some few is =
    let first = off / BLOCK_SIZE in
    let last = (off + len - 1) / BLOCK_SIZE in
    let count : length (pieces off len) ≡ last + 1 - first = length-map-range_with_len (piece_at off len) first (last + 1 - first) in
    let inside : number < length (pieces off len) = slice_get_within (pieces off len) number piece is in
    let part = pieces-are_parts off len number piece some is in
    record { number_is = omega arith; index = omega (arith, part.some, part.to) }

-- the one piece of a raw command
raw_piece-is : (address lo hi number : ℕ) (piece : Piece) → slice_get (raw_piece address lo hi ∷ []) number ≡ Some piece → IsPiece number piece
raw_piece-is address lo hi number piece is =
    let only = raw_piece address lo hi in
    let inside : number < length (only ∷ []) = slice_get_within (only ∷ []) number piece is in
    subst (IsPiece number) (only_piece only piece number is) (record { number_is = omega arith; index = omega arith })

-- the pieces of a call within the limits
pub piece_of_call-is : (call : Call) (number : ℕ) (piece : Piece) → IsCall call → piece_of_call call number ≡ Some piece → IsPiece number piece
piece_of_call-is (Read fd off len) number piece ok is = pieces-are off len number piece ok.1 ok.2 ok.3 is
piece_of_call-is (Write fd off bytes) number piece ok is = pieces-are off (length bytes) number piece ok.1 ok.2.1 ok.2.2 is
piece_of_call-is (RawRead address range) number piece ok is = raw_piece-is address range.lo range.hi number piece is
piece_of_call-is (RawWrite address lo bytes) number piece ok is = raw_piece-is address lo (lo + length bytes) number piece is
piece_of_call-is call number piece ok is = absurd (none-some piece is)

-- ---- bytes

-- a range of bytes that is no longer than a block
pub slice_range-block_bytes : (bytes : List ℕ) (from to : ℕ) → AreBytes bytes → to - from ≤ BLOCK_SIZE → IsBytes (slice_range bytes from to)
slice_range-block_bytes bytes from to are few =
    let long = length-take (to - from) (drop from bytes) in
    (All-take (λ byte. byte < 256) (to - from) (drop from bytes) (All-drop (λ byte. byte < 256) from bytes are), omega arith)

pub no_bytes : IsBytes []
no_bytes = (All-nil (λ byte. byte < 256), omega arith)

-- the bytes that a call writes by a piece of it
pub bytes_for_piece-block_bytes : (call : Call) (piece : Piece) → IsCall call → piece.range.hi ≤ BLOCK_SIZE → IsBytes (bytes_for_piece call piece)
bytes_for_piece-block_bytes (Write fd off bytes) piece ok within =
    let start = BLOCK_SIZE * piece.index + piece.range.lo - off in
    slice_range-block_bytes bytes start (start + (piece.range.hi - piece.range.lo)) ok.2.0 (omega arith)
bytes_for_piece-block_bytes (RawWrite address lo bytes) piece ok within =
    let most : length bytes ≤ BLOCK_SIZE - lo = ok.2.2 in
    (ok.2.0, omega arith)
bytes_for_piece-block_bytes call piece ok within = no_bytes
