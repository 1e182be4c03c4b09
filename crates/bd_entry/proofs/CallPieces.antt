-- The calls of a script within the limits, and their pieces.
use Rattle.std.proofs.Common.{◌≡◌, ℕ, zero, suc, ◌+◌, ◌-◌, ◌*◌, ◌<◌, ◌≤◌, true, List, [], ◌∷◌, length, Some, sym, subst, arith}
use Rattle.std.specs.Prelude.{drop, slice_get, All}
use Rattle.std.proofs.lemmas.Bool.{false≢true}
use Rattle.std.proofs.lemmas.List.{length-drop, length-take}
use Rattle.std.proofs.lemmas.Option.{get_or_from_slice_get, none-some, same_Some, slice_get_within}
use Rattle.bd_base.specs.declared.limits.TheConstants.{BLOCK_SIZE}
use Rattle.bd_base.specs.declared.script.Call.{Call}
use Rattle.bd_base.specs.declared.script.Call.TheVariants.{Read, Write, RawRead, RawWrite}
use Rattle.bd_base.specs.Pieces.{Piece}
use Rattle.bd_base.specs.Scripts.{IsCall}
use Rattle.bd_base.proofs.Pieces.{pieces-are_parts}
use Rattle.bd_entry.specs.Calls.{bytes_for_piece, does_write, piece_of_call, raw_piece}

-- what holds of all elements holds of one that was found
pub All-slice_get : {X : Type 0} (P : X → Type 0) (xs : List X) (i : ℕ) (x : X) → All P xs → slice_get xs i ≡ Some x → P x
All-slice_get P xs i x all is = subst P (get_or_from_slice_get xs i x x is) (all i x (slice_get_within xs i x is))

-- a piece has at least one byte, and all in its block
pub record IsInBlock (piece : Piece) : Type 0 where
  pub some : piece.range.lo < piece.range.hi
  pub within : piece.range.hi ≤ BLOCK_SIZE

-- the only piece of a list with one
pub only_piece : (only piece : Piece) (number : ℕ) → slice_get (only ∷ []) number ≡ Some piece → only ≡ piece
only_piece only piece zero is = same_Some only piece is
only_piece only piece (suc number) is = absurd (none-some piece is)

-- so are the pieces of a call within the limits
pub piece_of_call-in_block : (call : Call) (number : ℕ) (piece : Piece) → IsCall call → piece_of_call call number ≡ Some piece → IsInBlock piece
piece_of_call-in_block (Read fd off len) number piece within is =
    let part = pieces-are_parts off len number piece within.2 is in record { some = part.some; within = part.in_block }
piece_of_call-in_block (Write fd off bytes) number piece within is =
    let part = pieces-are_parts off (length bytes) number piece within.2.1 is in record { some = part.some; within = part.in_block }
piece_of_call-in_block (RawRead address range) number piece within is =
    subst IsInBlock (only_piece (raw_piece address range.lo range.hi) piece number is) (record { some = within.1; within = within.2 })
piece_of_call-in_block (RawWrite address lo bytes) number piece within is =
    let some : 1 ≤ length bytes = within.2.1 in
    let few : length bytes ≤ BLOCK_SIZE - lo = within.2.2 in
    let below : lo < BLOCK_SIZE = within.1 in
    subst IsInBlock (only_piece (raw_piece address lo (lo + length bytes)) piece number is) (record { some = omega arith; within = omega arith })
piece_of_call-in_block call number piece within is = absurd (none-some piece is)

-- what a call writes by a piece is as long as the piece
pub bytes_for_piece-length : (call : Call) (number : ℕ) (piece : Piece) → IsCall call → does_write call ≡ true →
    piece_of_call call number ≡ Some piece → length (bytes_for_piece call piece) ≡ piece.range.hi - piece.range.lo
bytes_for_piece-length (Write fd off bytes) number piece within writes is =
    let part = pieces-are_parts off (length bytes) number piece within.2.1 is in
    let from : off ≤ BLOCK_SIZE * piece.index + piece.range.lo = part.from in
    let to : BLOCK_SIZE * piece.index + piece.range.hi ≤ off + length bytes = part.to in
    let some : piece.range.lo < piece.range.hi = part.some in
    let start = BLOCK_SIZE * piece.index + piece.range.lo - off in
    omega (arith, length-take (start + (piece.range.hi - piece.range.lo) - start) (drop start bytes), length-drop start bytes)
bytes_for_piece-length (RawWrite address lo bytes) number piece within writes is =
    let same : lo + length bytes - lo ≡ length bytes = omega arith in
    subst (λ (p : Piece). length bytes ≡ p.range.hi - p.range.lo) (only_piece (raw_piece address lo (lo + length bytes)) piece number is) (sym same)
bytes_for_piece-length call number piece within writes is = absurd (false≢true writes)
