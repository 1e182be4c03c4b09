-- No entries do not end a call.
use Rattle.std.proofs.Common.{◌≡◌, ℕ, ◌+◌, ◌-◌, ◌/◌, ◌<◌, ◌≤◌, false, [], length, refl, arith}
use Rattle.std.proofs.lemmas.List.FromFn.{length-map-range_with_len}
use Rattle.bd_base.specs.declared.limits.TheConstants.{BLOCK_SIZE}
use Rattle.bd_base.specs.declared.script.Call.{Call}
use Rattle.bd_base.specs.declared.script.Call.TheVariants.{Read, Write}
use Rattle.bd_base.specs.Pieces.{piece_at}
use Rattle.bd_base.specs.Scripts.{IsCall}
use Rattle.bd_entry.specs.Calls.{is_answered, is_ended_by}
use Rattle.bd_kernel.proofs.MarkRanges.{one_fails}

-- some piece of a byte range is not answered by no entries
range_not_answered : (off len : ℕ) → 1 ≤ len → let count = (off + len - 1) / BLOCK_SIZE + 1 - off / BLOCK_SIZE in 0 < count
range_not_answered off len some = omega arith

-- no entries do not end a call
pub not_ended : (call : Call) → IsCall call → is_ended_by call [] ≡ false
not_ended (Read fd off len) within =
    let some : 1 ≤ len = within.2 in
    let count = (off + len - 1) / BLOCK_SIZE + 1 - off / BLOCK_SIZE in
    let all = length-map-range_with_len (piece_at off len) (off / BLOCK_SIZE) count in
    let more : 0 < count = range_not_answered off len some in
    one_fails (λ number. is_answered number []) 0 _ 0 (omega arith) (omega (arith, all)) refl
not_ended (Write fd off bytes) within =
    let some : 1 ≤ length bytes = within.2.1 in
    let count = (off + length bytes - 1) / BLOCK_SIZE + 1 - off / BLOCK_SIZE in
    let all = length-map-range_with_len (piece_at off (length bytes)) (off / BLOCK_SIZE) count in
    let more : 0 < count = range_not_answered off (length bytes) some in
    one_fails (λ number. is_answered number []) 0 _ 0 (omega arith) (omega (arith, all)) refl
not_ended call within = refl
