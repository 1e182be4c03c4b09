-- A step of a file's growth, or a release of its last block, leaves one step fewer.
use Rattle.std.proofs.Common.{◌≡◌, ◌⊎◌, inl, inr, ℕ, ◌+◌, ◌-◌, ◌*◌, ◌/◌, ◌<◌, ◌≤◌, min, None, Some, refl, sym, subst, arith, ⊎_elim}
use Rattle.std.specs.Prelude.{nat_lt, slice_get}
use Rattle.std.proofs.lemmas.Bool.{cases_lt, cond-false, cond-true, false_from_ne_true, lt-ltb, ltb-true}
use Rattle.std.proofs.lemmas.Option.{none-some, same_Some}
use Rattle.bd_base.specs.declared.limits.TheConstants.{BLOCK_SIZE}
use Rattle.bd_base.specs.Files.{blocks_for}
use Rattle.bd_base.specs.Pieces.{Piece, piece_at, pieces}
use Rattle.bd_base.proofs.Ranges.{get-map-range}
use Rattle.bd_entry.specs.Calls.{piece_end}
use Rattle.bd_entry.specs.Refusals.{next_size}
use Rattle.bd_entry.proofs.NextFiles.{cond_from}
use Rattle.bd_turns.specs.Rest.{growth_turns, size_turns}

-- on the way to a goal
pub growth-below : (size goal : ℕ) → size < goal → growth_turns size goal ≡ blocks_for goal - size / 4096
growth-below size goal below = cond-true (nat_lt size goal) (blocks_for goal - size / 4096) 0 (lt-ltb size goal below)

-- and there
pub growth-there : (size goal : ℕ) → goal ≤ size → growth_turns size goal ≡ 0
growth-there size goal there =
    cond-false (nat_lt size goal) (blocks_for goal - size / 4096) 0
    (false_from_ne_true (nat_lt size goal) (λ below. let lt : size < goal = ltb-true size goal below in absurd (omega arith)))

pub growth-most : (size goal most : ℕ) → blocks_for goal ≤ most → growth_turns size goal ≤ most
growth-most size goal most few =
    ⊎_elim
    (λ below. let is : growth_turns size goal ≡ blocks_for goal - size / 4096 = growth-below size goal below in omega arith)
    (λ there. let is : growth_turns size goal ≡ 0 = growth-there size goal there in omega arith)
    (cases_lt size goal)

-- the next size is a step of growth
record IsStep (size goal to : ℕ) : Type 0 where
  below : size < goal
  to_is : to ≡ min goal (4096 * (size / 4096 + 1))

step-is : (size goal to : ℕ) → next_size size goal ≡ Some to → IsStep size goal to
step-is size goal to is =
    ⊎_elim
    (λ below. record { below = ltb-true size goal below.0; to_is = sym (same_Some (min goal (4096 * (size / 4096 + 1))) to below.1) })
    (λ there. absurd (none-some to there.1))
    (cond_from (nat_lt size goal) (Some (min goal (BLOCK_SIZE * (size / BLOCK_SIZE + 1)))) None (Some to) is)

-- a step towards a goal leaves one step fewer to an end that is the goal, or beyond the block that ends there
pub growth_falls : (size goal to end : ℕ) → next_size size goal ≡ Some to → goal ≤ end → (goal ≡ end) ⊎ ((j : ℕ) × (goal ≡ 4096 * j)) →
    growth_turns to end + 1 ≤ growth_turns size end
growth_falls size goal to end next within border =
    let step = step-is size goal to next in
    let below : size < goal = step.below in
    let to_is : to ≡ min goal (4096 * (size / 4096 + 1)) = step.to_is in
    let old : growth_turns size end ≡ blocks_for end - size / 4096 = growth-below size end (omega arith) in
    ⊎_elim
    (λ before.
    let new : growth_turns to end ≡ blocks_for end - to / 4096 = growth-below to end before in
    ⊎_elim
    (λ same. omega (arith, same, before))
    (λ block.
    let at : goal ≡ 4096 * block.0 = block.1 in
    let j : ℕ = block.0 in
    omega (arith, at))
    border)
    (λ there. let new : growth_turns to end ≡ 0 = growth-there to end there in omega (arith, there))
    (cases_lt to end)

-- so it does for a truncation that grows its file
pub size_grows : (size goal to : ℕ) → next_size size goal ≡ Some to → size_turns to goal + 1 ≤ size_turns size goal
size_grows size goal to next =
    let less : growth_turns to goal + 1 ≤ growth_turns size goal = growth_falls size goal to goal next (omega arith) (inl refl) in
    let step = step-is size goal to next in
    let below : size < goal = step.below in
    let to_is : to ≡ min goal (4096 * (size / 4096 + 1)) = step.to_is in
    omega arith

-- and a release of the last block for one that lowers it
pub size_shrinks : (now goal blocks after : ℕ) → blocks ≡ blocks_for now → blocks_for goal < blocks → after ≡ 4096 * (blocks - 1) →
    size_turns after goal + 1 ≤ size_turns now goal
size_shrinks now goal blocks after enough more is =
    let here : growth_turns now goal ≡ 0 = growth-there now goal (omega arith) in
    let there : growth_turns after goal ≡ 0 = growth-there after goal (omega arith) in
    omega arith

pub size_most : (now goal : ℕ) → now ≤ 16777216 → goal ≤ 16777216 → size_turns now goal ≤ 4096
size_most now goal small few =
    ⊎_elim
    (λ below. let is : growth_turns now goal ≡ blocks_for goal - now / 4096 = growth-below now goal below in omega arith)
    (λ there. let is : growth_turns now goal ≡ 0 = growth-there now goal there in omega arith)
    (cases_lt now goal)

-- ---- where the pieces of a call end

-- a piece ends where the bytes of its call do, or at the end of its block
pub pieces_end : (off len number : ℕ) (piece : Piece) → 1 ≤ len → slice_get (pieces off len) number ≡ Some piece →
    (piece_end piece ≤ off + len) × (off < piece_end piece) × ((piece_end piece ≡ off + len) ⊎ ((j : ℕ) × (piece_end piece ≡ 4096 * j)))
pieces_end off len number piece some is =
    let first = off / BLOCK_SIZE in
    let count = (off + len - 1) / BLOCK_SIZE + 1 - first in
    let this = get-map-range (piece_at off len) first count number piece is in
    let below : number < count = this.0 in
    subst
    (λ (x : Piece). (piece_end x ≤ off + len) × (off < piece_end x) × ((piece_end x ≡ off + len) ⊎ ((j : ℕ) × (piece_end x ≡ 4096 * j))))
    this.1 (ends (first + number) (omega arith) (omega arith))
  where
    ends : (index : ℕ) → off < 4096 * index + 4096 → 4096 * index < off + len →
        (piece_end (piece_at off len index) ≤ off + len) × (off < piece_end (piece_at off len index))
        × ((piece_end (piece_at off len index) ≡ off + len) ⊎ ((j : ℕ) × (piece_end (piece_at off len index) ≡ 4096 * j)))
    ends index begins stops =
        ⊎_elim
        (λ beyond. (
          omega arith,
          omega arith,
          inr (index + 1, (let is : piece_end (piece_at off len index) ≡ 4096 * (index + 1) = omega arith in is)),
        ))
        (λ within. (omega arith, omega arith, inl (omega arith)))
        (cases_lt (4096 * index + 4096) (off + len))
