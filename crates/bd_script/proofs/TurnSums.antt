-- Sums of turns.
use Rattle.std.proofs.Common.{◌≡◌, ℕ, ◌+◌, ◌<◌, ◌≤◌, List, [], ◌∷◌, get_or, take, length, zero, suc, add-one, arith}
use Rattle.bd_script.specs.declared.schedules.Turns.{Turns}
use Rattle.bd_script.specs.Schedules.{kept_turns}

kept_turns-suc : (kept : List Turns) (i : ℕ) (d : Turns) → i < length kept → kept_turns (take (suc i) kept) ≡ kept_turns
    (take i kept) + (get_or kept i d).turns
kept_turns-suc [] i d within = absurd (omega arith)
kept_turns-suc (t ∷ ts) zero d within = omega arith
kept_turns-suc (t ∷ ts) (suc i) d within = omega (arith, kept_turns-suc ts i d (omega arith))

-- the turns of one more item
pub kept_turns-more : (kept : List Turns) (i : ℕ) (d : Turns) → i < length kept → kept_turns (take (i + 1) kept) ≡ kept_turns (take i kept) +
    (get_or kept i d).turns
kept_turns-more kept i d within = rw add-one (kept_turns-suc kept i d within)

-- a front has no more turns than the whole
pub kept_turns-upto : (kept : List Turns) (i : ℕ) → kept_turns (take i kept) ≤ kept_turns kept
kept_turns-upto [] zero = omega arith
kept_turns-upto [] (suc i) = omega arith
kept_turns-upto (t ∷ ts) zero = omega arith
kept_turns-upto (t ∷ ts) (suc i) = omega (arith, kept_turns-upto ts i)
