-- One number more is drawn.
use Rattle.std.proofs.Common.{◌≡◌, ℕ, zero, suc, ◌+◌, ◌*◌, ◌%◌, ◌^◌, refl, ap, ◌∙◌, sym, add-one, add-zero, add-suc}
use Rattle.std.proofs.Math.Nat.{mod-add-mod}
use Rattle.bd_gen.specs.Draws.{next_number, number_after}

-- as it is computed in 64 bits
pub next_number-wrapped : (x : ℕ) → (x * 6364136223846793005 % 2 ^ 64 + 1442695040888963407) % 2 ^ 64 ≡ next_number x
unfolding next_number
next_number-wrapped x = mod-add-mod (x * 6364136223846793005) (2 ^ 64) 1442695040888963407

pub number_after-none : (x : ℕ) → number_after x 0 ≡ x
unfolding number_after
number_after-none x = refl

pub number_after-one_more : (x draws : ℕ) → number_after x (draws + 1) ≡ next_number (number_after x draws)
unfolding number_after
number_after-one_more x draws = rw (add-one draws) refl

-- numbers that are drawn after others
pub number_after-number_after : (x first more : ℕ) → number_after (number_after x first) more ≡ number_after x (first + more)
unfolding number_after
number_after-number_after x first zero = rw (add-zero first) refl
number_after-number_after x first (suc more) =
    ap next_number (number_after-number_after x first more) ∙ sym (ap (number_after x) (add-suc first more))
