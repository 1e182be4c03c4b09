-- What a test of a walk's finding tells.
use Rattle.std.proofs.Common.{◌≡◌, ◌↔◌, Bool, true, false, not, refl}
use Rattle.std.proofs.lemmas.Bool.{false≢true}

-- a test that says no where this holds
pub not-iff : {P : Type 0} (b : Bool) → (b ≡ true) ↔ P → (not b ≡ true) ↔ (¬ P)
not-iff true iff = (λ no. absurd (false≢true no), λ none. absurd (none (iff.0 refl)))
not-iff false iff = (λ no holds. false≢true (iff.1 holds), λ none. refl)
