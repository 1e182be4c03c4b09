-- The laws are proved as lemmas.
use Rattle.std.proofs.Common.{◌≡◌, ℕ, zero, suc, refl, arith}
use Rattle.std.specs.Prelude.{◌↔◌}
use Rattle.bd_tables.specs.declared.request.Drained.TheVariants.{Yes}
use Rattle.bd_tables.specs.Plain.{drained_of}
use Rattle.bd_tables.specs.State.{engines_in}
use Rattle.bd_tables.proofs.KernelSound.{drained_keys_are_left, swept_keys_are_in_no_line}
use Rattle.bd_tables.proofs.laws.revocation_leaves_nothing.Goals as goal

over : (n : ℕ) → (drained_of n ≡ Yes) ↔ (n ≡ 0)
over zero = (λ yes. refl, λ none. refl)
over (suc n) = (λ yes. cc, λ none. absurd (omega arith))

pub returns-clause-over : goal.returns-clause-over
returns-clause-over c = λ tables key. over (engines_in tables.walks key)

pub returns-clause-drained : goal.returns-clause-drained
returns-clause-drained c = drained_keys_are_left

pub returns-clause-swept : goal.returns-clause-swept
returns-clause-swept c = swept_keys_are_in_no_line
