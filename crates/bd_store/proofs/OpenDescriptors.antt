-- What is decided of a descriptor that is open.
use Rattle.std.proofs.Common.{◌≡◌, Bool, true, Option, Some, ◌↔◌, sym, ◌∙◌, subst}
use Rattle.std.proofs.lemmas.Option.{same_Some}
use Rattle.bd_entry.specs.RulesOfRights.{TheDescriptor}
use Rattle.bd_entry.specs.Store.{Descriptor}

-- what holds of the descriptor in a slot holds of the one that is found there
pub TheDescriptor_iff : (slot : Option Descriptor) (d : Descriptor) (Holds : Descriptor → Type 0) (answer : Bool) → slot ≡ Some d →
    (answer ≡ true) ↔ Holds d → (answer ≡ true) ↔ TheDescriptor slot Holds
TheDescriptor_iff slot d Holds answer is iff =
    (λ yes. (d, is, iff.0 yes), λ the. iff.1 (subst Holds (same_Some the.0 d (sym the.1 ∙ is)) the.2))
