-- Numbered rules, of which the least that is broken is told.
use Rattle.std.specs.Prelude.{◌≡◌, ℕ, ◌<◌}

-- of the rules that are broken the least has this number: it is broken, and each rule of a lesser number holds
pub record IsLeastBroken (Rule : Type 0) (number_of : Rule → ℕ) (Holds Breaks : Rule → Type 0)
    (number : ℕ) : Type 0 where
  pub rule : Rule
  pub number_is : number_of rule ≡ number
  pub broken : Breaks rule
  pub lesser : (other : Rule) → number_of other < number → Holds other
