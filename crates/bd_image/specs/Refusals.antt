-- What a refusal says of an image.
use Rattle.std.specs.Prelude.{ℕ, ◌<◌, List}
use Rattle.bd_image.specs.declared.error.ImageError.{ImageError}
use Rattle.bd_image.specs.declared.error.ImageError.TheVariants.{BadImage, OutOfMemory}
use Rattle.bd_image.specs.Rules.{Broken, Obeys, Rule, rule_number}

-- the image meets each rule of a lesser number
abbrev pub ObeysBelow : List ℕ → ℕ → Type 0
ObeysBelow b n = (q : Rule) → rule_number q < n → Obeys b q

-- the rule and the place that a refusal tells are the least; that no memory was found says nothing of the image
abbrev pub RefusesBytesOfImage : List ℕ → ImageError → Type 0
RefusesBytesOfImage b (BadImage rule place) = Broken b rule place
RefusesBytesOfImage b OutOfMemory = Unit {0}
