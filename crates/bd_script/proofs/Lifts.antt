-- What refuses a part of a line refuses the line.
use Rattle.std.proofs.Common.{◌≡◌, ℕ, List, get_or, ap}
use Rattle.bd_script.specs.declared.fault.Fault.{Fault}
use Rattle.bd_script.specs.declared.fault.Fault.TheVariants.{Form as FormFault, Range, Order, Place, Actor, OutOfMemory}
use Rattle.bd_script.specs.Reading.{Refuses}

-- the whole has the part, and is out of range where the part is
pub lift : {A B : Type 0} (text_a : A → List ℕ) (HasA FitsA : A → Type 0) (text_b : B → List ℕ) (HasB FitsB : B → Type 0) (inner outer : List ℕ)
    → ((b : B) → HasB b → outer ≡ text_b b → (a : A) × HasA a × (inner ≡ text_a a)) →
    ((a : A) → HasA a → inner ≡ text_a a → ¬ FitsA a → (b : B) × HasB b × (outer ≡ text_b b) × ¬ FitsB b) →
    (fault : Fault) → Refuses text_a HasA FitsA inner fault → Refuses text_b HasB FitsB outer fault
lift text_a HasA FitsA text_b HasB FitsB inner outer up down FormFault refused = λ b has same. let part = up b has same in refused part.0 part.1 part.2
lift text_a HasA FitsA text_b HasB FitsB inner outer up down Range refused = down refused.0 refused.1 refused.2 refused.3
lift text_a HasA FitsA text_b HasB FitsB inner outer up down Order refused = absurd refused
lift text_a HasA FitsA text_b HasB FitsB inner outer up down Place refused = absurd refused
lift text_a HasA FitsA text_b HasB FitsB inner outer up down Actor refused = absurd refused
lift text_a HasA FitsA text_b HasB FitsB inner outer up down OutOfMemory refused = tt

-- the same lists have the same at each place
pub same_at : (k : ℕ) (a b : List ℕ) → a ≡ b → get_or a k 0 ≡ get_or b k 0
same_at k a b same = ap (λ (l : List ℕ). get_or l k 0) same
