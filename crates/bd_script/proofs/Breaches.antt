-- The least rule that a line breaks.
use Rattle.std.proofs.Common.{◌≡◌, ℕ, ◌<◌, true, List, refl, sym, ◌∙◌, subst, arith}
use Rattle.bd_base.specs.declared.script.Script.{Script}
use Rattle.bd_script.specs.declared.fault.Fault.{Fault}
use Rattle.bd_script.specs.declared.fault.Fault.TheVariants.{Form as FormFault, Range, Order as OrderFault, Place, Actor, OutOfMemory}
use Rattle.bd_script.proofs.FormTexts.{form-unique}
use Rattle.bd_script.specs.Drafts.{RefusesForm}
use Rattle.bd_script.specs.Reading.{RefusesLine}
use Rattle.bd_script.specs.Refused.{RefusesNext}
use Rattle.bd_script.specs.Rules.{Actors, Counts, Ended, Formed, HasPlace, IsForm, IsInOrder, IsInRange, Obeys, Order, Places, Ranges, Rule, counts_of, rule_number}
use Rattle.bd_script.specs.Texts.{Form, form_text}

-- the rules that an ended line of a form obeys, by what the form does
below : (c : Counts) (line : List ℕ) (f : Form) → IsForm f → line ≡ form_text f → (number : ℕ) →
    (5 < number → IsInRange f) → (6 < number → IsInOrder c f) → (7 < number → HasPlace c f) → number < 9 → (q : Rule) → rule_number q < number
    → Obeys c line true q
below c line f is spelled number range order place few Ended less = refl
below c line f is spelled number range order place few Formed less = (f, is, spelled)
below c line f is spelled number range order place few Ranges less = λ g is_g same. subst IsInRange (form-unique f g is is_g (sym spelled ∙ same))
    (range less)
below c line f is spelled number range order place few Order less = λ g is_g same. subst (IsInOrder c) (form-unique f g is is_g (sym spelled ∙ same))
    (order less)
below c line f is spelled number range order place few Places less = λ g is_g same. subst (HasPlace c) (form-unique f g is is_g (sym spelled ∙ same))
    (place less)
below c line f is spelled number range order place few Actors less = absurd (omega arith)

only-ended : (c : Counts) (line : List ℕ) (q : Rule) → rule_number q < 4 → Obeys c line true q
only-ended c line Ended less = refl
only-ended c line Formed less = absurd (omega arith)
only-ended c line Ranges less = absurd (omega arith)
only-ended c line Order less = absurd (omega arith)
only-ended c line Places less = absurd (omega arith)
only-ended c line Actors less = absurd (omega arith)

-- a fault of the line itself
pub line-breaks : (d : Script) (line : List ℕ) (fault : Fault) → RefusesLine line fault → RefusesNext d line fault
line-breaks d line FormFault refused =
    record { rule = Formed; number_is = refl; broken = λ formed. refused formed.0 formed.1 formed.2; lesser = only-ended (counts_of d) line }
line-breaks d line Range refused = record {
  rule = Ranges;
  number_is = refl;
  broken = λ all. refused.3 (all refused.0 refused.1 refused.2);
  lesser = below (counts_of d) line refused.0 refused.1 refused.2 5 (λ less. absurd (omega arith)) (λ less. absurd (omega arith))
      (λ less. absurd (omega arith)) (omega arith);
}
line-breaks d line OrderFault refused = absurd refused
line-breaks d line Place refused = absurd refused
line-breaks d line Actor refused = absurd refused
line-breaks d line OutOfMemory refused = tt

-- a fault of a form in its place
pub form-breaks : (d : Script) (line : List ℕ) (f : Form) → IsForm f → IsInRange f → line ≡ form_text f → (fault : Fault) → RefusesForm d f fault
    → RefusesNext d line fault
form-breaks d line f is range spelled FormFault refused = absurd refused
form-breaks d line f is range spelled Range refused = absurd refused
form-breaks d line f is range spelled OrderFault refused = record {
  rule = Order;
  number_is = refl;
  broken = λ all. refused (all f is spelled);
  lesser = below (counts_of d) line f is spelled 6 (λ _. range) (λ less. absurd (omega arith)) (λ less. absurd (omega arith)) (omega arith);
}
form-breaks d line f is range spelled Place refused = record {
  rule = Places;
  number_is = refl;
  broken = λ all. refused.1 (all f is spelled);
  lesser = below (counts_of d) line f is spelled 7 (λ _. range) (λ _. refused.0) (λ less. absurd (omega arith)) (omega arith);
}
form-breaks d line f is range spelled Actor refused = record {
  rule = Actors;
  number_is = refl;
  broken = λ all. refused.2 (all f is spelled);
  lesser = below (counts_of d) line f is spelled 8 (λ _. range) (λ _. refused.0) (λ _. refused.1) (omega arith);
}
form-breaks d line f is range spelled OutOfMemory refused = tt
