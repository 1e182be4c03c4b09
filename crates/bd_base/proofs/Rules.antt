-- Of numbered rules one is the least that is broken.
use Rattle.std.proofs.Common.{◌≡◌, ℕ, zero, suc, ◌<◌, ◌≤◌, ◌⊎◌, inl, inr, sym, ap, ◌∙◌, subst, le_antisymm, arith, ⊎_elim}
use Rattle.std.proofs.lemmas.Bool.{cases_eq, cases_lt}
use Rattle.bd_base.proofs.Decided.{Decided}
use Rattle.bd_base.specs.Rules.{IsLeastBroken}

-- no rule that is broken has a number below that of the least one
pub least-below : (Rule : Type 0) (number_of : Rule → ℕ) (Holds Breaks Breaks' : Rule → Type 0) (m n : ℕ)
    → ((rule : Rule) → Breaks rule → ¬ Holds rule)
    → IsLeastBroken Rule number_of Holds Breaks m → IsLeastBroken Rule number_of Holds Breaks' n → n ≤ m
least-below Rule number_of Holds Breaks Breaks' m n not_both first second =
    elim (cases_lt m n) [
      | inl below ↦
          absurd (not_both first.rule first.broken
          (second.lesser first.rule (subst (λ (k : ℕ). k < n) (sym first.number_is) below)))
      | inr above ↦ above
    ]

-- so its number is one, whatever else is said of how it is broken
pub one-number : (Rule : Type 0) (number_of : Rule → ℕ) (Holds Breaks Breaks' : Rule → Type 0) (m n : ℕ)
    → ((rule : Rule) → Breaks rule → ¬ Holds rule) → ((rule : Rule) → Breaks' rule → ¬ Holds rule)
    → IsLeastBroken Rule number_of Holds Breaks m → IsLeastBroken Rule number_of Holds Breaks' n → m ≡ n
one-number Rule number_of Holds Breaks Breaks' m n not_both not_both' first second =
    le_antisymm
    (least-below Rule number_of Holds Breaks' Breaks n m not_both' second first)
    (least-below Rule number_of Holds Breaks Breaks' m n not_both first second)

-- a rule can be told from its number where some function gives it back
pub numbers-differ : (Rule : Type 0) (number_of : Rule → ℕ) (rule_of : ℕ → Rule)
    → ((rule : Rule) → rule_of (number_of rule) ≡ rule) → (p q : Rule) → number_of p ≡ number_of q → p ≡ q
numbers-differ Rule number_of rule_of back p q same = sym (back p) ∙ ap rule_of same ∙ back q

-- of rules with numbers below n, each of which holds or does not: all hold, or a least is broken
all_or_least-below : (Rule : Type 0) (number_of : Rule → ℕ) (rule_of : ℕ → Rule) (Holds : Rule → Type 0)
    → ((rule : Rule) → rule_of (number_of rule) ≡ rule) → ((rule : Rule) → Decided (Holds rule)) → (n : ℕ)
    → ((rule : Rule) → number_of rule < n → Holds rule)
    ⊎ ((number : ℕ) × IsLeastBroken Rule number_of Holds (λ rule. ¬ Holds rule) number)
all_or_least-below Rule number_of rule_of Holds back decided zero = inl (λ rule below. absurd (omega arith))
all_or_least-below Rule number_of rule_of Holds back decided (suc n) =
    ⊎_elim
    (λ all.
    ⊎_elim
    (λ numbered.
    ⊎_elim
    (λ holds.
    inl (λ rule below.
    ⊎_elim
    (λ same. subst Holds (ap rule_of (sym same) ∙ back rule) holds)
    (λ differ. all rule (omega arith))
    (cases_eq (number_of rule) n)))
    (λ fails. inr (n, record { rule = rule_of n; number_is = numbered; broken = fails; lesser = all }))
    (decided (rule_of n)))
    (λ not_numbered.
    inl (λ rule below.
    ⊎_elim
    (λ same. absurd (not_numbered (ap number_of (ap rule_of (sym same) ∙ back rule) ∙ same)))
    (λ differ. all rule (omega arith))
    (cases_eq (number_of rule) n)))
    (cases_eq (number_of (rule_of n)) n))
    (λ least. inr least)
    (all_or_least-below Rule number_of rule_of Holds back decided n)

-- of rules numbered up to n, each of which holds or does not: all hold, or a least is broken
pub all-or-least : (Rule : Type 0) (number_of : Rule → ℕ) (rule_of : ℕ → Rule) (Holds : Rule → Type 0) (n : ℕ)
    → ((rule : Rule) → rule_of (number_of rule) ≡ rule) → ((rule : Rule) → number_of rule ≤ n) → ((rule : Rule) → Decided (Holds rule))
    → ((rule : Rule) → Holds rule) ⊎ ((number : ℕ) × IsLeastBroken Rule number_of Holds (λ rule. ¬ Holds rule) number)
all-or-least Rule number_of rule_of Holds n back within decided =
    ⊎_elim
    (λ all. inl (λ rule. let up_to : number_of rule ≤ n = within rule in all rule (omega arith)))
    (λ least. inr least)
    (all_or_least-below Rule number_of rule_of Holds back decided (suc n))
