-- The rules one after the other: what a refusal tells is determined, and each broken rule is told.
use Rattle.std.proofs.Common.{◌≡◌, ℕ, zero, suc, ◌+◌, ◌<◌, ◌≤◌, List, [], ◌∷◌, length, get_or, add-zero, refl}
use Rattle.std.proofs.Common.{sym, ap, ◌∙◌, subst, inl, inr, arith, le_antisymm}
use Rattle.std.proofs.lemmas.Bool.{cases_lt}
use Rattle.std.proofs.lemmas.List.{get_or_past}
use Rattle.bd_base.proofs.Rules.{numbers-differ, one-number}
use Rattle.bd_image.specs.declared.rule.TheConstants.{RULES}
use Rattle.bd_image.specs.Refusals.{ObeysBelow}
use Rattle.bd_image.specs.Rules.{Accepted, BreaksAt, Broken, HasRecords, IsLeastBreak, Obeys, Rule, rule_number}
use Rattle.bd_image.specs.Rules.{Bitmap, BlockCount, ExtentCount, ExtentJoins, ExtentRange, ExtentShares}
use Rattle.bd_image.specs.Rules.{FreeRecord, HeaderRest, InodeCount, Length, Magic, NameForm, NameFresh, Perms}
use Rattle.bd_image.specs.Rules.{RecordRest, Size, TailZero, UsedMark, Version}

rules_in_order : List Rule
rules_in_order = Length ∷ Length ∷ Magic ∷ Version ∷ BlockCount ∷ InodeCount ∷ HeaderRest ∷ UsedMark ∷
    FreeRecord ∷ Perms ∷ ExtentCount ∷ NameForm ∷ NameFresh ∷ RecordRest ∷ ExtentRange ∷ ExtentJoins ∷
    ExtentShares ∷ Size ∷ TailZero ∷ Bitmap ∷ []

-- the rule of a number
rule_of : ℕ → Rule
rule_of n = get_or rules_in_order n Length

rule_of-rule_number : (q : Rule) → rule_of (rule_number q) ≡ q
unfolding rule_of rules_in_order
rule_of-rule_number Length = refl
rule_of-rule_number Magic = refl
rule_of-rule_number Version = refl
rule_of-rule_number BlockCount = refl
rule_of-rule_number InodeCount = refl
rule_of-rule_number HeaderRest = refl
rule_of-rule_number UsedMark = refl
rule_of-rule_number FreeRecord = refl
rule_of-rule_number Perms = refl
rule_of-rule_number ExtentCount = refl
rule_of-rule_number NameForm = refl
rule_of-rule_number NameFresh = refl
rule_of-rule_number RecordRest = refl
rule_of-rule_number ExtentRange = refl
rule_of-rule_number ExtentJoins = refl
rule_of-rule_number ExtentShares = refl
rule_of-rule_number Size = refl
rule_of-rule_number TailZero = refl
rule_of-rule_number Bitmap = refl

rule_number-injective : (q r : Rule) → rule_number q ≡ rule_number r → q ≡ r
rule_number-injective q r e = numbers-differ Rule rule_number rule_of rule_of-rule_number q r e

-- each rule has a number from 1 to 19
in_order : (q : Rule) → (0 < rule_number q) × (rule_number q < 20)
unfolding rule_of rules_in_order
in_order q =
    elim (cases_lt 0 (rule_number q)) [
      | inl some ↦
          elim (cases_lt (rule_number q) 20) [
            | inl small ↦ (some, small)
            | inr large ↦
                let past : rule_of (rule_number q) ≡ Length = get_or_past rules_in_order (rule_number q) Length large in
                let one : rule_number q ≡ 1 = ap rule_number (sym (rule_of-rule_number q) ∙ past) in
                absurd (omega arith)
          ]
      | inr none ↦
          let zero : rule_number q ≡ 0 = omega arith in
          let one : rule_number q ≡ 1 = ap rule_number (sym (rule_of-rule_number q) ∙ ap rule_of zero) in
          absurd (omega arith)
    ]

-- no rule has a number below 1
pub below_first : (b : List ℕ) → ObeysBelow b 1
below_first b q h = absurd (omega (arith, (in_order q).0))

-- the rules up to one that the image meets
pub met : (b : List ℕ) (r : Rule) → ObeysBelow b (rule_number r) → Obeys b r → ObeysBelow b (rule_number r + 1)
met b r below here q h =
    elim (cases_lt (rule_number q) (rule_number r)) [
      | inl l ↦ below q l
      | inr m ↦ subst (Obeys b)
          (rule_number-injective r q (le_antisymm m (omega (arith, h)))) here
    ]

-- the least rule that the image breaks, at its least place
pub refused : (b : List ℕ) (r : Rule) (place : ℕ) → ObeysBelow b (rule_number r) → IsLeastBreak b r place → Broken b (rule_number r) place
refused b r place below found = record { rule = r; number_is = refl; broken = found; lesser = below }

-- all rules have numbers below 20
pub all_met : (b : List ℕ) → ObeysBelow b 20 → Accepted b
all_met b below q = below q (in_order q).1

-- rules in a row have the numbers from n on
abbrev numbered : ℕ → List Rule → Type 0
numbered n [] = Unit {0}
numbered n (r ∷ rs) = (rule_number r ≡ n) × numbered (n + 1) rs

numbered-at : (n : ℕ) (rs : List Rule) → numbered n rs → (i : ℕ) (d : Rule) → i < length rs → rule_number (get_or rs i d) ≡ n + i
numbered-at n [] h i d inside = absurd (omega arith)
numbered-at n (r ∷ rs) h zero d inside = h.0 ∙ sym (add-zero n)
numbered-at n (r ∷ rs) h (suc i) d inside =
    let rest : rule_number (get_or rs i d) ≡ n + 1 + i = numbered-at (n + 1) rs h.1 i d (omega arith) in
    let sum : n + 1 + i ≡ n + suc i = omega arith in
    rest ∙ sum

-- the list of all rules has them by their numbers
all-numbered : numbered 1 RULES
all-numbered =
    (refl, (refl, (refl, (refl, (refl, (refl, (refl, (refl, (refl, (refl, (refl, (refl, (refl, (refl, (refl, (refl, (refl, (refl, (refl, tt)))))))))))))))))))

pub number-at : (i : ℕ) → i < length RULES → rule_number (get_or RULES i Length) ≡ i + 1
number-at i inside =
    let sum : 1 + i ≡ i + 1 = omega arith in
    numbered-at 1 RULES all-numbered i Length inside ∙ sum

-- the image is long enough for its records
pub has_records : (b : List ℕ) (n : ℕ) → rule_number InodeCount < n → ObeysBelow b n → HasRecords b
has_records b n late below = record { length_fits = below Length (omega arith); count_fits = below InodeCount (omega arith) }

-- a rule is not met where it is broken
pub breaks_not : (b : List ℕ) (r : Rule) (place : ℕ) → BreaksAt b r place → ¬ Obeys b r
breaks_not b Length place h obeys = h.0 obeys
breaks_not b Magic place h obeys = h.0 obeys
breaks_not b Version place h obeys = h.0 obeys
breaks_not b BlockCount place h obeys = h.0 obeys
breaks_not b InodeCount place h obeys = h.0 obeys
breaks_not b HeaderRest place h obeys = h.2 (obeys place h.0 h.1)
breaks_not b UsedMark place h obeys = omega (arith, h.2, obeys h.0 h.1)
breaks_not b FreeRecord place h obeys = h.5 (obeys h.0 place h.1 h.2 h.3 h.4)
breaks_not b Perms place h obeys = omega (arith, h.2, obeys h.0 h.1)
breaks_not b ExtentCount place h obeys = omega (arith, h.2, obeys h.0 h.1)
breaks_not b NameForm place h obeys = h.2 (obeys h.0 h.1)
breaks_not b NameFresh place h obeys = obeys h.0 h.1 h.2 h.3 h.4 h.5
breaks_not b RecordRest place h obeys = h.3 (obeys h.0 place h.1 h.2)
breaks_not b ExtentRange place h obeys = h.3 (obeys h.0 h.1 h.2)
breaks_not b ExtentJoins place h obeys = obeys h.0 h.1 h.2 h.3
breaks_not b ExtentShares place h obeys = obeys h.0 h.1 h.2 h.3 h.4 h.5 h.6 h.7
breaks_not b Size place h obeys = h.2 (obeys h.0 h.1)
breaks_not b TailZero place h obeys = h.3 (obeys h.0 place h.1 h.2)
breaks_not b Bitmap place h obeys = h.2 (obeys h.0 h.1)

-- no rule is both broken and met
never_both : (b : List ℕ) (place : ℕ) (r : Rule) → IsLeastBreak b r place → ¬ Obeys b r
never_both b place r found = breaks_not b r place found.breaks

pub not_accepted : (b : List ℕ) (number place : ℕ) → Broken b number place → ¬ Accepted b
not_accepted b number place h all = never_both b place h.rule h.broken (all h.rule)

no_earlier : (b : List ℕ) (r : Rule) (p q : ℕ) → BreaksAt b r q → ((k : ℕ) → k < p → ¬ BreaksAt b r k) → p ≤ q
no_earlier b r p q breaks least = elim (cases_lt q p) [ inl l ↦ absurd (least q l breaks) | inr le ↦ le ]

pub one_number : (b : List ℕ) (m p n q : ℕ) → Broken b m p → Broken b n q → m ≡ n
one_number b m p n q g h =
    one-number Rule rule_number (Obeys b) (λ r. IsLeastBreak b r p) (λ r. IsLeastBreak b r q) m n (never_both b p) (never_both b q) g h

pub one_place : (b : List ℕ) (m p n q : ℕ) → Broken b m p → Broken b n q → p ≡ q
one_place b m p n q g h =
    let same : g.rule ≡ h.rule = rule_number-injective g.rule h.rule (g.number_is ∙ one_number b m p n q g h ∙ sym h.number_is) in
    le_antisymm
    (no_earlier b g.rule p q (subst (λ r. BreaksAt b r q) (sym same) h.broken.breaks) g.broken.least)
    (no_earlier b h.rule q p (subst (λ r. BreaksAt b r p) same g.broken.breaks) h.broken.least)
