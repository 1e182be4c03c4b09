-- What the steps of reading a script answer.
use Rattle.std.specs.Prelude.{◌≡◌, ◌≢◌, ℕ, ◌≤◌, Option, None, Some, List, length}
use Rattle.bd_base.specs.Bytes.{AreBytes}
use Rattle.bd_base.specs.Names.{IsName}
use Rattle.bd_base.specs.declared.script.Call.{Call}
use Rattle.bd_blocks.specs.Runs.{runs_text}
use Rattle.bd_blocks.specs.Texts.{IsWithin, before, number_text, two_numbers_text}
use Rattle.bd_blocks.specs.declared.text.numbers.Within.{Within}
use Rattle.bd_script.specs.declared.fault.Fault.{Fault}
use Rattle.bd_script.specs.declared.fault.Fault.TheVariants.{Form as FormFault, Range, Order, Place, Actor, OutOfMemory}
use Rattle.bd_script.specs.declared.fields.Placed.{Placed}
use Rattle.bd_script.specs.declared.numbers.Triple.{Triple}
use Rattle.bd_script.specs.Rules.{IsForm, IsInRange}
use Rattle.bd_base.specs.Scripts.{IsCall}
use Rattle.bd_script.specs.Texts.{call_text, form_text}

-- the number of the rule that a fault is about
abbrev pub fault_rule : Fault → Option ℕ
fault_rule FormFault = Some 4
fault_rule Range = Some 5
fault_rule Order = Some 6
fault_rule Place = Some 7
fault_rule Actor = Some 8
fault_rule OutOfMemory = None

-- why a text is not read as a value of a kind: it is the text of none, or that of one that does not fit
abbrev pub Refuses : {A : Type 0} → (A → List ℕ) → (A → Type 0) → (A → Type 0) → List ℕ → Fault
    → Type 0
Refuses {A} text_of Has Fits text FormFault = (a : A) → Has a → text ≢ text_of a
Refuses {A} text_of Has Fits text Range = (a : A) × Has a × (text ≡ text_of a) × ¬ Fits a
Refuses {A} text_of Has Fits text OutOfMemory = Unit {0}
Refuses {A} text_of Has Fits text fault = ⊥

-- three numbers, parted by spaces
abbrev pub triple_text : Triple → List ℕ
triple_text t = before (number_text t.first) (before (number_text t.second) (number_text t.third))

-- two numbers and bytes as runs
abbrev pub placed_text : Placed → List ℕ
placed_text p = before (number_text p.first) (before (number_text p.second) (runs_text p.bytes))

-- a name and a number
abbrev pub named_text : List ℕ × ℕ → List ℕ
named_text p = before p.0 (number_text p.1)

-- the bytes are some
abbrev pub AreSome : List ℕ → Type 0
AreSome bytes = AreBytes bytes × (1 ≤ length bytes)

-- each number is in its range, and of the bytes there are not too many
abbrev pub FitsPair : Within → Within → ℕ × ℕ → Type 0
FitsPair a b p = IsWithin a p.0 × IsWithin b p.1

abbrev pub FitsTriple : Within → Within → Within → Triple → Type 0
FitsTriple a b c t = IsWithin a t.first × IsWithin b t.second × IsWithin c t.third

abbrev pub FitsPlaced : Within → Within → ℕ → Placed → Type 0
FitsPlaced a b most p = IsWithin a p.first × IsWithin b p.second × (length p.bytes ≤ most)

-- the refusals of a number, of two and three, of bytes, of numbers with bytes, and of a name and a number
abbrev pub RefusesNumber : Within → List ℕ → Fault → Type 0
RefusesNumber a text fault = Refuses number_text (λ (n : ℕ). Unit {0}) (IsWithin a) text fault

abbrev pub RefusesPair : Within → Within → List ℕ → Fault → Type 0
RefusesPair a b text fault = Refuses two_numbers_text (λ (p : ℕ × ℕ). Unit {0}) (FitsPair a b) text fault

abbrev pub RefusesTriple : Within → Within → Within → List ℕ → Fault → Type 0
RefusesTriple a b c text fault = Refuses triple_text (λ (t : Triple). Unit {0}) (FitsTriple a b c) text fault

abbrev pub RefusesBytes : ℕ → List ℕ → Fault → Type 0
RefusesBytes most text fault = Refuses runs_text AreSome (λ (bytes : List ℕ). length bytes ≤ most) text fault

abbrev pub RefusesPlaced : Within → Within → ℕ → List ℕ → Fault → Type 0
RefusesPlaced a b most text fault =
    Refuses placed_text (λ (p : Placed). AreSome p.bytes) (FitsPlaced a b most) text fault

abbrev pub RefusesNamed : Within → List ℕ → Fault → Type 0
RefusesNamed a text fault =
    Refuses named_text (λ (p : List ℕ × ℕ). IsName p.0) (λ (p : List ℕ × ℕ). IsWithin a p.1) text fault

-- the line is of no form, or of one whose numbers are out of range
abbrev pub RefusesLine : List ℕ → Fault → Type 0
RefusesLine text fault = Refuses form_text IsForm IsInRange text fault

-- the line is that of the call, which is in range
abbrev pub IsCallLine : List ℕ → Call → Type 0
IsCallLine text call = (text ≡ call_text call) × IsCall call
