-- Kinds of values as text. Of each kind: its text is one line and that of one value alone, and that of a field is one word.
use Rattle.std.specs.Prelude.{nat_eq}
use Rattle.std.proofs.Common.{◌≡◌, ◌≢◌, ℕ, ◌<◌, ◌≤◌, Bool, true, false, cond, Option, None, Some, List, [], ◌∷◌, ◌++◌, length, get_or, refl, sym, ap, ◌∙◌, arith}
use Rattle.std.proofs.lemmas.Bool.Decides.{nat_tests}
use Rattle.bd_base.specs.Bytes.{AreBytes}
use Rattle.bd_base.specs.Names.{IsName}
use Rattle.bd_base.specs.declared.journal.Way.{Way}
use Rattle.bd_base.specs.declared.journal.Way.TheVariants.{Direct as ByDevice, Plain as OnPlain, PastKnown, AfterMiss}
use Rattle.bd_base.specs.declared.script.How.{How}
use Rattle.bd_base.specs.declared.script.How.TheVariants.{Plain, Direct}
use Rattle.bd_base.specs.declared.script.Mode.{Mode}
use Rattle.bd_base.specs.declared.script.Mode.TheVariants.{R, Rw}
use Rattle.bd_blocks.specs.Runs.{runs_text}
use Rattle.bd_blocks.specs.Texts.{HasFirst, HasNoFirst, before, has_byte, name_text, number_text, optional_text}
use Rattle.bd_blocks.specs.Words.{direction_text, how_text, mode_and_how_text, mode_text, way_text}
use Rattle.bd_blocks.specs.declared.text.TheConstants.{LF, SPACE}
use Rattle.bd_blocks.proofs.FieldTexts.{append-has_no, name-has_no, same_fields, unique_split}
use Rattle.bd_blocks.proofs.NumberTexts.{number-has_no, number-injective}
use Rattle.bd_blocks.proofs.RunLists.{runs-injective}
use Rattle.bd_blocks.proofs.RunTexts.{runs-have_no}

-- the texts of the values that fit are each one line, and that of one value
pub record IsLine {A : Type 0} (text_of : A → List ℕ) (Fits : A → Type 0) : Type 0 where
  pub one_line : (a : A) → Fits a → has_byte LF (text_of a) ≡ false
  pub injective : (a b : A) → Fits a → Fits b → text_of a ≡ text_of b → a ≡ b

-- and each is one word
pub record IsField {A : Type 0} (text_of : A → List ℕ) (Fits : A → Type 0) : Type 0 where
  pub one_word : (a : A) → Fits a → has_byte SPACE (text_of a) ≡ false
  pub line : IsLine text_of Fits

-- every value fits
abbrev pub Every : {A : Type 0} → A → Type 0
Every {A} a = Unit {0}

-- a first field and what follows it, as text, and that both fit
abbrev pub pair_text : {A B : Type 0} → (A → List ℕ) → (B → List ℕ) → A × B → List ℕ
pair_text {A} {B} f g p = before (f p.0) (g p.1)

abbrev pub BothFit : {A B : Type 0} → (A → Type 0) → (B → Type 0) → A × B → Type 0
BothFit {A} {B} F G p = F p.0 × G p.1

-- what is told back from its text is that of one text
pub from_back : {A : Type 0} (text_of : A → List ℕ) (back : List ℕ → A) → ((a : A) → back (text_of a) ≡ a) → (a b : A)
    → text_of a ≡ text_of b → a ≡ b
from_back {A} text_of back tells a b same = sym (tells a) ∙ ap back same ∙ tells b

-- two readings of a first field and what follows it agree
pub first-unique : {A : Type 0} (f : A → List ℕ) (F : A → Type 0) → IsField f F → (a b : A) (r s : List ℕ) → F a → F b
    → before (f a) r ≡ before (f b) s → (a ≡ b) × (r ≡ s)
first-unique {A} f F field a b r s a_fits b_fits same =
    let parts = unique_split SPACE (f a) (f b) r s (field.one_word a a_fits) (field.one_word b b_fits) same in
    (field.line.injective a b a_fits b_fits parts.0, parts.1)

-- after a first field comes the same in all readings
pub after-first : {A : Type 0} (f : A → List ℕ) (F : A → Type 0) → IsField f F → (a b : A) (text r s : List ℕ) → F a → F b
    → text ≡ before (f a) r → text ≡ before (f b) s → r ≡ s
after-first {A} f F field a b text r s a_fits b_fits is other =
    (first-unique f F field a b r s a_fits b_fits (sym is ∙ other)).1

-- a text whose first field is no text of a value that fits has no such first field
pub no-first : {A : Type 0} (f : A → List ℕ) (F : A → Type 0) → IsField f F → (text first rest : List ℕ)
    → text ≡ first ++ SPACE ∷ rest → has_byte SPACE first ≡ false → ((a : A) → F a → first ≢ f a) → HasNoFirst f F text
no-first {A} f F field text first rest split one_word none a r a_fits same =
    none a a_fits (same_fields text first rest (f a) r split one_word same (field.one_word a a_fits)).0

-- the text is that of no value that fits
abbrev pub NoText : {A : Type 0} → (A → List ℕ) → (A → Type 0) → List ℕ → Type 0
NoText {A} f F text = (a : A) → F a → text ≢ f a

-- a text with no such first field is that of no first field and more
pub no-pair : {A B : Type 0} (f : A → List ℕ) (F : A → Type 0) (g : B → List ℕ) (G : B → Type 0) (text : List ℕ)
    → HasNoFirst f F text → NoText (pair_text f g) (BothFit F G) text
no-pair {A} {B} f F g G text none p fits same = none p.0 (g p.1) fits.0 same

-- nor is one where no such text follows the first field
pub no-rest : {A B : Type 0} (f : A → List ℕ) (F : A → Type 0) (g : B → List ℕ) (G : B → Type 0) → IsField f F
    → (a : A) (text rest : List ℕ) → HasFirst f F text a rest → NoText g G rest → NoText (pair_text f g) (BothFit F G) text
no-rest {A} {B} f F g G field a text rest first none p fits same =
    none p.1 fits.1 (after-first f F field a p.0 text rest (g p.1) first.0 fits.0 first.1 same)

-- a field and a line after it are a line
pub pair-line : {A B : Type 0} (f : A → List ℕ) (F : A → Type 0) (g : B → List ℕ) (G : B → Type 0) → IsField f F → IsLine g G
    → IsLine (pair_text f g) (BothFit F G)
pair-line {A} {B} f F g G field line = record { one_line = one; injective = injective } where
  one : (p : A × B) → BothFit F G p → has_byte LF (pair_text f g p) ≡ false
  one p fits = append-has_no LF (f p.0) (SPACE ∷ g p.1) (field.line.one_line p.0 fits.0) (line.one_line p.1 fits.1)

  injective : (p q : A × B) → BothFit F G p → BothFit F G q → pair_text f g p ≡ pair_text f g q → p ≡ q
  injective p q fits other same =
      let parts = first-unique f F field p.0 q.0 (g p.1) (g q.1) fits.0 other.0 same in
      let first : p.0 ≡ q.0 = parts.0 in
      let second : p.1 ≡ q.1 = line.injective p.1 q.1 fits.1 other.1 parts.1 in
      ap (λ (a : A). let r : A × B = (a, p.1) in r) first ∙ ap (λ (b : B). let r : A × B = (q.0, b) in r) second

-- of fewer values the same holds
pub fewer-line : {A : Type 0} (f : A → List ℕ) (F G : A → Type 0) → ((a : A) → G a → F a) → IsLine f F → IsLine f G
fewer-line {A} f F G fewer line = record {
  one_line = λ a fits. line.one_line a (fewer a fits);
  injective = λ a b fits other same. line.injective a b (fewer a fits) (fewer b other) same;
}

pub fewer-field : {A : Type 0} (f : A → List ℕ) (F G : A → Type 0) → ((a : A) → G a → F a) → IsField f F → IsField f G
fewer-field {A} f F G fewer field =
    record { one_word = λ a fits. field.one_word a (fewer a fits); line = fewer-line f F G fewer field.line }

pub number-field : IsField number_text (Every {A = ℕ})
number-field = record {
  one_word = λ n _. number-has_no SPACE (omega arith) n;
  line = record {
    one_line = λ n _. number-has_no LF (omega arith) n;
    injective = λ m n _ _ same. number-injective m n same;
  };
}

pub name-field : IsField name_text IsName
name-field = record {
  one_word = λ name is. name-has_no SPACE (omega arith) name is;
  line = record {
    one_line = λ name is. name-has_no LF (omega arith) name is;
    injective = λ a b _ _ same. same;
  };
}

-- a number and what follows it are read in one way
pub front_number-unique : (m n : ℕ) (r s : List ℕ) → before (number_text m) r ≡ before (number_text n) s → (m ≡ n) × (r ≡ s)
front_number-unique m n r s same = first-unique number_text Every number-field m n r s tt tt same

-- so are a name and what follows it
pub front_name-unique : (a b r s : List ℕ) → IsName a → IsName b → before a r ≡ before b s → (a ≡ b) × (r ≡ s)
front_name-unique a b r s is_a is_b same = first-unique name_text IsName name-field a b r s is_a is_b same

pub runs-line : IsLine runs_text AreBytes
runs-line = record {
  one_line = λ bytes _. runs-have_no LF (omega arith) bytes;
  injective = λ a b is other same. runs-injective a b is other same;
}

-- a number is not `-`
not_dash : (n : ℕ) → number_text n ≢ 45 ∷ []
not_dash n same =
    let none : has_byte 45 (number_text n) ≡ false = number-has_no 45 (omega arith) n in
    let dash : has_byte 45 (45 ∷ []) ≡ false = ap (has_byte 45) (sym same) ∙ none in
    let never : ⊥ = cc dash in
    never

optional-injective : (o p : Option ℕ) → optional_text o ≡ optional_text p → o ≡ p
optional-injective None None same = refl
optional-injective None (Some n) same = absurd (not_dash n (sym same))
optional-injective (Some m) None same = absurd (not_dash m same)
optional-injective (Some m) (Some n) same = ap Some (number-injective m n same)

optional-has_no : (byte : ℕ) → byte < 45 → (o : Option ℕ) → has_byte byte (optional_text o) ≡ false
optional-has_no byte low None = grind (arith, nat_tests)
optional-has_no byte low (Some n) = number-has_no byte (omega arith) n

pub optional-field : IsField optional_text (Every {A = Option ℕ})
optional-field = record {
  one_word = λ o _. optional-has_no SPACE (omega arith) o;
  line = record {
    one_line = λ o _. optional-has_no LF (omega arith) o;
    injective = λ o p _ _ same. optional-injective o p same;
  };
}

mode_back : List ℕ → Mode
mode_back text = cond (nat_eq (length text) 1) R Rw

mode-tells : (m : Mode) → mode_back (mode_text m) ≡ m
unfolding mode_back
mode-tells R = refl
mode-tells Rw = refl

mode-has_no : (m : Mode) → (has_byte SPACE (mode_text m) ≡ false) × (has_byte LF (mode_text m) ≡ false)
mode-has_no R = (refl, refl)
mode-has_no Rw = (refl, refl)

pub mode-field : IsField mode_text (Every {A = Mode})
mode-field = record {
  one_word = λ m _. (mode-has_no m).0;
  line = record { one_line = λ m _. (mode-has_no m).1; injective = λ m n _ _ same. from_back mode_text mode_back mode-tells m n same };
}

how_back : List ℕ → How
how_back text = cond (nat_eq (length text) 5) Plain Direct

how-tells : (h : How) → how_back (how_text h) ≡ h
unfolding how_back
how-tells Plain = refl
how-tells Direct = refl

how-has_no : (h : How) → has_byte LF (how_text h) ≡ false
how-has_no Plain = refl
how-has_no Direct = refl

pub how-line : IsLine how_text (Every {A = How})
how-line = record { one_line = λ h _. how-has_no h; injective = λ h g _ _ same. from_back how_text how_back how-tells h g same }

pub mode_and_how-line : IsLine mode_and_how_text (BothFit (Every {A = Mode}) (Every {A = How}))
mode_and_how-line = pair-line mode_text Every how_text Every mode-field how-line

direction_back : List ℕ → Bool
direction_back text = nat_eq (length text) 5

direction-tells : (wrote : Bool) → direction_back (direction_text wrote) ≡ wrote
unfolding direction_back
direction-tells true = refl
direction-tells false = refl

direction-has_no : (wrote : Bool) → (has_byte SPACE (direction_text wrote) ≡ false) × (has_byte LF (direction_text wrote) ≡ false)
direction-has_no true = (refl, refl)
direction-has_no false = (refl, refl)

pub direction-field : IsField direction_text (Every {A = Bool})
direction-field = record {
  one_word = λ wrote _. (direction-has_no wrote).0;
  line = record {
    one_line = λ wrote _. (direction-has_no wrote).1;
    injective = λ a b _ _ same. from_back direction_text direction_back direction-tells a b same;
  };
}

way_back : List ℕ → Way
way_back text =
    cond (nat_eq (length text) 6) ByDevice
    (cond (nat_eq (length text) 5) OnPlain
    (cond (nat_eq (get_or text 0 0) 112) PastKnown AfterMiss))

way-tells : (way : Way) → way_back (way_text way) ≡ way
unfolding way_back
way-tells ByDevice = refl
way-tells OnPlain = refl
way-tells PastKnown = refl
way-tells AfterMiss = refl

way-has_no : (way : Way) → (has_byte SPACE (way_text way) ≡ false) × (has_byte LF (way_text way) ≡ false)
way-has_no ByDevice = (refl, refl)
way-has_no OnPlain = (refl, refl)
way-has_no PastKnown = (refl, refl)
way-has_no AfterMiss = (refl, refl)

pub way-field : IsField way_text (Every {A = Way})
way-field = record {
  one_word = λ way _. (way-has_no way).0;
  line = record { one_line = λ way _. (way-has_no way).1; injective = λ v w _ _ same. from_back way_text way_back way-tells v w same };
}
