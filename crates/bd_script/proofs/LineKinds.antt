-- The lines of calls and schedules by what stands in them: each is one line, and that of one value alone.
use Rattle.std.proofs.Common.{◌≡◌, ℕ, ◌≤◌, false, List, [], ◌∷◌, length, refl, sym, ap, ◌∙◌, append-nil, arith}
use Rattle.bd_base.specs.Bytes.{AreBytes}
use Rattle.bd_base.specs.Names.{IsName}
use Rattle.bd_base.specs.declared.script.How.{How}
use Rattle.bd_base.specs.declared.script.Mode.{Mode}
use Rattle.bd_blocks.specs.Runs.{runs_text}
use Rattle.bd_blocks.specs.Texts.{has_byte, name_text, number_text}
use Rattle.bd_blocks.specs.Words.{mode_and_how_text}
use Rattle.bd_blocks.specs.declared.text.TheConstants.{LF, SPACE}
use Rattle.bd_blocks.proofs.FieldTexts.{append-has_no, no_split, unique_split}
use Rattle.bd_blocks.proofs.NumberTexts.{number-has_no, number-injective}
use Rattle.bd_blocks.proofs.Spellings.{BothFit, Every, IsField, IsLine, first-unique, mode_and_how-line, name-field, number-field, pair-line, pair_text, runs-line}
use Rattle.bd_script.specs.Texts.{Alone, Times, Written, items_text, later_items, written_text}
use Rattle.bd_script.proofs.ItemTexts.{written-has_no}

-- two numbers
pub two-line : IsLine (pair_text number_text number_text) (BothFit (Every {A = ℕ}) (Every {A = ℕ}))
two-line = pair-line number_text Every number_text Every number-field number-field.line

-- three numbers
pub three-line : IsLine (pair_text number_text (pair_text number_text number_text)) (BothFit (Every {A = ℕ}) (BothFit (Every {A = ℕ}) (Every {A = ℕ})))
three-line = pair-line number_text Every (pair_text number_text number_text) (BothFit Every Every) number-field two-line

-- two numbers and bytes
pub placed-line : IsLine (pair_text number_text (pair_text number_text runs_text)) (BothFit (Every {A = ℕ}) (BothFit (Every {A = ℕ}) AreBytes))
placed-line =
    pair-line number_text Every (pair_text number_text runs_text) (BothFit Every AreBytes) number-field
    (pair-line number_text Every runs_text AreBytes number-field runs-line)

-- a name and a number
pub named-line : IsLine (pair_text name_text number_text) (BothFit IsName (Every {A = ℕ}))
named-line = pair-line name_text IsName number_text Every name-field number-field.line

-- a name, a mode and a way
pub opening-line : IsLine (pair_text name_text mode_and_how_text) (BothFit IsName (BothFit (Every {A = Mode}) (Every {A = How})))
opening-line = pair-line name_text IsName mode_and_how_text (BothFit Every Every) name-field mode_and_how-line

written-unique : (w v : Written) → written_text w ≡ written_text v → w ≡ v
written-unique (Alone a) (Alone b) same = ap (λ (n : ℕ). let w : Written = Alone n in w) (number-injective a b same)
written-unique (Alone a) (Times b m) same =
    absurd (no_split 42 (number_text a) (number_text b) (number_text m) (number-has_no 42 (omega arith) a) same)
written-unique (Times a n) (Alone b) same =
    absurd (no_split 42 (number_text b) (number_text a) (number_text n) (number-has_no 42 (omega arith) b) (sym same))
written-unique (Times a n) (Times b m) same =
    let parts = unique_split 42 (number_text a) (number_text b) (number_text n) (number_text m)
    (number-has_no 42 (omega arith) a) (number-has_no 42 (omega arith) b) same in
    cc (number-injective a b parts.0, number-injective n m parts.1)

-- an item
pub written-field : IsField written_text (Every {A = Written})
written-field = record {
  one_word = λ w _. written-has_no SPACE (omega arith) w;
  line = record { one_line = λ w _. written-has_no LF (omega arith) w; injective = λ w v _ _ same. written-unique w v same };
}

-- the items are some
abbrev pub AreItems : List Written → Type 0
AreItems items = 1 ≤ length items

items-unique : (ws vs : List Written) → AreItems ws → AreItems vs → items_text ws ≡ items_text vs → ws ≡ vs
items-unique [] vs some_w some_v same = absurd (omega arith)
items-unique (w ∷ ws) [] some_w some_v same = absurd (omega arith)
items-unique (w ∷ []) (v ∷ []) some_w some_v same =
    ap (λ (x : Written). x ∷ []) (written-unique w v (sym (append-nil (written_text w)) ∙ same ∙ append-nil (written_text v)))
items-unique (w ∷ []) (v ∷ u ∷ vs) some_w some_v same =
    absurd (no_split SPACE (written_text w) (written_text v) (items_text (u ∷ vs)) (written-field.one_word w tt)
    (sym (append-nil (written_text w)) ∙ same))
items-unique (w ∷ x ∷ ws) (v ∷ []) some_w some_v same =
    absurd (no_split SPACE (written_text v) (written_text w) (items_text (x ∷ ws)) (written-field.one_word v tt)
    (sym (append-nil (written_text v)) ∙ sym same))
items-unique (w ∷ x ∷ ws) (v ∷ u ∷ vs) some_w some_v same =
    let parts = first-unique written_text Every written-field w v (items_text (x ∷ ws)) (items_text (u ∷ vs)) tt tt same in
    cc (parts.0, items-unique (x ∷ ws) (u ∷ vs) (omega arith) (omega arith) parts.1)

later-one_line : (ws : List Written) → has_byte LF (later_items ws) ≡ false
later-one_line [] = refl
later-one_line (w ∷ ws) = append-has_no LF (written_text w) (later_items ws) (written-field.line.one_line w tt) (later-one_line ws)

items-one_line : (ws : List Written) → has_byte LF (items_text ws) ≡ false
items-one_line [] = refl
items-one_line (w ∷ ws) = append-has_no LF (written_text w) (later_items ws) (written-field.line.one_line w tt) (later-one_line ws)

-- items, at least one
pub items-line : IsLine items_text AreItems
items-line = record { one_line = λ items _. items-one_line items; injective = items-unique }
