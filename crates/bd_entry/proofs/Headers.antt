-- Where the header of a journal stands in a text.
use Rattle.std.specs.Prelude.{nat_eq}
use Rattle.std.proofs.Common.{◌≡◌, ◌≢◌, ℕ, ◌+◌, ◌-◌, ◌<◌, ◌≤◌, true, false, Bool, List, [], ◌∷◌, ◌++◌, length, drop, get_or, zero, suc, refl, sym, ap, ◌∙◌, subst, arith, ⊎_elim, inr, append-nil, length-append}
use Rattle.std.proofs.Math.Seq.{drop-append-add, get_or-append_seam}
use Rattle.std.proofs.lemmas.List.{drop-drop, get_or-drop, length-drop}
use Rattle.std.proofs.lemmas.Bool.Decides.{nat_tests}
use Rattle.std.proofs.lemmas.Bool.{cases_lt}
use Rattle.bd_blocks.proofs.FieldTexts.{no_split, unique_split}
use Rattle.bd_blocks.specs.Texts.{from_line, has_byte}
use Rattle.bd_blocks.specs.declared.text.TheConstants.{LF}
use Rattle.bd_entry.specs.Reading.{BeginsLine, IsHeaderAt}
use Rattle.bd_entry.specs.Texts.{header}

-- no byte of a line is LF
at_in_line : (line more : List ℕ) (j : ℕ) → has_byte LF line ≡ false → j < length line → get_or (line ++ more) j 0 ≢ 10
at_in_line [] more j one_line within same = absurd (omega arith)
at_in_line (x ∷ line) more zero one_line within same =
    let other : nat_eq LF x ≡ false = grind (arith, one_line) in
    absurd (grind (arith, nat_tests))
at_in_line (x ∷ line) more (suc j) one_line within same =
    let none : has_byte LF line ≡ false = grind (arith, one_line) in
    at_in_line line more j none (omega arith) same

-- no line begins within a line
pub no_header_within : (text line more : List ℕ) (place p : ℕ) → drop place text ≡ line ++ more → has_byte LF line ≡ false → place < p
    → p ≤ place + length line → ¬ IsHeaderAt text p
no_header_within text line more place p splits one_line above within is =
    ⊎_elim (λ none. absurd (omega (arith, none)))
    (λ ends.
    let there : place + (p - place - 1) ≡ p - 1 = omega arith in
    let same : get_or (line ++ more) (p - place - 1) 0 ≡ 10 =
    ap (λ (t : List ℕ). get_or t (p - place - 1) 0) (sym splits) ∙ get_or-drop place text (p - place - 1) 0 ∙ ap (λ (k : ℕ). get_or text k 0) there
    ∙ ends in
    at_in_line line more (p - place - 1) one_line (omega arith) same)
    is.begins

-- a line that is not the header is none
pub no_header_line : (text line next : List ℕ) (place : ℕ) → drop place text ≡ line ++ LF ∷ next → has_byte LF line ≡ false → line ≢ header
    → ¬ IsHeaderAt text place
no_header_line text line next place splits one_line other is = cases is.ended is.is_header where
  cases : (ended : Bool) → drop place text ≡ from_line header ended is.rest → ⊥
  cases true same = other (unique_split LF line header next is.rest one_line refl (sym splits ∙ same)).0
  cases false same = no_split LF header line next refl (sym same ∙ splits)

-- nor is a last line that is not the header
pub no_header_last : (text line : List ℕ) (place : ℕ) → drop place text ≡ line → has_byte LF line ≡ false → line ≢ header
    → ¬ IsHeaderAt text place
no_header_last text line place splits one_line other is = cases is.ended is.is_header where
  cases : (ended : Bool) → drop place text ≡ from_line header ended is.rest → ⊥
  cases true same = no_split LF line header is.rest one_line (sym splits ∙ same)
  cases false same = other (sym splits ∙ same)

-- the header that was found
pub header_found : (text line next : List ℕ) (place : ℕ) → drop place text ≡ line ++ LF ∷ next → line ≡ header → BeginsLine text place
    → IsHeaderAt text place
header_found text line next place splits is begins = record {
  within = omega (arith, length-drop place text, ap length splits, length-append line (LF ∷ next));
  ended = true;
  rest = next;
  begins = begins;
  is_header = splits ∙ ap (λ (t : List ℕ). t ++ LF ∷ next) is;
}

pub last_header_found : (text : List ℕ) (place : ℕ) → drop place text ≡ header → BeginsLine text place → IsHeaderAt text place
last_header_found text place is begins = record {
  within = omega (arith, length-drop place text, ap length is);
  ended = false;
  rest = [];
  begins = begins;
  is_header = is;
}

-- after a line that is not the header, the next line begins
pub next_line : (text line next : List ℕ) (place : ℕ) → place ≤ length text → drop place text ≡ line ++ LF ∷ next
    → place + (length line + 1) ≤ length text
next_line text line next place within splits = omega (arith, length-drop place text, ap length splits, length-append line (LF ∷ next))

pub next_rest : (text line next : List ℕ) (place : ℕ) → drop place text ≡ line ++ LF ∷ next → next ≡ drop (place + (length line + 1)) text
next_rest text line next place splits =
    sym (sym (drop-drop (length line + 1) place text) ∙ ap (drop (length line + 1)) splits ∙ drop-append-add line (LF ∷ next) 1)

pub next_begins : (text line next : List ℕ) (place : ℕ) → drop place text ≡ line ++ LF ∷ next → BeginsLine text (place + (length line + 1))
next_begins text line next place splits =
    let there : place + (length line + 1) - 1 ≡ place + length line = omega arith in
    let same : get_or text (place + (length line + 1) - 1) 0 ≡ 10 =
    ap (λ (k : ℕ). get_or text k 0) there ∙ sym (get_or-drop place text (length line) 0) ∙ ap (λ (t : List ℕ). get_or t (length line) 0) splits
    ∙ get_or-append_seam line 10 next 0 in
    inr same

pub none_before_next : (text line next : List ℕ) (place : ℕ) → drop place text ≡ line ++ LF ∷ next → has_byte LF line ≡ false → line ≢ header
    → ((p : ℕ) → p < place → ¬ IsHeaderAt text p) → (p : ℕ) → p < place + (length line + 1) → ¬ IsHeaderAt text p
none_before_next text line next place splits one_line other none p below is =
    ⊎_elim (λ before. none p before is)
    (λ from. ⊎_elim (λ after. no_header_within text line (LF ∷ next) place p splits one_line after (omega arith) is)
    (λ upto. let here : p ≡ place = omega arith in no_header_line text line next place splits one_line other (subst (IsHeaderAt text) here is))
    (cases_lt place p))
    (cases_lt p place)

-- where the last line is no header, there is none from its place on
pub none_to_end : (text line : List ℕ) (place : ℕ) → place ≤ length text → drop place text ≡ line → has_byte LF line ≡ false → line ≢ header
    → ((p : ℕ) → p < place → ¬ IsHeaderAt text p) → (p : ℕ) → p < length text → ¬ IsHeaderAt text p
none_to_end text line place within splits one_line other none p below is =
    let count : length text ≡ place + length line = omega (arith, length-drop place text, ap length splits) in
    ⊎_elim (λ before. none p before is)
    (λ from. ⊎_elim (λ after. no_header_within text line [] place p (splits ∙ sym (append-nil line)) one_line after (omega arith) is)
    (λ upto. let here : p ≡ place = omega arith in no_header_last text line place splits one_line other (subst (IsHeaderAt text) here is))
    (cases_lt place p))
    (cases_lt p place)
