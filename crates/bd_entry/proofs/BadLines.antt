-- What is said of the first bad line of a text.
use Rattle.std.proofs.Common.{◌≡◌, ◌≢◌, ◌⊎◌, ℕ, ◌+◌, Bool, true, false, List, [], ◌∷◌, ◌++◌, length, refl, sym, ap, ◌∙◌, arith, ⊎_elim, append_assoc}
use Rattle.std.proofs.lemmas.List.{append_cancel_left}
use Rattle.bd_blocks.proofs.FieldTexts.{no_split, unique_split}
use Rattle.bd_blocks.specs.Texts.{from_line, has_byte}
use Rattle.bd_blocks.specs.declared.text.TheConstants.{LF}
use Rattle.bd_entry.specs.Ranges.{AreEntries, IsEntry}
use Rattle.bd_entry.specs.Reading.{HasReading, IsBadJournal, IsBadHeader, IsBadLine}
use Rattle.bd_entry.specs.Texts.{entry_text, header, journal_text, lines_text}
use Rattle.bd_entry.specs.declared.entry.Entry.{Entry}
use Rattle.bd_entry.proofs.OneEntry.{entry_one_line, first_is, others_are}

-- a line with what makes it bad
pub record IsBad (line : List ℕ) (ended : Bool) : Type 0 where
  pub one_line : has_byte LF line ≡ false
  pub some : ended ≡ false → line ≢ []
  pub broken : (ended ≡ false) ⊎ ¬ HasReading line

-- a bad line is no line of an entry
bad_is_no_entry : (line : List ℕ) (ended : Bool) (rest : List ℕ) → IsBad line ended → (e : Entry) → IsEntry e → (more : List ℕ)
    → entry_text e ++ LF ∷ more ≢ from_line line ended rest
bad_is_no_entry line true rest bad e is more same =
    ⊎_elim (λ no. absurd (let never : ⊥ = cc no in never))
    (λ none. none (e, is, sym (unique_split LF (entry_text e) line more rest (entry_one_line e is) bad.one_line same).0)) bad.broken
bad_is_no_entry line false rest bad e is more same = no_split LF line (entry_text e) more bad.one_line (sym same)

-- there is a line
bad_is_some : (line : List ℕ) (ended : Bool) (rest : List ℕ) → IsBad line ended → [] ≢ from_line line ended rest
bad_is_some [] true rest bad same = cc same
bad_is_some (x ∷ line) true rest bad same = cc same
bad_is_some line false rest bad same = bad.some refl (sym same)

-- good lines to the end are not good lines and a bad one
no_bad_line : (j good : List Entry) (line : List ℕ) (ended : Bool) (rest : List ℕ) → AreEntries j → AreEntries good → IsBad line ended
    → lines_text j ≢ lines_text good ++ from_line line ended rest
no_bad_line [] [] line ended rest are good_are bad same = bad_is_some line ended rest bad same
no_bad_line [] (f ∷ fs) line ended rest are good_are bad same =
    no_split LF [] (entry_text f) (lines_text fs ++ from_line line ended rest) refl (same ∙ append_assoc (entry_text f) (LF ∷ lines_text fs)
    (from_line line ended rest))
no_bad_line (e ∷ es) [] line ended rest are good_are bad same = bad_is_no_entry line ended rest bad e (first_is e es are) (lines_text es) same
no_bad_line (e ∷ es) (f ∷ fs) line ended rest are good_are bad same =
    no_bad_line es fs line ended rest (others_are e es are) (others_are f fs good_are) bad
    (unique_split LF (entry_text e) (entry_text f) (lines_text es) (lines_text fs ++ from_line line ended rest) (entry_one_line e (first_is e es are))
    (entry_one_line f (first_is f fs good_are)) (same ∙ append_assoc (entry_text f) (LF ∷ lines_text fs) (from_line line ended rest))).1

-- before two bad lines of one text stand as many good ones
same_count : (es fs : List Entry) (a : List ℕ) (p : Bool) (r b : List ℕ) (q : Bool) (s : List ℕ) → AreEntries es → AreEntries fs → IsBad a p
    → IsBad b q
    → lines_text es ++ from_line a p r ≡ lines_text fs ++ from_line b q s → length es ≡ length fs
same_count [] [] a p r b q s es_are fs_are a_bad b_bad same = refl
same_count [] (f ∷ fs) a p r b q s es_are fs_are a_bad b_bad same =
    absurd (bad_is_no_entry a p r a_bad f (first_is f fs fs_are) (lines_text fs ++ from_line b q s)
    (sym (append_assoc (entry_text f) (LF ∷ lines_text fs) (from_line b q s)) ∙ sym same))
same_count (e ∷ es) [] a p r b q s es_are fs_are a_bad b_bad same =
    absurd (bad_is_no_entry b q s b_bad e (first_is e es es_are) (lines_text es ++ from_line a p r)
    (sym (append_assoc (entry_text e) (LF ∷ lines_text es) (from_line a p r)) ∙ same))
same_count (e ∷ es) (f ∷ fs) a p r b q s es_are fs_are a_bad b_bad same =
    let split = unique_split LF (entry_text e) (entry_text f) (lines_text es ++ from_line a p r) (lines_text fs ++ from_line b q s)
    (entry_one_line e (first_is e es es_are))
    (entry_one_line f (first_is f fs fs_are))
    (sym (append_assoc (entry_text e) (LF ∷ lines_text es) (from_line a p r)) ∙ same ∙ append_assoc (entry_text f) (LF ∷ lines_text fs)
    (from_line b q s)) in
    let count : length es ≡ length fs = same_count es fs a p r b q s (others_are e es es_are) (others_are f fs fs_are) a_bad b_bad split.1 in
    omega arith

-- what a bad line says of its text
bad_of : (text : List ℕ) (number : ℕ) (b : IsBadLine text number) → IsBad b.line b.ended
bad_of text number b = record { one_line = b.one_line; some = b.some; broken = b.broken }

after_header : (es : List Entry) (rest : List ℕ) → journal_text es ++ rest ≡ (header ++ LF ∷ []) ++ (lines_text es ++ rest)
after_header es rest = refl

-- a bad text is that of no journal
pub bad_text : (text : List ℕ) (number : ℕ) → IsBadJournal text number → (j : List Entry) → AreEntries j → text ≢ journal_text j
bad_text text number bad j are same =
    ⊎_elim (λ (h : IsBadHeader text number). h.no_header (lines_text j) same)
    (λ (b : IsBadLine text number).
    no_bad_line j b.good b.line b.ended b.rest are b.are_entries (bad_of text number b)
    (append_cancel_left (header ++ LF ∷ []) (lines_text j) (lines_text b.good ++ from_line b.line b.ended b.rest) (sym same ∙ b.follows)))
    bad

-- a text has one bad line
pub one_bad : (text : List ℕ) (m n : ℕ) → IsBadJournal text m → IsBadJournal text n → m ≡ n
one_bad text m n bad other =
    ⊎_elim
    (λ (h : IsBadHeader text m).
    ⊎_elim (λ (g : IsBadHeader text n). h.number_is ∙ sym g.number_is)
    (λ (b : IsBadLine text n). absurd (h.no_header (lines_text b.good ++ from_line b.line b.ended b.rest) b.follows)) other)
    (λ (a : IsBadLine text m).
    ⊎_elim (λ (g : IsBadHeader text n). absurd (g.no_header (lines_text a.good ++ from_line a.line a.ended a.rest) a.follows))
    (λ (b : IsBadLine text n).
    let count : length a.good ≡ length b.good =
    same_count a.good b.good a.line a.ended a.rest b.line b.ended b.rest a.are_entries b.are_entries (bad_of text m a) (bad_of text n b)
    (append_cancel_left (header ++ LF ∷ []) (lines_text a.good ++ from_line a.line a.ended a.rest) (lines_text b.good ++ from_line b.line b.ended b.rest)
    (sym a.follows ∙ b.follows)) in
    a.number_is ∙ ap (λ (k : ℕ). k + 2) count ∙ sym b.number_is) other)
    bad
