-- The line of an entry is one line, and that of no other.
use Rattle.std.proofs.Common.{◌≡◌, ℕ, false, List, [], ◌∷◌, suc, refl, sym, ap, ◌∙◌, arith}
use Rattle.bd_base.specs.declared.journal.At.{At}
use Rattle.bd_blocks.specs.Texts.{before, has_byte, number_text}
use Rattle.bd_blocks.specs.declared.text.TheConstants.{LF, SPACE}
use Rattle.bd_blocks.proofs.FieldTexts.{append-has_no, no_split, unique_split}
use Rattle.bd_blocks.proofs.Spellings.{Every, first-unique, front_number-unique, number-field}
use Rattle.bd_entry.specs.Calls.{at_of}
use Rattle.bd_entry.specs.Ranges.{AreEntries, IsEntry}
use Rattle.bd_entry.specs.Texts.{entry_text, fields_text, lines_text, word_of, word_text}
use Rattle.bd_entry.specs.declared.entry.Entry.{Entry}
use Rattle.bd_entry.proofs.Fields.{word-field}
use Rattle.bd_entry.proofs.EntryKinds.{fields-one_line, same_kind}

before-one_line : (a b : List ℕ) → has_byte LF a ≡ false → has_byte LF b ≡ false → has_byte LF (before a b) ≡ false
before-one_line a b none_a none_b = append-has_no LF a (SPACE ∷ b) none_a none_b

-- the line of an entry has no LF
pub entry_one_line : (e : Entry) → IsEntry e → has_byte LF (entry_text e) ≡ false
entry_one_line e is =
    before-one_line (number_text (at_of e).process) _ (number-field.line.one_line (at_of e).process tt)
    (before-one_line (number_text (at_of e).call) _ (number-field.line.one_line (at_of e).call tt)
    (before-one_line (word_text (word_of e)) (fields_text e) (word-field.line.one_line (word_of e) tt) (fields-one_line e is.fields)))

same_at : (a b : At) → a.process ≡ b.process → a.call ≡ b.call → a ≡ b
same_at a b process call =
    ap (λ (x : ℕ). let at : At = record { process = x; call = a.call } in at) process
    ∙ ap (λ (x : ℕ). let at : At = record { process = b.process; call = x } in at) call

-- a line is that of one entry at most
pub entry_injective : (e f : Entry) → IsEntry e → IsEntry f → entry_text e ≡ entry_text f → e ≡ f
entry_injective e f is other same =
    let one = front_number-unique (at_of e).process (at_of f).process _ _ same in
    let two = front_number-unique (at_of e).call (at_of f).call _ _ one.1 in
    let three = first-unique word_text Every word-field (word_of e) (word_of f) (fields_text e) (fields_text f) tt tt two.1 in
    same_kind e f three.0 (same_at (at_of e) (at_of f) one.0 two.0) is.fields other.fields three.1

-- the first entry, and the others
pub first_is : (e : Entry) (es : List Entry) → AreEntries (e ∷ es) → IsEntry e
first_is e es are = are 0 e (omega arith)

pub others_are : (e : Entry) (es : List Entry) → AreEntries (e ∷ es) → AreEntries es
others_are e es are = λ k d within. are (suc k) d (omega arith)

-- lines are those of one list of entries at most
pub lines_injective : (es fs : List Entry) → AreEntries es → AreEntries fs → lines_text es ≡ lines_text fs → es ≡ fs
lines_injective [] [] es_are fs_are same = refl
lines_injective [] (f ∷ fs) es_are fs_are same = absurd (no_split LF [] (entry_text f) (lines_text fs) refl same)
lines_injective (e ∷ es) [] es_are fs_are same = absurd (no_split LF [] (entry_text e) (lines_text es) refl (sym same))
lines_injective (e ∷ es) (f ∷ fs) es_are fs_are same =
    let split = unique_split LF (entry_text e) (entry_text f) (lines_text es) (lines_text fs)
    (entry_one_line e (first_is e es es_are)) (entry_one_line f (first_is f fs fs_are)) same in
    let first : e ≡ f = entry_injective e f (first_is e es es_are) (first_is f fs fs_are) split.0 in
    let others : es ≡ fs = lines_injective es fs (others_are e es es_are) (others_are f fs fs_are) split.1 in
    cc
