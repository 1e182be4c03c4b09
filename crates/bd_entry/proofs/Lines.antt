-- Lines one after another.
use Rattle.std.proofs.Common.{◌≡◌, ℕ, List, [], ◌∷◌, ◌++◌, refl, sym, ap, ◌∙◌, append_assoc}
use Rattle.bd_blocks.specs.declared.text.TheConstants.{LF}
use Rattle.bd_entry.specs.Texts.{entry_text, header, journal_text, lines_text}
use Rattle.bd_entry.specs.declared.entry.Entry.{Entry}

-- the lines of one list after those of another
pub lines_append : (es fs : List Entry) → lines_text (es ++ fs) ≡ lines_text es ++ lines_text fs
lines_append [] fs = refl
lines_append (e ∷ es) fs =
    ap (λ (t : List ℕ). entry_text e ++ LF ∷ t) (lines_append es fs) ∙ sym (append_assoc (entry_text e) (LF ∷ lines_text es) (lines_text fs))

-- a journal with one entry more
pub journal_push : (es : List Entry) (e : Entry) → journal_text (es ++ e ∷ []) ≡ journal_text es ++ (entry_text e ++ LF ∷ [])
journal_push es e =
    ap (λ (t : List ℕ). header ++ LF ∷ t) (lines_append es (e ∷ [])) ∙ sym (append_assoc header (LF ∷ lines_text es) (entry_text e ++ LF ∷ []))

-- one line more was written
pub line_written : (es : List Entry) (e : Entry) (old line new : List ℕ) → old ≡ journal_text es → line ≡ old ++ entry_text e
    → new ≡ line ++ LF ∷ []
    → new ≡ journal_text (es ++ e ∷ [])
line_written es e old line new was written ended =
    ended ∙ ap (λ (t : List ℕ). t ++ LF ∷ []) (written ∙ ap (λ (t : List ℕ). t ++ entry_text e) was)
    ∙ append_assoc (journal_text es) (entry_text e) (LF ∷ []) ∙ sym (journal_push es e)

-- one line more was read
pub line_read : (es : List Entry) (e : Entry) (text rest line next : List ℕ) → text ≡ journal_text es ++ rest → rest ≡ line ++ LF ∷ next
    → line ≡ entry_text e
    → text ≡ journal_text (es ++ e ∷ []) ++ next
line_read es e text rest line next was splits spelled =
    was ∙ ap (λ (t : List ℕ). journal_text es ++ t) (splits ∙ ap (λ (t : List ℕ). t ++ LF ∷ next) spelled
    ∙ sym (append_assoc (entry_text e) (LF ∷ []) next))
    ∙ sym (append_assoc (journal_text es) (entry_text e ++ LF ∷ []) next) ∙ ap (λ (t : List ℕ). t ++ next) (sym (journal_push es e))
