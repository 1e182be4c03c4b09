-- What stands before the fields: the call and the word.
use Rattle.std.specs.Prelude.{IfOk}
use Rattle.std.proofs.Common.{◌≡◌, ℕ, List, Option, None, Some, Result, Ok, Err, sym, ap, ◌∙◌, subst}
use Rattle.bd_base.specs.declared.journal.At.{At}
use Rattle.bd_blocks.specs.Texts.{Reads, before, number_text}
use Rattle.bd_blocks.proofs.Spellings.{Every, first-unique, front_number-unique}
use Rattle.bd_entry.specs.Calls.{at_of}
use Rattle.bd_entry.specs.Ranges.{IsAt, IsEntry}
use Rattle.bd_entry.specs.Reading.{ReadsFields}
use Rattle.bd_entry.specs.Texts.{entry_text, fields_text, line_text, word_of, word_text}
use Rattle.bd_entry.specs.declared.entry.Entry.{Entry}
use Rattle.bd_entry.specs.declared.words.Word.{Word}
use Rattle.bd_entry.proofs.Fields.{word-field}

-- after the call comes the same in all readings
pub after_at : (at : At) (line rest : List ℕ) → IsAt at → line ≡ before (number_text at.process) (before (number_text at.call) rest)
    → (e : Entry) → IsEntry e → line ≡ entry_text e → rest ≡ before (word_text (word_of e)) (fields_text e)
after_at at line rest is_at splits e is same =
    let one = front_number-unique at.process (at_of e).process _ _ (sym splits ∙ same) in
    (front_number-unique at.call (at_of e).call rest (before (word_text (word_of e)) (fields_text e)) one.1).1

-- the entry that is read of the fields is that of the line
pub entry_of_fields : (at : At) (w : Word) (line first rest : List ℕ) → IsAt at → line ≡ before (number_text at.process)
    (before (number_text at.call) first)
    → first ≡ before (word_text w) rest → (o : Option Entry) → ReadsFields at w rest o → Reads entry_text IsEntry line o
entry_of_fields at w line first rest is_at splits begins None none = λ e is same.
    let both = first-unique word_text Every word-field w (word_of e) rest (fields_text e) tt tt
    (sym begins ∙ after_at at line first is_at splits e is same) in
    none e (sym both.0) is.fields both.1
entry_of_fields at w line first rest is_at splits begins (Some e) read =
    let whole : line ≡ line_text at (word_text w) rest = splits ∙ ap (λ (t : List ℕ). before (number_text at.process)
    (before (number_text at.call) t)) begins in (
      record { at = subst IsAt (sym read.0) is_at; fields = read.2 },
      whole ∙ ap (λ (a : At). line_text a (word_text w) rest) (sym read.0) ∙ ap (λ (v : Word). line_text (at_of e) (word_text v) rest) (sym read.1)
          ∙ ap (line_text (at_of e) (word_text (word_of e))) read.3,
    )

-- what is said of a good result is said in other words
pub if_ok_map : {A E : Type 0} {P Q : A → Type 0} (r : Result A E) → ((a : A) → P a → Q a) → IfOk r P → IfOk r Q
if_ok_map (Ok a) more is = more a is
if_ok_map (Err e) more is = is
