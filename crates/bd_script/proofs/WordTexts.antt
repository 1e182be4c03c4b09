-- The first words of forms.
use Rattle.std.proofs.Common.{◌≡◌, ◌≢◌, ℕ, List, ◌∷◌, ◌++◌, false, refl, sym, ◌∙◌}
use Rattle.bd_base.specs.declared.script.Call.TheVariants.{Enter, Create, Read, Write, Truncate, Unlink, Size, Map, Close, RawRead, RawWrite}
use Rattle.bd_blocks.proofs.FieldTexts.{unique_split}
use Rattle.bd_blocks.specs.Texts.{has_byte}
use Rattle.bd_blocks.specs.declared.text.TheConstants.{SPACE}
use Rattle.bd_script.specs.declared.words.Word.{Word}
use Rattle.bd_script.specs.declared.words.Word.TheVariants.{Proc, Open, Create as CreateWord, Read as ReadWord, Write as WriteWord, Truncate as TruncateWord, Unlink as UnlinkWord, Size as SizeWord, Map as MapWord, Close as CloseWord, RawRead as RawReadWord, RawWrite as RawWriteWord, Schedule}
use Rattle.bd_script.specs.Texts.{Form, ProcForm, CallForm, ScheduleForm, form_text}
use Rattle.bd_script.specs.Words.{word_text}

word-has_no_space : (w : Word) → has_byte SPACE (word_text w) ≡ false
word-has_no_space Proc = refl
word-has_no_space Open = refl
word-has_no_space CreateWord = refl
word-has_no_space ReadWord = refl
word-has_no_space WriteWord = refl
word-has_no_space TruncateWord = refl
word-has_no_space UnlinkWord = refl
word-has_no_space SizeWord = refl
word-has_no_space MapWord = refl
word-has_no_space CloseWord = refl
word-has_no_space RawReadWord = refl
word-has_no_space RawWriteWord = refl
word-has_no_space Schedule = refl

-- each form begins with a word and a space
form-word : (f : Form) → (w : Word) × (rest : List ℕ) × (form_text f ≡ word_text w ++ SPACE ∷ rest)
form-word (ProcForm uid) = (Proc, _, refl)
form-word (CallForm (Enter a b d)) = (Open, _, refl)
form-word (CallForm (Create a b)) = (CreateWord, _, refl)
form-word (CallForm (Read a b d)) = (ReadWord, _, refl)
form-word (CallForm (Write a b d)) = (WriteWord, _, refl)
form-word (CallForm (Truncate a b)) = (TruncateWord, _, refl)
form-word (CallForm (Unlink a)) = (UnlinkWord, _, refl)
form-word (CallForm (Size a)) = (SizeWord, _, refl)
form-word (CallForm (Map a)) = (MapWord, _, refl)
form-word (CallForm (Close a)) = (CloseWord, _, refl)
form-word (CallForm (RawRead a b)) = (RawReadWord, _, refl)
form-word (CallForm (RawWrite a b d)) = (RawWriteWord, _, refl)
form-word (ScheduleForm items) = (Schedule, _, refl)

-- a text whose first field is no word is that of no form
pub no-word : (text first rest : List ℕ) → text ≡ first ++ SPACE ∷ rest → has_byte SPACE first ≡ false → ((w : Word) → first ≢ word_text w)
    → (f : Form)
    → text ≢ form_text f
no-word text first rest split none no_word f same =
    let front = form-word f in
    no_word front.0 (unique_split SPACE first (word_text front.0) rest front.1 none (word-has_no_space front.0) (sym split ∙ same ∙ front.2)).0
