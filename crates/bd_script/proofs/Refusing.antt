-- What the reader's answer on one line says of the whole text.
use Rattle.std.specs.Prelude.{MatchOption}
use Rattle.std.proofs.Common.{◌≡◌, ℕ, ◌+◌, ◌≤◌, true, false, List, [], ◌∷◌, ◌++◌, length, inr, sym, subst, ap, ◌∙◌, append_assoc}
use Rattle.bd_base.specs.declared.limits.TheConstants.{SCRIPT_SIZE}
use Rattle.bd_blocks.specs.Texts.{has_byte}
use Rattle.bd_blocks.specs.declared.text.TheConstants.{LF}
use Rattle.bd_script.specs.Refusals.{IsBadScript}
use Rattle.bd_base.specs.declared.script.Script.{Script}
use Rattle.bd_script.specs.declared.error.ScriptError.{ScriptError}
use Rattle.bd_script.specs.declared.error.ScriptError.TheVariants.{BadScript, OutOfMemory}
use Rattle.bd_script.specs.declared.fault.Fault.{Fault}
use Rattle.bd_script.specs.declared.fault.Fault.TheVariants.{Form as FormFault, Range, Order, Place, Actor, OutOfMemory as NoMemory}
use Rattle.bd_script.proofs.LineLists.{lines_text-more}
use Rattle.bd_script.specs.Reading.{fault_rule}
use Rattle.bd_script.specs.Refused.{RefusesNext, RefusesScript, TakesLine}
use Rattle.bd_script.specs.Rules.{IsLeastRuleBroken, counts_of}
use Rattle.bd_base.specs.Scripts.{IsWithinLimits}
use Rattle.bd_script.specs.Texts.{Form, form_text, header, lines_text, script_lines, script_text}

-- the text of the draft with one more line
pub taken-text : (text rest line next : List ℕ) (d new : Script) → text ≡ script_text d ++ rest → rest ≡ line ++ LF ∷ next → TakesLine d line new
    → text ≡ script_text new ++ next
taken-text text rest line next d new split parts taken =
    let old : List Form = script_lines d in
    let lines : script_lines new ≡ old ++ taken.form ∷ [] = taken.more.lines in
    split ∙ ap (λ (l : List ℕ). (header ++ LF ∷ lines_text old) ++ l) (parts ∙ ap (λ (l : List ℕ). l ++ LF ∷ next) taken.spelled)
    ∙ sym (append_assoc (header ++ LF ∷ lines_text old) (form_text taken.form) (LF ∷ next))
    ∙ sym (append_assoc ((header ++ LF ∷ lines_text old) ++ form_text taken.form) (LF ∷ []) next)
    ∙ ap (λ (l : List ℕ). (header ++ LF ∷ l) ++ next) (sym (lines_text-more old taken.form) ∙ ap lines_text (sym lines))

-- what is told of a bad line that is ended
pub next-refused : (text rest line next : List ℕ) (d : Script) (number : ℕ) → IsWithinLimits d → length text ≤ SCRIPT_SIZE
    → text ≡ script_text d ++ rest → number ≡ length (script_lines d) + 2 →
    rest ≡ line ++ LF ∷ next → has_byte LF line ≡ false → (fault : Fault) → RefusesNext d line fault → (error : ScriptError) →
    MatchOption (fault_rule fault) (error ≡ OutOfMemory) (λ (rule : ℕ). error ≡ BadScript number rule) → RefusesScript text error
next-refused text rest line next d number is short split number_is parts none fault breaks error tells = go fault breaks tells where
  bad : (rule : ℕ) → IsLeastRuleBroken (counts_of d) line true rule → IsBadScript text number rule
  bad rule broken = inr (
    short,
    inr (record {
      good = d;
      limits = is;
      line = line;
      ended = true;
      rest = next;
      one_line = none;
      some = λ ended. absurd (let no : ⊥ = cc ended in no);
      follows = split ∙ ap (λ (l : List ℕ). script_text d ++ l) parts;
      number_is = number_is;
      broken = broken;
    }),
  )

  told : (rule : ℕ) → IsLeastRuleBroken (counts_of d) line true rule → error ≡ BadScript number rule → RefusesScript text error
  told rule broken same = subst (RefusesScript text) (sym same) (bad rule broken)

  go : (fault : Fault) → RefusesNext d line fault → MatchOption (fault_rule fault) (error ≡ OutOfMemory)
      (λ (rule : ℕ). error ≡ BadScript number rule)
      → RefusesScript text error
  go FormFault broken same = told 4 broken same
  go Range broken same = told 5 broken same
  go Order broken same = told 6 broken same
  go Place broken same = told 7 broken same
  go Actor broken same = told 8 broken same
  go NoMemory broken same = subst (RefusesScript text) (sym same) tt
