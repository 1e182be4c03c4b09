-- One text is that of one script, or of one refusal.
use Rattle.std.specs.Prelude.{IfErr, IfOk, IsOkUnless, Result, Ok, Err}
use Rattle.std.proofs.Common.{◌≡◌, ◌≢◌, ◌⊎◌, ℕ, ◌+◌, Bool, true, false, List, [], ◌∷◌, ◌++◌, length, inl, inr, refl, sym, ap, ◌∙◌, subst, append_assoc, append-nil, ⊎_elim, arith}
use Rattle.std.proofs.lemmas.List.{append_cancel_left}
use Rattle.bd_base.specs.declared.script.Script.{Script}
use Rattle.bd_blocks.proofs.FieldTexts.{no_split, unique_split}
use Rattle.bd_blocks.specs.Texts.{from_line, has_byte}
use Rattle.bd_blocks.specs.declared.text.TheConstants.{LF}
use Rattle.bd_base.proofs.Rules.{one-number}
use Rattle.bd_script.proofs.FormTexts.{form-has_no_end, form-unique}
use Rattle.bd_script.proofs.LineOrder.{AreGood, IsGood, count}
use Rattle.bd_script.proofs.ReadBack.{lines-injective}
use Rattle.bd_script.proofs.ScheduleOrder.{next-good, script-good, start}
use Rattle.bd_script.specs.Refusals.{IsBadHeader, IsBadLine, IsBadScript}
use Rattle.bd_script.specs.Rules.{Actors, Counts, Ended, Formed, IsForm, IsLeastRuleBroken, Obeys, Order, Places, Ranges, Rule, counts_of, rule_number, HasActors, HasPlace, IsInOrder, IsInRange}
use Rattle.bd_base.specs.Scripts.{IsWithinLimits}
use Rattle.bd_script.specs.Refused.{RefusesScript, TellsBadScript}
use Rattle.bd_script.specs.declared.error.ScriptError.{ScriptError}
use Rattle.bd_script.specs.declared.error.ScriptError.TheVariants.{BadScript, OutOfMemory}
use Rattle.bd_script.specs.Texts.{Form, IsScript, IsScriptText, form_text, header, lines_text, script_lines, script_text}

-- of two texts of lines and rests, one goes on where the other ends
pub compare : (c d : Counts) (fs gs : List Form) (x y : List ℕ) → AreGood c fs → AreGood d gs → lines_text fs ++ x ≡ lines_text gs ++ y →
    ((more : List Form) × (gs ≡ fs ++ more) × (x ≡ lines_text more ++ y)) ⊎ ((more : List Form) × (fs ≡ gs ++ more) × (y ≡ lines_text more ++ x))
compare c d [] gs x y good_f good_g same = inl (gs, refl, same)
compare c d (f ∷ fs) [] x y good_f good_g same = inr (f ∷ fs, refl, sym same)
compare c d (f ∷ fs) (g ∷ gs) x y good_f good_g same =
    let parts = unique_split LF (form_text f) (form_text g) (lines_text fs ++ x) (lines_text gs ++ y) (form-has_no_end f good_f.0.is_form)
    (form-has_no_end g good_g.0.is_form)
    (sym (append_assoc (form_text f) (LF ∷ lines_text fs) x) ∙ same ∙ append_assoc (form_text g) (LF ∷ lines_text gs) y) in
    let form : f ≡ g = form-unique f g good_f.0.is_form good_g.0.is_form parts.0 in
    ⊎_elim
    (λ rest. inl (rest.0, cc (form, rest.1), rest.2))
    (λ rest. inr (rest.0, cc (form, rest.1), rest.2))
    (compare (count c f) (count d g) fs gs x y good_f.1 good_g.1 parts.1)

-- the rest after lines of two scripts
pub compare-scripts : (s t : Script) (x y : List ℕ) → IsWithinLimits s → IsWithinLimits t → script_text s ++ x ≡ script_text t ++ y →
    ((more : List Form) × (script_lines t ≡ script_lines s ++ more) × (x ≡ lines_text more ++ y)) ⊎
    ((more : List Form) × (script_lines s ≡ script_lines t ++ more) × (y ≡ lines_text more ++ x))
compare-scripts s t x y is_s is_t same =
    compare start start (script_lines s) (script_lines t) x y (script-good s is_s) (script-good t is_t)
    (append_cancel_left (header ++ LF ∷ []) (lines_text (script_lines s) ++ x) (lines_text (script_lines t) ++ y) same)

no-more : (more : List Form) → [] ≡ lines_text more ++ [] → more ≡ []
no-more [] same = refl
no-more (f ∷ more) same = absurd (no_split LF [] (form_text f) (lines_text more ++ []) refl (same ∙ append_assoc (form_text f) (LF ∷ lines_text more) []))

-- a text is that of one script at most
pub one-script : (s t : Script) → IsScript s → IsScript t → script_text s ≡ script_text t → s ≡ t
one-script s t is_s is_t same =
    ⊎_elim
    (λ rest. lines-injective s t (sym (append-nil (script_lines s)) ∙ ap (λ (l : List Form). script_lines s ++ l) (sym (no-more rest.0 rest.2))
    ∙ sym rest.1))
    (λ rest. lines-injective s t (rest.1 ∙ ap (λ (l : List Form). script_lines t ++ l) (no-more rest.0 rest.2) ∙ append-nil (script_lines t)))
    (compare-scripts s t [] [] is_s.limits is_t.limits (append-nil (script_text s) ∙ same ∙ sym (append-nil (script_text t))))

-- what is not ended by LF, or is, is one line in one way
pub from_line-unique : (l m : List ℕ) (e k : Bool) (r q : List ℕ) → has_byte LF l ≡ false → has_byte LF m ≡ false
    → from_line l e r ≡ from_line m k q
    → (l ≡ m) × (e ≡ k)
from_line-unique l m true true r q none_l none_m same = ((unique_split LF l m r q none_l none_m same).0, refl)
from_line-unique l m true false r q none_l none_m same = absurd (no_split LF m l r none_m (sym same))
from_line-unique l m false true r q none_l none_m same = absurd (no_split LF l m q none_l same)
from_line-unique l m false false r q none_l none_m same = (same, refl)

-- a line and more, where the line of a form begins the text
pub form-first : (l : List ℕ) (e : Bool) (r : List ℕ) (f : Form) (more : List Form) (y : List ℕ) → has_byte LF l ≡ false → IsForm f
    → from_line l e r ≡ lines_text (f ∷ more) ++ y → (e ≡ true) × (l ≡ form_text f)
form-first l true r f more y none is same = (
  refl,
  (unique_split LF l (form_text f) r (lines_text more ++ y) none (form-has_no_end f is) (same ∙ append_assoc (form_text f)
      (LF ∷ lines_text more) y)).0,
)
form-first l false r f more y none is same = absurd (no_split LF l (form_text f) (lines_text more ++ y) none (same ∙ append_assoc (form_text f)
    (LF ∷ lines_text more) y))

-- a good line breaks no rule
pub good-obeys : (c : Counts) (line : List ℕ) (ended : Bool) (f : Form) → IsGood c f → ended ≡ true → line ≡ form_text f → (q : Rule)
    → Obeys c line ended q
good-obeys c line ended f good is_ended is Ended = is_ended
good-obeys c line ended f good is_ended is Formed = (f, good.is_form, is)
good-obeys c line ended f good is_ended is Ranges = λ g is_g same. subst IsInRange (form-unique f g good.is_form is_g (sym is ∙ same)) good.in_range
good-obeys c line ended f good is_ended is Order = λ g is_g same. subst (IsInOrder c) (form-unique f g good.is_form is_g (sym is ∙ same)) good.in_order
good-obeys c line ended f good is_ended is Places = λ g is_g same. subst (HasPlace c) (form-unique f g good.is_form is_g (sym is ∙ same)) good.has_place
good-obeys c line ended f good is_ended is Actors = λ g is_g same. subst (HasActors c) (form-unique f g good.is_form is_g (sym is ∙ same)) good.has_actors

-- the bad line after a script is not the next line of another
pub not-next : (s t : Script) (f : Form) (more : List Form) (l : List ℕ) (e : Bool) (r y : List ℕ) (rule : ℕ) → IsWithinLimits s → IsWithinLimits t
    → script_lines t ≡ script_lines s ++ f ∷ more → has_byte LF l ≡ false →
    from_line l e r ≡ lines_text (f ∷ more) ++ y → IsLeastRuleBroken (counts_of s) l e rule → ⊥
not-next s t f more l e r y rule is_s is_t lines none same broken =
    let good = next-good s t f more is_s is_t lines in
    let line = form-first l e r f more y none good.is_form same in
    broken.broken (good-obeys (counts_of s) l e f good line.0 line.1 broken.rule)

-- a bad line does not end a text
not-end : (l : List ℕ) (e : Bool) (r : List ℕ) → (e ≡ false → l ≢ []) → from_line l e r ≢ []
not-end [] true r some same = cc same
not-end (x ∷ l) true r some same = cc same
not-end l false r some same = some refl same

header-line : has_byte LF header ≡ false
header-line = refl

-- a bad header is not that of a script
pub header-refused : (text : List ℕ) (number rule : ℕ) (rest : List ℕ) → IsBadHeader text number rule → text ≢ header ++ LF ∷ rest
header-refused text number rule rest bad same =
    let line = from_line-unique bad.line header bad.ended true bad.rest rest bad.one_line header-line (sym bad.is_first ∙ same) in
    ⊎_elim (λ other. other.0 line.0) (λ open_end. let no : true ≡ false = sym line.1 ∙ open_end.1 in absurd (let never : ⊥ = cc no in never))
    bad.broken

-- a bad line is in no script
pub line-refused : (text : List ℕ) (number rule : ℕ) (t : Script) → IsBadLine text number rule → IsScript t → text ≢ script_text t
line-refused text number rule t bad is same =
    ⊎_elim
    (λ rest. after rest.0 rest.1 rest.2)
    (λ rest. past rest.0 rest.2)
    (compare-scripts bad.good t (from_line bad.line bad.ended bad.rest) [] bad.limits is.limits (sym bad.follows ∙ same ∙ sym
    (append-nil (script_text t)))) where
      after : (more : List Form) → script_lines t ≡ script_lines bad.good ++ more → from_line bad.line bad.ended bad.rest ≡ lines_text more ++ []
          → ⊥
      after [] lines text = not-end bad.line bad.ended bad.rest bad.some text
      after (f ∷ more) lines text = not-next bad.good t f more bad.line bad.ended bad.rest [] rule bad.limits is.limits lines bad.one_line text bad.broken

      past : (more : List Form) → [] ≡ lines_text more ++ from_line bad.line bad.ended bad.rest → ⊥
      past [] text = not-end bad.line bad.ended bad.rest bad.some (sym text)
      past (f ∷ more) text = no_split LF [] (form_text f) (lines_text more ++ from_line bad.line bad.ended bad.rest) refl
          (text ∙ append_assoc (form_text f) (LF ∷ lines_text more) (from_line bad.line bad.ended bad.rest))

-- a text that is refused is that of no script
pub refused-no_script : (text : List ℕ) (number rule : ℕ) → IsBadScript text number rule → (s : Script) → IsScript s → text ≢ script_text s
refused-no_script text number rule refusal s is same =
    ⊎_elim
    (λ long. let count : length text ≡ length (script_text s) = ap length same in omega (arith, count, is.size, long.0))
    (λ short. ⊎_elim (λ bad. header-refused text number rule (lines_text (script_lines s)) bad same)
    (λ bad. line-refused text number rule s bad is same) short.1)
    refusal

-- the least rule that a line breaks is one
pub one-rule : (c : Counts) (l : List ℕ) (e : Bool) (m n : ℕ) → IsLeastRuleBroken c l e m → IsLeastRuleBroken c l e n → m ≡ n
one-rule c l e m n a b =
    let Keeps : Rule → Type 0 = Obeys c l e in
    let Breaks : Rule → Type 0 = λ rule. ¬ Keeps rule in
    one-number Rule rule_number Keeps Breaks Breaks m n (λ rule broken. broken) (λ rule broken. broken) a b

-- a text has one bad header
pub one-header : (text : List ℕ) (m r n q : ℕ) → IsBadHeader text m r → IsBadHeader text n q → (m ≡ n) × (r ≡ q)
one-header text m r n q a b =
    let line = from_line-unique a.line b.line a.ended b.ended a.rest b.rest a.one_line b.one_line (sym a.is_first ∙ b.is_first) in (
      a.number_is ∙ sym b.number_is,
      ⊎_elim
          (λ other. ⊎_elim (λ no. other.1 ∙ sym no.1) (λ no. absurd (other.0 (line.0 ∙ no.0))) b.broken)
          (λ open_end. ⊎_elim (λ no. absurd (no.0 (sym line.0 ∙ open_end.0))) (λ no. open_end.2 ∙ sym no.2) b.broken)
          a.broken,
    )

-- the first bad line of a text is one
pub one-line : (text : List ℕ) (m r n q : ℕ) → IsBadLine text m r → IsBadLine text n q → (m ≡ n) × (r ≡ q)
one-line text m r n q a b =
    let x : List ℕ = from_line a.line a.ended a.rest in
    let y : List ℕ = from_line b.line b.ended b.rest in
    ⊎_elim (λ rest. ahead a b rest.0 rest.1 rest.2) (λ rest. let same = ahead b a rest.0 rest.1 rest.2 in (sym same.0, sym same.1))
    (compare-scripts a.good b.good x y a.limits b.limits (sym a.follows ∙ b.follows)) where
      ahead : {m r n q : ℕ} (a : IsBadLine text m r) (b : IsBadLine text n q) (more : List Form) → script_lines b.good ≡ script_lines a.good ++ more
          → from_line a.line a.ended a.rest ≡ lines_text more ++ from_line b.line b.ended b.rest →
          (m ≡ n) × (r ≡ q)
      ahead {m} {r} {n} {q} a b [] lines same =
          let line = from_line-unique a.line b.line a.ended b.ended a.rest b.rest a.one_line b.one_line same in
          let good : a.good ≡ b.good = lines-injective a.good b.good (sym (append-nil (script_lines a.good)) ∙ sym lines) in
          let broken : IsLeastRuleBroken (counts_of b.good) b.line b.ended r =
          subst (λ (e : Bool). IsLeastRuleBroken (counts_of b.good) b.line e r) line.1
          (subst (λ (l : List ℕ). IsLeastRuleBroken (counts_of b.good) l a.ended r) line.0
          (subst (λ (s : Script). IsLeastRuleBroken (counts_of s) a.line a.ended r) good a.broken)) in (
            a.number_is ∙ ap (λ (s : Script). length (script_lines s) + 2) good ∙ sym b.number_is,
            one-rule
                (counts_of b.good) b.line b.ended r q broken b.broken,
          )
      ahead {m} {r} {n} {q} a b (f ∷ more) lines same =
          absurd (not-next a.good b.good f more a.line a.ended a.rest (from_line b.line b.ended b.rest) r a.limits b.limits lines a.one_line same a.broken)

bad-line-header : (text : List ℕ) (m r n q : ℕ) → IsBadHeader text m r → IsBadLine text n q → ⊥
bad-line-header text m r n q a b = header-refused text m r (lines_text (script_lines b.good) ++ from_line b.line b.ended b.rest) a b.follows

-- a text is refused with one line and one rule
pub one-refusal : (text : List ℕ) (m r n q : ℕ) → IsBadScript text m r → IsBadScript text n q → (m ≡ n) × (r ≡ q)
one-refusal text m r n q a b =
    ⊎_elim
    (λ long. ⊎_elim (λ other. (long.1 ∙ sym other.1, long.2 ∙ sym other.2)) (λ short. absurd (omega (arith, long.0, short.0))) b)
    (λ short. ⊎_elim (λ long. absurd (omega (arith, long.0, short.0)))
    (λ other.
    ⊎_elim
    (λ bad. ⊎_elim (λ also. one-header text m r n q bad also) (λ also. absurd (bad-line-header text m r n q bad also)) other.1)
    (λ bad. ⊎_elim (λ also. absurd (bad-line-header text n q m r also bad)) (λ also. one-line text m r n q bad also) other.1)
    short.1) b)
    a

-- what was told of a text, whichever it is
pub record IsTold (text : List ℕ) (r : Result Script ScriptError) : Type 0 where
  pub script : IfOk r IsScript
  pub spelled : IfOk r (λ (s : Script). text ≡ script_text s)
  pub refused : IfErr r (RefusesScript text)

-- the text of a script is read
pub told-reads : (text : List ℕ) (r : Result Script ScriptError) → IsTold text r → IsScriptText text → IsOkUnless r OutOfMemory
told-reads text (Ok s) told is = tt
told-reads text (Err OutOfMemory) told is = refl
told-reads text (Err (BadScript line rule)) told is = absurd (refused-no_script text line rule told.refused is.0 is.1 is.2)

-- of a bad text its first bad line is told
pub told-refuses : (text : List ℕ) (r : Result Script ScriptError) → IsTold text r → TellsBadScript text r
told-refuses text (Ok s) told line rule bad = absurd (refused-no_script text line rule bad s told.script told.spelled)
told-refuses text (Err OutOfMemory) told line rule bad = inr refl
told-refuses text (Err (BadScript m r)) told line rule bad =
    let same = one-refusal text m r line rule told.refused bad in
    let error : ℕ → ℕ → Result Script ScriptError = λ l q. Err (BadScript l q) in
    inl (ap (λ (l : ℕ). error l r) same.0 ∙ ap (error line) same.1)

-- a script that is read of the text of another is that other
pub same-script : (s : Script) (r : Result Script ScriptError) → IsScript s → IfOk r IsScript → IfOk r (λ (t : Script). script_text s ≡ script_text t)
    → IfOk r (λ (t : Script). t ≡ s)
same-script s (Ok t) is also same = one-script t s also is (sym same)
same-script s (Err e) is also same = tt
