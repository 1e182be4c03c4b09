-- What a refusal says of a text.
use Rattle.std.specs.Prelude.{◌≡◌, ◌≢◌, ◌⊎◌, ℕ, ◌+◌, ◌<◌, ◌≤◌, Bool, false, List, [], ◌++◌, length}
use Rattle.bd_base.specs.declared.limits.TheConstants.{SCRIPT_SIZE}
use Rattle.bd_base.specs.declared.script.Script.{Script}
use Rattle.bd_blocks.specs.Texts.{from_line, has_byte}
use Rattle.bd_blocks.specs.declared.text.TheConstants.{LF}
use Rattle.bd_script.specs.Rules.{IsLeastRuleBroken, counts_of}
use Rattle.bd_base.specs.Scripts.{IsWithinLimits}
use Rattle.bd_script.specs.Texts.{header, script_lines, script_text}

-- the first line is not the header: rule 2; or it is, and is not ended: rule 3
pub record IsBadHeader (text : List ℕ) (number rule : ℕ) : Type 0 where
  pub line : List ℕ
  pub ended : Bool
  pub rest : List ℕ
  pub one_line : has_byte LF line ≡ false
  pub is_first : text ≡ from_line line ended rest
  pub number_is : number ≡ 1
  pub broken : ((line ≢ header) × (rule ≡ 2)) ⊎ ((line ≡ header) × (ended ≡ false) × (rule ≡ 3))

-- the lines before the bad one are those of a script within the limits, and this is the least rule that it breaks after
-- them
pub record IsBadLine (text : List ℕ) (number rule : ℕ) : Type 0 where
  pub good : Script
  pub limits : IsWithinLimits good
  pub line : List ℕ
  pub ended : Bool
  pub rest : List ℕ
  pub one_line : has_byte LF line ≡ false
  pub some : ended ≡ false → line ≢ []
  pub follows : text ≡ script_text good ++ from_line line ended rest
  pub number_is : number ≡ length (script_lines good) + 2
  pub broken : IsLeastRuleBroken (counts_of good) line ended rule

-- the text is too long, which is told first; or this is the number of its first bad line, and the least rule broken
abbrev pub IsBadScript : List ℕ → ℕ → ℕ → Type 0
IsBadScript text number rule =
    ((SCRIPT_SIZE < length text) × (number ≡ 0) × (rule ≡ 1))
    ⊎ ((length text ≤ SCRIPT_SIZE) × (IsBadHeader text number rule ⊎ IsBadLine text number rule))
