use Rattle.std.proofs.Common.{◌≡◌, ◌<◌, ◌≤◌, ◌^◌, ℕ, List, Option, None, sym, ap, ◌∙◌, subst, arith}
use Rattle.std.specs.String.{string_bytes}
use Rattle.bd_blocks.specs.Texts.{IsNoNumber, IsNumberText, number_text}
use Rattle.bd_blocks.specs.declared.text.numbers.Number.TheVariants.{Small, Large}
use Rattle.bd_top.specs.Words.{number_in}
use Rattle.bd_top.proofs.SpelledNumbers.{number_in-large, number_in-none, number_in-small}
use Rattle.bd_top.proofs.words.number_in.Goals as goal

pub returns-in_err-n : goal.returns-in_err-n
returns-in_err-n c =
    let word : List ℕ = string_bytes c.args.word.now in
    let none : IsNoNumber word = subst IsNoNumber c.as_bytes.ensures.value c.in_err-n.ensures.none in
    let left : c.from_residual.result ≡ None = c.from_residual.ensures in
    left ∙ sym (number_in-none word none)

pub returns-in-Small : goal.returns-in-Small
returns-in-Small c =
    let word : List ℕ = string_bytes c.args.word.now in
    let text : IsNumberText c.as_bytes.result.now (Small c.in-Small.n) = subst (IsNumberText c.as_bytes.result.now) c.in-Small.is c.in_ok-n.ensures.some in
    let small : c.in-Small.n < 2 ^ 64 = omega arith in
    sym (number_in-small word c.in-Small.n small (sym c.as_bytes.ensures.value ∙ text.2 ∙ ap number_text text.1))

pub returns-in-Large : goal.returns-in-Large
returns-in-Large c =
    let word : List ℕ = string_bytes c.args.word.now in
    let text : IsNumberText c.as_bytes.result.now Large = subst (IsNumberText c.as_bytes.result.now) c.in-Large.is c.in_ok-n.ensures.some in
    sym (number_in-large word text.0 text.1 (sym c.as_bytes.ensures.value ∙ text.2))
