use Rattle.std.proofs.Common.{◌≡◌, ◌+◌, ◌/◌, ◌%◌, ◌<◌, ◌++◌, ◌∷◌, [], List, ℕ, rules, arith, ap, sym, ◌∙◌, append_assoc}
use Rattle.std.proofs.lemmas.Grind.{common_steps}
use Rattle.bd_blocks.specs.Texts.{number_text}
use Rattle.bd_blocks.proofs.NumberTexts.{number-digit, number-step}
use Rattle.bd_blocks.proofs.text.writer.+push_number.Goals as goal
use Rattle.bd_blocks.proofs.text.writer.+push_number.Goals.{then-number-ge10+in_ok-push_number, else-number-ge10}

pub returns : goal.returns
returns t c =
    let old = c.args.text.now.items in
    let n = c.args.number in
    let pushed : c.push.new.self.items ≡ c.if-number-ge10.text.items ++ (48 + n % 10) ∷ [] = search (rules, common_steps) in
    elim c.if-number-ge10.branch [
      | then-number-ge10+in_ok-push_number w ↦
          let front : c.if-number-ge10.text.items ≡ old ++ number_text (n / 10) = search (rules, common_steps) in
          pushed ∙ ap (λ (l : List ℕ). l ++ (48 + n % 10) ∷ []) front ∙ append_assoc old (number_text (n / 10)) ((48 + n % 10) ∷ [])
          ∙ ap (λ (l : List ℕ). old ++ l) (sym (number-step n w.if-number-ge10.true))
      | else-number-ge10 w ↦
          let small : n < 10 = omega (arith, w.if-number-ge10.false) in
          let digit : n % 10 ≡ n = omega arith in
          let front : c.if-number-ge10.text.items ≡ old = search (rules, common_steps) in
          pushed ∙ ap (λ (l : List ℕ). l ++ (48 + n % 10) ∷ []) front ∙ ap (λ (k : ℕ). old ++ (48 + k) ∷ []) digit
          ∙ ap (λ (l : List ℕ). old ++ l) (sym (number-digit n small))
    ]
