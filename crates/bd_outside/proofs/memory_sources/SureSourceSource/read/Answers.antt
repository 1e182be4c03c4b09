use Rattle.std.proofs.Common.{◌≡◌, take, drop, length, ap, sym, ◌∙◌, rules}
use Rattle.std.proofs.lemmas.Grind.{common_steps}
use Rattle.bd_outside.proofs.Steps.{taken_front}
use Rattle.bd_outside.proofs.memory_sources.SureSourceSource.read.Goals as goal

pub returns-clause-taken : goal.returns-clause-taken
returns-clause-taken c =
    let copied : c.copy_from_slice.new.self ≡ take c.min-count.result (drop c.self.inside.at c.self.inside.bytes) = search (rules, common_steps) in
    let count : length c.copy_from_slice.new.self ≡ c.min-count.result = search (rules, common_steps) in
    ap (λ s. s.left) (sym c.self.view_is) ∙ taken_front c.self.inside.bytes c.args.buf.now _ c.self.inside.at c.min-count.result copied count
