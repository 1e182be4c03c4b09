use Rattle.std.specs.Prelude.{codes}
use Rattle.std.proofs.Common.{◌≢◌, rules}
use Rattle.bd_entry.proofs.Reasons.{no_beyond}
use Rattle.bd_entry.proofs.read.reasons.read_beyond.Goals as goal

pub returns-then-ne : goal.returns-then-ne
returns-then-ne c =
    let other : c.in_ok-word.word.now ≢ codes "beyond" = search rules in
    λ n is same. no_beyond c.args.text.now c.in_ok-word.word.now c.in_ok-word.rest.now c.in_ok-word.ensures.split c.in_ok-word.ensures.first other n same
