use Rattle.bd_image.proofs.Seen.{names_after}
use Rattle.bd_image.proofs.reader.seen.add_name.Goals as goal

pub returns-clause-names : goal.returns-clause-names
returns-clause-names c = names_after c.args.seen.now c.insert.new.self c.args.name c.in_ok-added.ensures.updates
