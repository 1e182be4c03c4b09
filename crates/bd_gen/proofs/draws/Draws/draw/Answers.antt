use Rattle.bd_gen.proofs.DrawnNumbers.{next_number-wrapped}
use Rattle.bd_gen.proofs.draws.Draws.draw.Goals as goal

pub returns-clause-value : goal.returns-clause-value
returns-clause-value c = next_number-wrapped c.args.self.now.last
