use Rattle.bd_blocks.proofs.NumberTexts.{number-injective}
use Rattle.bd_blocks.proofs.laws.numbers_have_one_reading.Goals as goal

pub returns : goal.returns
returns c = number-injective
