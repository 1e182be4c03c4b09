use Rattle.bd_blocks.proofs.NumberTexts.{number-decimal}
use Rattle.bd_blocks.proofs.laws.numbers_are_decimal.Goals as goal

pub returns : goal.returns
returns c = number-decimal
