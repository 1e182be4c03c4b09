-- The digits before the place are those of a number, which is counted.
use Rattle.std.proofs.Common.{ℕ}
use Rattle.bd_blocks.specs.Texts.{IsNumber}
use Rattle.bd_blocks.proofs.NumberTexts.{AreDigitsOf}
use Rattle.bd_blocks.proofs.text.numbers.read_number.Given as goal

abbrev pub invariant-loop-digit : goal.invariant-loop-digit
invariant-loop-digit l = (n : ℕ) × IsNumber l.number n × AreDigitsOf l.text l.digit-index n
