use Rattle.std.proofs.Common.{◌≡◌, false, take}
use Rattle.bd_blocks.specs.Texts.{has_byte}
use Rattle.bd_blocks.proofs.text.split_at_byte.Given as goal

-- the byte is not among those seen
abbrev pub invariant-loop-i : goal.invariant-loop-i
invariant-loop-i l = has_byte l.byte (take l.i l.text) ≡ false
