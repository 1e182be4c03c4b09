use Rattle.bd_image.proofs.Sharing.{WalkedTo}
use Rattle.bd_image.proofs.reader.sharing.check_extent_shares.Given as goal

abbrev pub invariant-loop-j : goal.invariant-loop-j
invariant-loop-j l = WalkedTo l.bytes l.taken.items l.j
