-- The law is proved as a lemma.
use Rattle.bd_pieces.proofs.Cuts as cuts
use Rattle.bd_pieces.proofs.laws.pieces_are_the_range.Goals as goal

pub returns : goal.returns
returns c = cuts.pieces_are_the_range
