use Rattle.bd_extents.proofs.Marks.{is_marked-set}
use Rattle.bd_extents.proofs.bitmap.mark.Goals as goal

pub returns : goal.returns
returns c = is_marked-set c.args.words.now c.args.number c.requires
