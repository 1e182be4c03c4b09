use Rattle.bd_extents.proofs.Marks.{is_marked-clear}
use Rattle.bd_extents.proofs.bitmap.unmark.Goals as goal

pub returns : goal.returns
returns c = is_marked-clear c.args.words.now c.args.number c.requires
