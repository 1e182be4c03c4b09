use Rattle.bd_extents.proofs.ExtentLists.{blocks_of-extents_of, AreMaximal-extents_of, extents_of-blocks_of}
use Rattle.bd_extents.proofs.extents.extents_are_inverse.Goals as goal

pub returns-clause-blocks_come_back : goal.returns-clause-blocks_come_back
returns-clause-blocks_come_back c = blocks_of-extents_of

pub returns-clause-extents_are_maximal : goal.returns-clause-extents_are_maximal
returns-clause-extents_are_maximal c = AreMaximal-extents_of

pub returns-clause-extents_come_back : goal.returns-clause-extents_come_back
returns-clause-extents_come_back c = extents_of-blocks_of
