-- The command in hand is the one that was taken, and its completion is the step's.
use Rattle.bd_machine.proofs.EngineCompletes.{completes_on, has_answer, outcome}
use Rattle.bd_machine.proofs.parts.Parts.complete.Goals as goal

pub give_back-requires : goal.give_back-requires
give_back-requires g c = has_answer g.g c.args.self.now c.args.q c.requires.1.1.1

pub returns : goal.returns
returns g c =
    let w = c.requires.1.1.1 in
    let kept = outcome g.g c.args.self.now c.args.q w in
    completes_on g.g c.args.self.now c.args.q w c.give_back.new.self (c.give_back.ensures w.it w.hand kept.0 w.there w.in_hand kept.1)
