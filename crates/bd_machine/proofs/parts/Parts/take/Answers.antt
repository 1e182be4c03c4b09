use Rattle.std.proofs.Common.{rules}
use Rattle.bd_machine.proofs.EngineTakes.{takes_none, takes_oldest}
use Rattle.bd_machine.proofs.parts.Parts.take.Goals as goal

pub returns-in_default : goal.returns-in_default
returns-in_default g c = λ y there.
    takes_none c.args.self.now c.args.q c.get.result y c.index_mut-it.result.now c.take.new.self c.take.result c.get.ensures.value there
    c.index_mut-it.ensures.value c.in_default.is
    (record { submitted = c.take.ensures.submitted; in_hand = c.take.ensures.in_hand; completed = c.take.ensures.completed })
    (c.take.ensures.none.0 (search rules))

pub returns : goal.returns
returns g c = λ y there.
    takes_oldest c.args.self.now c.args.q c.get.result y c.index_mut-it.result.now c.take.new.self c.take.result c.in-Some.command
    c.request_of-request.result c.get.ensures.value there c.index_mut-it.ensures.value c.in-Some.is
    (record { submitted = c.take.ensures.submitted; in_hand = c.take.ensures.in_hand; completed = c.take.ensures.completed })
    c.request_of-request.ensures.request c.request_of-request.ensures.hi
