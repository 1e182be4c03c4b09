use Rattle.std.proofs.Common.{◌≡◌, ◌∙◌, sym}
use Rattle.bd_machine.specs.Turns.{IsAt}
use Rattle.bd_machine.proofs.ShowingEnded.{acts, in_order, none_from, on_false, on_true}
use Rattle.bd_turns.specs.State.{State}
use Rattle.bd_turns.specs.Turns.{all_ended}
use Rattle.bd_machine.proofs.machine.Machine.finished.Goals as goal

-- the answer says whether all calls have ended
answer_is : (g : _) (c : goal.After-is_none g) (m : State) → IsAt g.T.Tables c.args.self.now.script c.args.self.now.parts m →
    c.is_none.result ≡ all_ended m
answer_is g c m at = sym (none_from c.unfinished.result c.is_none.result c.is_none.ensures) ∙ c.unfinished.ensures.none.each m at

pub returns-clause-ended : goal.returns-clause-ended
returns-clause-ended g c = record { some = c.unfinished.ensures.none.some; each = λ m at. answer_is g c m at }

pub returns-clause-never_stuck : goal.returns-clause-never_stuck
returns-clause-never_stuck g c =
    record {
      some = c.unfinished.ensures.none.some;
      each = λ m at.
          on_false c.is_none.result _
          (λ is. acts c.args.self.now.script c.args.self.now.parts m at (sym (answer_is g c m at) ∙ is));
    }

pub returns-clause-in_order : goal.returns-clause-in_order
returns-clause-in_order g c =
    record {
      some = c.unfinished.ensures.none.some;
      each = λ m at.
          on_true c.is_none.result _
          (λ is. in_order c.args.self.now.script c.args.self.now.parts m at (sym (answer_is g c m at) ∙ is));
    }
