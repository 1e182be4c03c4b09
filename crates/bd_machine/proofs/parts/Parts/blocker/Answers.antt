use Rattle.std.proofs.Common.{◌≡◌, Option, Some, sym, ap, ◌∙◌}
use Rattle.std.specs.Prelude.{is_some}
use Rattle.std.specs.Option.{option_copied}
use Rattle.bd_kernel.specs.Turns.{Progress}
use Rattle.bd_machine.specs.Turns.{IsAt}
use Rattle.bd_machine.proofs.ProcessorBegins.{begun_before, process_read, process_there}
use Rattle.bd_machine.proofs.ProcessorNext.{blocker_kept}
use Rattle.bd_machine.proofs.parts.Parts.blocker.Goals as goal

pub returns-in-Some-clause-blocker : goal.returns-in-Some-clause-blocker
returns-in-Some-clause-blocker g c =
    let x = c.args.self.now in
    let script = c.args.script.now in
    let is : IsAt g.T.Tables script x g.m = c.requires.1.1.1.0 in
    let y = c.index.result.now in
    let there = process_read x c.args.p c.get.result y c.get.ensures.value (process_there script x g.m c.args.p is.shows c.requires.1.1.1.1.0) c.index.ensures in
    let begun : y.call ≡ Some c.in-Some.running.now = sym c.as_ref.ensures.value ∙ ap (λ (o : _). option_copied o) c.in-Some.is in
    blocker_kept script x g.m c.args.p y c.in-Some.running.now c.fs.result.now c.descriptors.result.now c.blocker.result is.shows there begun
    c.fs.ensures c.descriptors.ensures c.blocker.ensures.blocker

pub returns-in-Some-clause-begun : goal.returns-in-Some-clause-begun
returns-in-Some-clause-begun g c completion =
    let x = c.args.self.now in
    let script = c.args.script.now in
    let is : IsAt g.T.Tables script x g.m = c.requires.1.1.1.0 in
    let y = c.index.result.now in
    let there = process_read x c.args.p c.get.result y c.get.ensures.value (process_there script x g.m c.args.p is.shows c.requires.1.1.1.1.0) c.index.ensures in
    let begun : y.call ≡ Some c.in-Some.running.now = sym c.as_ref.ensures.value ∙ ap (λ (o : _). option_copied o) c.in-Some.is in
    begun_before x c.args.p y there (ap (λ (o : Option Progress). is_some o) begun)
