use Rattle.std.proofs.Common.{◌≡◌, ◌≢◌, [], Some, arith, sym, ap, ◌∙◌}
use Rattle.std.specs.Option.{option_copied}
use Rattle.std.proofs.lemmas.Bool.{false≢true}
use Rattle.bd_machine.proofs.ProcessorBegins.{begun_there, process_read}
use Rattle.bd_machine.proofs.ProcessorReady.{call_begun}
use Rattle.bd_machine.proofs.ProcessorWaits.{awaits_some, wait_for_least, wait_over}
use Rattle.bd_machine.proofs.parts.Parts.wait_for_completion.Goals as goal

pub index-it-requires : goal.index-it-requires
index-it-requires g c =
    let below = begun_there c.args.self.now c.args.p c.requires.1.1.1.1.0 in
    let count = c.args.self.now.processes.ok.0 in
    omega (arith, below, count, c.get.ensures.value)

pub returns-then-has_completed : goal.returns-then-has_completed
returns-then-has_completed g c =
    let x = c.args.self.now in
    let y = c.index-it.result.now in
    let there = process_read x c.args.p c.get.result y c.get.ensures.value (begun_there x c.args.p c.requires.1.1.1.1.0) c.index-it.ensures in
    let some : y.queue.completed ≢ [] = λ none. false≢true (sym (c.has_completed.ensures.1 none) ∙ c.if-has_completed.true) in
    wait_over g.g.script x g.g.state c.args.p y c.requires.1.1.1.0 there c.requires.1.1.1.1.1 some

pub unwrap-running-requires : goal.unwrap-running-requires
unwrap-running-requires g c =
    c.as_ref.ensures.variant
    ∙ call_begun c.args.self.now c.args.p c.get.result c.index-it.result.now c.requires.1.1.1.1.0 c.get.ensures.value c.index-it.ensures

pub least_outstanding-requires : goal.least_outstanding-requires
least_outstanding-requires g c =
    let x = c.args.self.now in
    let y = c.index-it.result.now in
    let kept = c.unwrap-running.result.now in
    let there = process_read x c.args.p c.get.result y c.get.ensures.value (begun_there x c.args.p c.requires.1.1.1.1.0) c.index-it.ensures in
    let begun : y.call ≡ Some kept = sym c.as_ref.ensures.value ∙ ap (λ (o : _). option_copied o) c.unwrap-running.ensures in
    awaits_some g.g.script x g.g.state c.args.p y c.requires.1.1.1.0 there c.requires.1.1.1.1.1 kept begun

pub returns : goal.returns
returns g c =
    let x = c.args.self.now in
    let y = c.index-it.result.now in
    let kept = c.unwrap-running.result.now in
    let there = process_read x c.args.p c.get.result y c.get.ensures.value (begun_there x c.args.p c.requires.1.1.1.1.0) c.index-it.ensures in
    let begun : y.call ≡ Some kept = sym c.as_ref.ensures.value ∙ ap (λ (o : _). option_copied o) c.unwrap-running.ensures in
    wait_for_least g.g.script x g.g.state c.args.p y c.requires.1.1.1.0 there c.requires.1.1.1.1.1 kept begun c.least_outstanding.result
    (c.has_completed.ensures.0 c.if-has_completed.false) c.least_outstanding.ensures.outstanding c.least_outstanding.ensures.least
