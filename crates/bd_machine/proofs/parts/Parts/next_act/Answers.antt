use Rattle.std.proofs.Common.{◌≡◌, Option, Some, sym, ap, ◌∙◌}
use Rattle.std.specs.Prelude.{is_some}
use Rattle.std.specs.Option.{option_copied}
use Rattle.bd_entry.specs.declared.act.Act.{Act}
use Rattle.bd_machine.specs.Turns.{IsAt}
use Rattle.bd_machine.proofs.ProcessorActs.{acts_next}
use Rattle.bd_machine.proofs.ProcessorBegins.{begun_there, process_read}
use Rattle.bd_machine.proofs.ProcessorNext.{here_for, next_shown, place_for}
use Rattle.bd_machine.proofs.parts.Parts.next_act.Goals as goal

pub unwrap-requires : goal.unwrap-requires
unwrap-requires g c =
    let x = c.args.self.now in
    let script = g.g.script in
    let m = g.g.state in
    let process = c.args.p in
    let is : IsAt g.T.Tables script x m = c.requires.1.1.1.0 in
    let y = c.index.result.now in
    let kept = c.unwrap-call.result.now in
    let there = process_read x process c.get.result y c.get.ensures.value (begun_there x process c.requires.1.1.1.1) c.index.ensures in
    let begun : y.call ≡ Some kept = sym c.as_ref.ensures.value ∙ ap (λ (o : _). option_copied o) c.unwrap-call.ensures in
    let found = here_for script x m process y kept is.shows there begun in
    let p = place_for m process found.call found.before in
    let next = next_shown script x m p y kept c.fs.result.now c.descriptors.result.now c.next.result found.here c.fs.ensures
    c.descriptors.ensures c.next.ensures in
    let act = acts_next is.reached.0 m p is.reached.1 found.here.runs in
    ap (λ (o : Option Act). is_some o) (next ∙ act.1)

pub returns : goal.returns
returns g c =
    let x = c.args.self.now in
    let script = g.g.script in
    let m = g.g.state in
    let process = c.args.p in
    let is : IsAt g.T.Tables script x m = c.requires.1.1.1.0 in
    let y = c.index.result.now in
    let kept = c.unwrap-call.result.now in
    let there = process_read x process c.get.result y c.get.ensures.value (begun_there x process c.requires.1.1.1.1) c.index.ensures in
    let begun : y.call ≡ Some kept = sym c.as_ref.ensures.value ∙ ap (λ (o : _). option_copied o) c.unwrap-call.ensures in
    let found = here_for script x m process y kept is.shows there begun in
    let p = place_for m process found.call found.before in
    let next = next_shown script x m p y kept c.fs.result.now c.descriptors.result.now c.next.result found.here c.fs.ensures
    c.descriptors.ensures c.next.ensures in
    record { place = p; running_is = found.here.runs; next = sym next ∙ c.unwrap.ensures }
