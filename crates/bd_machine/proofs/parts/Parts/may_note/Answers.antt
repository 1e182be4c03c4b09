-- What the kernel's call tells is what the journal may note.
use Rattle.std.proofs.Common.{◌≡◌, sym, ap, ◌∙◌, subst}
use Rattle.std.specs.Prelude.{is_some}
use Rattle.std.specs.Option.{option_copied}
use Rattle.std.proofs.lemmas.Option.{same_Some}
use Rattle.bd_kernel.specs.Turns.{MayMissAt}
use Rattle.bd_machine.specs.declared.process.Hand.{Hand}
use Rattle.bd_machine.proofs.EngineAsks.{may_note_is, working_with}
use Rattle.bd_machine.proofs.EngineTakes.{hand_read, read_as}
use Rattle.bd_machine.proofs.parts.Parts.may_note.Goals as goal

pub unwrap-running-requires : goal.unwrap-running-requires
unwrap-running-requires g c =
    let r = c.requires.1.1.1 in
    let has = r.has in
    let known = working_with g.g c.args.self.now c.args.q has.it r.hand r.at has.there has.in_hand in
    let read = read_as c.args.self.now c.args.q c.get.result has.it c.index-it.result.now c.get.ensures.value has.there c.index-it.ensures in
    c.as_ref-2.ensures.variant ∙ ap (λ p. is_some p.call) read ∙ ap is_some known.call_is

pub returns : goal.returns
returns g c =
    let r = c.requires.1.1.1 in
    let has = r.has in
    let x = c.args.self.now in
    let known = working_with g.g x c.args.q has.it r.hand r.at has.there has.in_hand in
    let read = read_as x c.args.q c.get.result has.it c.index-it.result.now c.get.ensures.value has.there c.index-it.ensures in
    let call_is =
    sym (ap (λ p. p.call) read) ∙ sym c.as_ref-2.ensures.value ∙ ap option_copied c.unwrap-running.ensures in
    let hand_is =
    hand_read x c.args.q c.get.result has.it c.index-it.result.now (option_copied c.as_ref.result) c.unwrap.result.now
    c.get.ensures.value has.there c.index-it.ensures c.as_ref.ensures.value (ap option_copied c.unwrap.ensures) in
    λ hand in_hand.
    let same : c.unwrap.result.now ≡ hand =
    same_Some c.unwrap.result.now hand
    (sym hand_is ∙ ap (λ p. p.hand) (same_Some has.it in_hand.it (sym has.there ∙ in_hand.there)) ∙ in_hand.in_hand) in
    may_note_is g.g x c.args.q has.it hand c.fs.result.now c.descriptors.result.now c.unwrap-running.result.now c.args.found c.may_miss.result
    known r.at call_is c.fs.ensures c.descriptors.ensures
    (subst (λ (h : Hand). MayMissAt c.fs.result.now c.descriptors.result.now c.unwrap-running.result.now h.command.piece c.args.found c.may_miss.result)
    same c.may_miss.ensures)
