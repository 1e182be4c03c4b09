-- The piece is that of the command in hand, and the place that of the running call.
use Rattle.std.proofs.Common.{refl, sym, ap, ◌∙◌}
use Rattle.std.specs.Prelude.{is_some}
use Rattle.std.specs.Option.{option_copied}
use Rattle.std.proofs.lemmas.Option.{same_Some}
use Rattle.bd_machine.specs.declared.process.Hand.{Hand}
use Rattle.bd_machine.proofs.EngineMisses.{misses}
use Rattle.bd_machine.proofs.EngineTakes.{hand_read, read_as}
use Rattle.bd_machine.proofs.parts.Parts.miss_entry.Goals as goal

pub unwrap-requires : goal.unwrap-requires
unwrap-requires g c =
    let w = c.requires.1.1.1.engine in
    let read = read_as c.args.self.now c.args.q c.get.result w.it c.index-it.result.now c.get.ensures.value w.there c.index-it.ensures in
    c.as_ref.ensures.variant ∙ ap (λ p. is_some p.hand) read ∙ ap is_some w.in_hand

pub returns : goal.returns
returns g c =
    let r = c.requires.1.1.1 in
    let w = r.engine in
    let hand_is =
    hand_read c.args.self.now c.args.q c.get.result w.it c.index-it.result.now (option_copied c.as_ref.result) c.unwrap.result.now
    c.get.ensures.value w.there c.index-it.ensures c.as_ref.ensures.value (ap option_copied c.unwrap.ensures) in
    misses g.g c.args.self.now c.args.q w c.args.found _ c.at-at.result c.unwrap.result.now.command.piece r.found_is
    (c.at-at.ensures w.it w.there)
    (ap (λ (h : Hand). h.command.piece) (same_Some c.unwrap.result.now w.hand (sym hand_is ∙ w.in_hand))) refl
