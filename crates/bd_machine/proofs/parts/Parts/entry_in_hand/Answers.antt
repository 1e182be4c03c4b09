-- The entry is the one of the step, by the command in hand and the block that its engine's translation names.
use Rattle.std.proofs.Common.{◌≡◌, ℕ, ◌<◌, length, arith, refl, sym, ap, ◌∙◌, subst}
use Rattle.std.specs.Prelude.{IsSome, is_some}
use Rattle.std.specs.Option.{option_copied}
use Rattle.std.proofs.lemmas.Option.{same_Some, slice_get_within}
use Rattle.std.proofs.lemmas.Result.{IfOk-weaker}
use Rattle.bd_entry.specs.declared.entry.Entry.{Entry}
use Rattle.bd_entry.specs.Calls.{call_at}
use Rattle.bd_machine.specs.Engines.{IsMoveInHand, IsMoveOf}
use Rattle.bd_machine.specs.declared.process.Hand.{Hand}
use Rattle.bd_machine.proofs.EngineMisses.{call_there}
use Rattle.bd_machine.proofs.EngineMoves.{entry_there, is_move_of, move_at, moves_in_hand}
use Rattle.bd_machine.proofs.EngineTakes.{hand_read, read_as}
use Rattle.bd_turns.specs.State.{Moving}
use Rattle.bd_machine.proofs.parts.Parts.entry_in_hand.Goals as goal

pub call_at-call-requires : goal.call_at-call-requires
call_at-call-requires g c =
    let w = c.requires.1.1.1.engine in
    subst IsSome (sym (call_there _ c.args.self.now c.args.q Moving w c.at.result (c.at.ensures w.it w.there))) refl

pub at-at-requires : goal.at-at-requires
at-at-requires g c =
    let w = c.requires.1.1.1.engine in slice_get_within c.args.self.now.processes.items c.args.q w.it w.there

pub index-it-requires : goal.index-it-requires
index-it-requires g c =
    let w = c.requires.1.1.1.engine in
    let inside : c.args.q < length c.args.self.now.processes.items =
    slice_get_within c.args.self.now.processes.items c.args.q w.it w.there in
    let same = c.get.ensures.value in
    omega (arith, inside, same)

pub unwrap-requires : goal.unwrap-requires
unwrap-requires g c =
    let w = c.requires.1.1.1.engine in
    let read = read_as c.args.self.now c.args.q c.get.result w.it c.index-it.result.now c.get.ensures.value w.there c.index-it.ensures in
    c.as_ref.ensures.variant ∙ ap (λ p. is_some p.hand) read ∙ ap is_some w.in_hand

pub move_entry-requires : goal.move_entry-requires
move_entry-requires g c =
    let r = c.requires.1.1.1 in
    let w = r.engine in
    let x = c.args.self.now in
    let hand_is =
    hand_read x c.args.q c.get.result w.it c.index-it.result.now (option_copied c.as_ref.result) c.unwrap.result.now
    c.get.ensures.value w.there c.index-it.ensures c.as_ref.ensures.value (ap option_copied c.unwrap.ensures) in
    let there = entry_there _ x c.args.q w r.completion r.told in
    let call = c.call_at-call.result.now in
    let command = c.unwrap.result.now.command in
    λ κs within. (
      within,
      subst (λ (n : ℕ). IsMoveOf x.disk call c.at-at.result command n (move_at g.m call c.at-at.result command n)) r.block_is
          (is_move_of _ x c.args.q w r.completion r.told there.0 there.1 c.call_at-call.result.now c.at-at.result c.unwrap.result.now.command
          (ap (call_at c.args.script.now) (c.at-at.ensures w.it w.there ∙ sym (c.at.ensures w.it w.there)) ∙ c.call_at-call.ensures)
          (c.at-at.ensures w.it w.there)
          (ap (λ (h : Hand). h.command) (same_Some c.unwrap.result.now w.hand (sym hand_is ∙ w.in_hand)))),
    )

pub returns : goal.returns
returns g c =
    let r = c.requires.1.1.1 in
    let w = r.engine in
    let x = c.args.self.now in
    let hand_is =
    hand_read x c.args.q c.get.result w.it c.index-it.result.now (option_copied c.as_ref.result) c.unwrap.result.now
    c.get.ensures.value w.there c.index-it.ensures c.as_ref.ensures.value (ap option_copied c.unwrap.ensures) in
    let there = entry_there _ x c.args.q w r.completion r.told in
    IfOk-weaker c.move_entry.result
    (λ (entry : Entry). entry ≡ (move_at g.m c.call_at-call.result.now c.at-at.result c.unwrap.result.now.command c.args.block).entry)
    (λ (entry : Entry). IsMoveInHand g.m c.args.q entry)
    (λ entry is.
    moves_in_hand _ x c.args.q w r.completion r.told there.0 there.1 c.call_at-call.result.now c.at-at.result c.unwrap.result.now.command
    (ap (call_at c.args.script.now) (c.at-at.ensures w.it w.there ∙ sym (c.at.ensures w.it w.there)) ∙ c.call_at-call.ensures)
    (c.at-at.ensures w.it w.there)
    (ap (λ (h : Hand). h.command) (same_Some c.unwrap.result.now w.hand (sym hand_is ∙ w.in_hand))) entry
    (is ∙ ap (λ (n : ℕ). (move_at g.m c.call_at-call.result.now c.at-at.result c.unwrap.result.now.command n).entry) (sym r.block_is)))
    c.move_entry.ensures
