use Rattle.std.proofs.Common.{ℕ, List, ◌∙◌, ap, get_or, sym}
use Rattle.bd_base.specs.declared.script.Process.{Process as ScriptProcess}
use Rattle.bd_turns.specs.State.{Moving}
use Rattle.bd_machine.proofs.EngineMisses.{command_noted, has_begun}
use Rattle.bd_machine.proofs.EngineMoves.{can_move, move_piece, moves_on, user_is}
use Rattle.bd_machine.proofs.parts.Parts.move_in_hand.Goals as goal

pub change-requires : goal.change-requires
change-requires g c = can_move _ c.args.self.now c.args.q c.requires.1.1.1.engine c.in_ok-entry.entry c.in_ok-entry.ensures

pub note-requires-clause-begun : goal.note-requires-clause-begun
note-requires-clause-begun g c =
    let begun = has_begun _ c.args.self.now c.args.q Moving c.requires.1.1.1.engine in
    record { it = begun.it; there = begun.there; begun = begun.begun }

pub note-requires-clause-piece : goal.note-requires-clause-piece
note-requires-clause-piece g c = move_piece _ c.args.self.now c.args.q c.requires.1.1.1.engine c.in_ok-entry.entry c.in_ok-entry.ensures

pub answer-requires : goal.answer-requires
answer-requires g c =
    command_noted _ c.args.self.now c.args.q Moving c.requires.1.1.1.engine c.note.new.self c.change.new.self c.add.new.self c.in_ok-entry.entry c.note.ensures

pub returns-clause-ok : goal.returns-clause-ok
returns-clause-ok g c =
    let w = c.requires.1.1.1.engine in
    let is = c.in_ok-entry.ensures in
    let r = c.index-as_slice-get.result in
    let user =
    user_is _ c.args.self.now c.args.q w c.in_ok-entry.entry is (get_or c.as_slice.result.now c.get.result r).uid r
    (c.index-as_slice-get.is ∙ ap (λ (l : List ScriptProcess). get_or l c.get.result r) c.as_slice.ensures
    ∙ ap (λ (n : ℕ). get_or c.args.script.now.processes n r) c.get.ensures.value)
    (ap (λ (p : ScriptProcess). p.uid) (sym c.index-as_slice-get.is)) in
    moves_on _ c.args.self.now c.args.q w c.in_ok-entry.entry is c.change.new.self c.note.new.self c.answer.new.self c.add.new.self
    (c.in_ok-change.ensures.effect g.m.store w.at.shows.disk user) c.in_ok-change.ensures.held c.note.ensures c.add.ensures c.answer.ensures
