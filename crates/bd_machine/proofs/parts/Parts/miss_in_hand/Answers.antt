-- The entry is noted by the running call, and the command keeps what was found.
use Rattle.bd_turns.specs.State.{Missing}
use Rattle.bd_machine.proofs.EngineMisses.{command_noted, has_begun, miss_piece, misses_on}
use Rattle.bd_machine.proofs.parts.Parts.miss_in_hand.Goals as goal

pub note-requires-clause-begun : goal.note-requires-clause-begun
note-requires-clause-begun g c = has_begun g.g c.args.self.now c.args.q Missing c.requires.1.1.1.engine

pub note-requires-clause-piece : goal.note-requires-clause-piece
note-requires-clause-piece g c =
    miss_piece g.g c.args.self.now c.args.q c.requires.1.1.1.engine c.args.found c.miss_entry-entry.result c.miss_entry-entry.ensures

pub returns : goal.returns
returns g c =
    misses_on g.g c.args.self.now c.args.q c.requires.1.1.1.engine c.args.found c.miss_entry-entry.result c.miss_entry-entry.ensures
    c.note.new.self c.answer.new.self c.add.new.self c.note.ensures c.add.ensures c.answer.ensures

pub answer-requires : goal.answer-requires
answer-requires g c =
    command_noted g.g c.args.self.now c.args.q Missing c.requires.1.1.1.engine c.note.new.self c.args.self.now.disk c.add.new.self
    c.miss_entry-entry.result c.note.ensures
