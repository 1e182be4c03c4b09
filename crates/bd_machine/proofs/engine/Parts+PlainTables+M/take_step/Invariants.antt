use Rattle.bd_machine.specs.Turns.{Sight}
use Rattle.bd_turns.specs.State.{State}
use Rattle.bd_machine.proofs.engine.Parts+PlainTables+M.take_step.Given as goal

-- the state, and its own script
abbrev sight_of : State → Sight
sight_of m = record { script = m.script; state = m }

abbrev pub ghost-begin_walk : goal.ghost-begin_walk
ghost-begin_walk g a = sight_of g.m

abbrev pub ghost-enter : goal.ghost-enter
ghost-enter g a = sight_of g.m

abbrev pub ghost-look : goal.ghost-look
ghost-look g a = sight_of g.m

abbrev pub ghost-read_entry : goal.ghost-read_entry
ghost-read_entry g a = sight_of g.m

abbrev pub ghost-fill : goal.ghost-fill
ghost-fill g a = sight_of g.m

abbrev pub ghost-move_block : goal.ghost-move_block
ghost-move_block g a = g.m

abbrev pub ghost-note_found : goal.ghost-note_found
ghost-note_found g a = sight_of g.m

abbrev pub ghost-retire : goal.ghost-retire
ghost-retire g a = sight_of g.m

abbrev pub ghost-finish : goal.ghost-finish
ghost-finish g a = sight_of g.m
