use Rattle.bd_machine.specs.Turns.{Sight}
use Rattle.bd_turns.specs.State.{State}
use Rattle.bd_machine.proofs.engine.Parts+PlainTables+M.move_block.Given as goal

-- the state, and its own script
abbrev sight_of : State → Sight
sight_of m = record { script = m.script; state = m }

abbrev pub ghost-block_told : goal.ghost-block_told
ghost-block_told g a = sight_of g.m

abbrev pub ghost-move_in_hand : goal.ghost-move_in_hand
ghost-move_in_hand g a = g.m
