use Rattle.bd_machine.proofs.EngineMoves.{move_at}
use Rattle.bd_machine.proofs.parts.Parts.entry_in_hand.Given as goal

abbrev pub ghost-move_entry : goal.ghost-move_entry
ghost-move_entry g a = move_at g.m a.call.now a.at a.command.now a.block
