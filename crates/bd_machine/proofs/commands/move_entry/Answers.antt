use Rattle.bd_machine.proofs.EngineEntries.{block_there}
use Rattle.bd_machine.proofs.commands.move_entry.Goals as goal

pub read-requires : goal.read-requires
read-requires g c = block_there c.args.disk.now c.args.call.now c.args.at c.args.command.now c.args.block g.g c.requires.1
