use Rattle.bd_turns.proofs.Booting.{boot_is_reached}
use Rattle.bd_turns.proofs.turn_laws.boot_is_reached.Goals as goal

pub returns : goal.returns
returns c = boot_is_reached
