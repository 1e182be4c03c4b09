-- The laws are proved as lemmas.
use Rattle.bd_tables.proofs.KernelSound.{attach_keeps, clear_keeps, detach_keeps, drain_keeps, put_keeps, raise_keeps, sweep_keeps}
use Rattle.bd_tables.proofs.laws.the_kernel_keeps_the_tables_sound.Goals as goal

pub returns-clause-attach : goal.returns-clause-attach
returns-clause-attach c = attach_keeps

pub returns-clause-clear : goal.returns-clause-clear
returns-clause-clear c = clear_keeps

pub returns-clause-drain : goal.returns-clause-drain
returns-clause-drain c = drain_keeps

pub returns-clause-sweep : goal.returns-clause-sweep
returns-clause-sweep c = sweep_keeps

pub returns-clause-detach : goal.returns-clause-detach
returns-clause-detach c = detach_keeps

pub returns-clause-put : goal.returns-clause-put
returns-clause-put c = put_keeps

pub returns-clause-raise : goal.returns-clause-raise
returns-clause-raise c = raise_keeps
