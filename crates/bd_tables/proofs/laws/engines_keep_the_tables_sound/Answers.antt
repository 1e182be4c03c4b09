-- The laws are proved as lemmas.
use Rattle.bd_tables.proofs.Sound.{enter_keeps, fill_keeps, look_keeps, read_keeps, retire_keeps}
use Rattle.bd_tables.proofs.laws.engines_keep_the_tables_sound.Goals as goal

pub returns-clause-enter : goal.returns-clause-enter
returns-clause-enter c = enter_keeps

pub returns-clause-look : goal.returns-clause-look
returns-clause-look c = look_keeps

pub returns-clause-read : goal.returns-clause-read
returns-clause-read c = read_keeps

pub returns-clause-fill : goal.returns-clause-fill
returns-clause-fill c = fill_keeps

pub returns-clause-retire : goal.returns-clause-retire
returns-clause-retire c = retire_keeps
