use Rattle.bd_machine.proofs.EntriesOfActs.{attaches, closes, fd_there, maps, reads_size, sizes}
use Rattle.bd_machine.proofs.entries.entry_of_act.Goals as goal

pub number-requires : goal.number-requires
number-requires g c = fd_there _ _ _ _ _ _ _ (attaches c.in-Attach.part) _ c.requires.1 c.in-Attach.is

pub number-requires-in-Mapped : goal.number-requires-in-Mapped
number-requires-in-Mapped g c = fd_there _ _ _ _ _ _ _ (maps c.in-Mapped.count) _ c.requires.1 c.in-Mapped.is

pub number-requires-in-Sized : goal.number-requires-in-Sized
number-requires-in-Sized g c = fd_there _ _ _ _ _ _ _ (sizes c.in-Sized.size) _ c.requires.1 c.in-Sized.is

pub number-requires-in-SizeRead : goal.number-requires-in-SizeRead
number-requires-in-SizeRead g c = fd_there _ _ _ _ _ _ _ (reads_size c.in-SizeRead.size) _ c.requires.1 c.in-SizeRead.is

pub number-requires-in-Closed : goal.number-requires-in-Closed
number-requires-in-Closed g c = fd_there _ _ _ _ _ _ _ closes _ c.requires.1 c.in-Closed.is
