use Rattle.std.proofs.Common.{take}
use Rattle.bd_store.proofs.JournalWork.{IsFollowed, led_to}
use Rattle.bd_store.proofs.check.check_journal.Given as goal

abbrev pub ghost-take_entry : goal.ghost-take_entry
ghost-take_entry a = led_to a.script.now (take a.number a.entries.now) a.progress.now.store

abbrev pub invariant-loop-number : goal.invariant-loop-number
invariant-loop-number l =
    IsFollowed l.fn.volume l.script (take l.number l.entries) l.progress.store l.progress.finished.items
