use Rattle.bd_machine.proofs.ShowingMachine.{boot_at, boot_kept, made_booted}
use Rattle.bd_machine.proofs.machine.Machine.boot.Goals as goal

pub invariant_of-result : goal.invariant_of-result
invariant_of-result g c =
    boot_kept _ c.args.script _ c.requires.volume c.requires.script c.requires.built
    (made_booted _ c.args.script _ c.len-count.result c.len-count.ensures c.in_ok-disk.ensures c.requires.tables
    c.in_ok-processes.ensures.count c.in_ok-processes.ensures.new c.new-2.ensures.entries c.new-2.ensures.events
    c.new-2.ensures.turns)

pub returns-clause-booted : goal.returns-clause-booted
returns-clause-booted g c =
    made_booted _ c.args.script _ c.len-count.result c.len-count.ensures c.in_ok-disk.ensures c.requires.tables
    c.in_ok-processes.ensures.count c.in_ok-processes.ensures.new c.new-2.ensures.entries c.new-2.ensures.events
    c.new-2.ensures.turns

pub returns-clause-shown : goal.returns-clause-shown
returns-clause-shown g c =
    boot_at _ c.args.script _ c.requires.volume c.requires.script c.requires.built
    (made_booted _ c.args.script _ c.len-count.result c.len-count.ensures c.in_ok-disk.ensures c.requires.tables
    c.in_ok-processes.ensures.count c.in_ok-processes.ensures.new c.new-2.ensures.entries c.new-2.ensures.events
    c.new-2.ensures.turns)
