use Rattle.std.proofs.Common.{◌≡◌, List, ℕ, subst, ap, ◌∙◌}
use Rattle.bd_base.specs.declared.script.Script.{Script}
use Rattle.bd_base.specs.declared.volume.Volume.{Volume}
use Rattle.bd_base.specs.Scripts.{IsWithinLimits}
use Rattle.bd_base.specs.Volumes.{IsSoundVolume}
use Rattle.bd_machine.specs.Booted.{IsBooted, volume_on}
use Rattle.bd_machine.specs.Machine.{PlainWhole, booted, shown}
use Rattle.bd_machine.specs.Shows.{plain_sides}
use Rattle.bd_machine.specs.Turns.{AreBuilt}
use Rattle.bd_tables.specs.Plain.{new_plain}
use Rattle.bd_machine.proofs.CourseRounds.{booted_at_start, booted_has_run, booted_is_task}
use Rattle.bd_machine.proofs.ShowingBoot.{plain_are_new}
use Rattle.bd_machine.proofs.ShowingMachine.{boot_shown}
use Rattle.bd_machine.proofs.course.replay.Goals as goal

-- the machine that was made shows the state before the first turn
made_booted : {M : Type 0} (v : Volume) (script : Script) (x : PlainWhole M) (bytes : List ℕ) → IsSoundVolume v →
    IsWithinLimits script → AreBuilt script → bytes ≡ v.bytes → x.script ≡ script →
    IsBooted plain_sides (volume_on v.total v.inodes bytes) script x.parts → shown x ≡ booted v script
made_booted v script x bytes sound limits built same script_is is =
    boot_shown v script x sound limits built script_is
    (subst (λ (b : List ℕ). IsBooted plain_sides (volume_on v.total v.inodes b) script x.parts) same is)

pub boot-requires-clause-tables : goal.boot-requires-clause-tables
boot-requires-clause-tables c =
    plain_are_new c.args.script c.in_ok-tables.tables (c.in_ok-tables.ensures ∙ ap new_plain c.len.ensures)

pub run-requires : goal.run-requires
run-requires c =
    let at = made_booted c.args.volume c.args.script c.in_ok-machine.machine c.new-2.result c.requires.volume c.requires.script
    c.requires.built c.new-2.ensures c.in_ok-machine.ensures.script c.in_ok-machine.ensures.booted in (
      booted_is_task c.args.volume c.args.script (shown c.in_ok-machine.machine) c.requires.volume c.requires.script at,
      booted_at_start c.args.volume c.args.script (shown c.in_ok-machine.machine) at,
    )

pub returns : goal.returns
returns c =
    let at = made_booted c.args.volume c.args.script c.in_ok-machine.machine c.new-2.result c.requires.volume c.requires.script
    c.requires.built c.new-2.ensures c.in_ok-machine.ensures.script c.in_ok-machine.ensures.booted in
    booted_has_run c.args.volume c.args.script (shown c.in_ok-machine.machine) (shown c.run.new.machine) c.requires.volume
    c.requires.script at c.in_ok-run.ensures
