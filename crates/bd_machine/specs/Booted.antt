-- The parts of a machine before its first turn.
use Rattle.std.specs.Prelude.{◌≡◌, ◌⊎◌, ℕ, ◌<◌, List, [], length, All, Option, None}
use Rattle.bd_base.specs.declared.volume.Inode.{Inode}
use Rattle.bd_base.specs.declared.script.Script.{Script}
use Rattle.bd_base.specs.declared.volume.Volume.{Volume}
use Rattle.bd_kernel.specs.Disks.{unused_disk}
use Rattle.bd_machine.specs.declared.parts.Parts.{Parts}
use Rattle.bd_machine.specs.declared.process.Process.{Process}
use Rattle.bd_queue_pair.specs.Queues.{no_commands}
use Rattle.bd_tables.specs.declared.sides.Tables as sides
use Rattle.bd_turns.specs.State.{new_tables}

-- the volume of these files, with these bytes
abbrev pub volume_on : ℕ → List (Option Inode) → List ℕ → Volume
volume_on total inodes bytes = record { total = total; inodes = inodes; bytes = bytes }

-- a process before its first turn
pub record IsNew {P : Type 0} (x : Process P) : Type 0 where
  pub ended : x.ended ≡ 0
  pub used : x.used ≡ 0
  pub call : x.call ≡ None
  pub queue : x.queue ≡ no_commands
  pub hand : x.hand ≡ None
  pub pass : x.pass ≡ None

-- the tables are those of a machine that runs the script, before its first turn: nothing is attached, cached or walked,
-- and each pass lies in them, or the engines go their own way
pub record AreNew {T P : Type 0} (K : sides.Ghosts T P) (script : Script) (t : T) : Type 0 where
  pub shows : K.shows t (new_tables script)
  pub passes : (process : ℕ) → process < length script.processes → K.apart t ⊎ K.lies t process

-- the parts are those of a machine that runs the script over the volume, before its first turn
pub record IsBooted {T M P : Type 0} (K : sides.Ghosts T P) (v : Volume) (script : Script) (x : Parts T M P)
    : Type 0 where
  pub disk : x.disk ≡ unused_disk v.total v.inodes v.bytes (length script.processes)
  pub tables : AreNew K script x.tables
  pub count : length x.processes.items ≡ length script.processes
  pub new : All IsNew x.processes.items
  pub entries : x.log.entries ≡ []
  pub events : x.log.events ≡ []
  pub turns : x.log.turns ≡ 0
