-- What a call waits for, as its next action tells.
use Rattle.std.specs.Prelude.{ℕ, Option, None, Some}
use Rattle.std.specs.Option.{option_and_then}
use Rattle.bd_entry.specs.declared.act.Act.{Act}
use Rattle.bd_entry.specs.declared.act.Act.TheVariants as acts
use Rattle.bd_kernel.specs.declared.blocker.Blocker.{Blocker}
use Rattle.bd_kernel.specs.declared.blocker.Blocker.TheVariants as blockers
use Rattle.bd_kernel.specs.declared.pieces.DeviceAct.{DeviceAct}
use Rattle.bd_kernel.specs.declared.pieces.DeviceAct.TheVariants as device

-- the action that waits for the holder of a file, where this is the file and its holder
abbrev pub busy_by : ℕ × ℕ → Act
busy_by held = acts.Busy held.0 held.1

-- the action of the call that this is
abbrev pub act_for_device : DeviceAct → Act
act_for_device (device.Submit piece) = acts.Submit piece
act_for_device device.Poll = acts.Poll

-- what an action waits for, if it does
abbrev pub blocker_of : Act → Option Blocker
blocker_of (acts.Busy file holder) = Some (blockers.Holder file holder)
blocker_of acts.Poll = Some blockers.Completion
blocker_of act = None

-- what the next action of a call waits for, if there is one and it does
abbrev pub blocker_in : Option Act → Option Blocker
blocker_in act = option_and_then blocker_of act
