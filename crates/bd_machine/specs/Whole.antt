-- What contracts see of a machine.
use Rattle.bd_base.specs.declared.script.Script.{Script}
use Rattle.bd_machine.specs.declared.parts.Parts.{Parts}

-- the script, and the parts that turns change
pub record Whole (T M P : Type 0) : Type 0 where
  pub script : Script
  pub parts : Parts T M P
