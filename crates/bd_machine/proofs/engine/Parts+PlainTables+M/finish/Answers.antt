-- The engine has retired.
use Rattle.std.proofs.Common.{rules, refl}
use Rattle.bd_machine.specs.declared.process.Phase.TheVariants.{Completing}
use Rattle.bd_machine.proofs.EngineLooks.{in_phase}
use Rattle.bd_turns.specs.State as turns
use Rattle.bd_machine.proofs.engine.Parts+PlainTables+M.finish.Goals as goal

pub complete-requires : goal.complete-requires
complete-requires g c =
    λ κs within. (
      search rules,
      (
        within,
        (
          search rules,
          in_phase g.g c.args.self.now c.args.q Completing c.requires.1 turns.Completing refl,
        ),
      ),
    )
