-- A command is taken, and entered for.
use Rattle.std.proofs.Common.{rules, ◌≡◌, true, false}
use Rattle.std.specs.Prelude.{is_none}
use Rattle.bd_machine.proofs.EngineTakings.{none_taken, same_log, step_after, taken_working}
use Rattle.bd_machine.proofs.engine.Parts+PlainTables+M.begin_walk.Goals as goal

pub returns-then-is_none : goal.returns-then-is_none
returns-then-is_none g c =
    let w = c.requires.1.1.0 in
    let is : is_none c.take.result ≡ true = search rules in
    none_taken g.g c.args.self.now c.take.new.self c.args.q w c.take.result (c.take.ensures w.it w.there) is

pub enter-requires : goal.enter-requires
enter-requires g c =
    let w = c.requires.1.1.0 in
    let is : is_none c.take.result ≡ false = search rules in
    λ κs within. (
      within.0,
      (
        within.1,
        taken_working g.g c.args.self.now c.take.new.self c.args.q w c.take.result (c.take.ensures w.it w.there)
            is c.requires.1.1.1,
      ),
    )

pub returns : goal.returns
returns g c =
    let w = c.requires.1.1.0 in
    step_after g.g c.args.self.now c.take.new.self c.enter.new.self c.args.q c.enter.result
    (same_log c.args.self.now c.take.new.self c.args.q w.it c.take.result (c.take.ensures w.it w.there)) c.enter.ensures
