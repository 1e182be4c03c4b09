-- Each turn leaves the machine at what it has come to.
use Rattle.bd_turns.specs.Reached.{TurnsKeepIt}
use Rattle.bd_turns.proofs.EngineTurns.{calls_kept}
use Rattle.bd_turns.proofs.GrowingHistories.{history_kept}
use Rattle.bd_turns.proofs.HoldsKept.{holds_kept}
use Rattle.bd_turns.proofs.LegalTurns.{turns_add_legally}
use Rattle.bd_turns.proofs.TablesKept.{tables_kept}
use Rattle.bd_turns.proofs.KeepsWithin.{within_kept}

pub turns_keep_it : TurnsKeepIt
turns_keep_it v m actor reached is_actor =
    let added = turns_add_legally v m reached in
    record {
      history = history_kept v m actor reached added is_actor;
      sound = record {
        calls = calls_kept v m actor reached added is_actor;
        tables_are = tables_kept v m actor reached added is_actor;
        holds_are = holds_kept v m actor reached added is_actor;
      };
      within = within_kept v m actor reached added is_actor;
    }
