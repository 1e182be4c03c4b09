-- The whole turn of an engine of which nothing is told, from its step and the count of its turn.
use Rattle.std.proofs.Common.{ℕ, ◌+◌, ◌<◌, [], ◌∷◌, ◌++◌, length, refl, sym, ap, ◌∙◌}
use Rattle.bd_machine.specs.declared.parts.Parts.{Parts}
use Rattle.bd_machine.specs.Engines.{TakesStep, TookRowOf}
use Rattle.bd_machine.specs.Logs.{LogState}
use Rattle.bd_machine.specs.Turns.{CountsTurn, EndsTurn, IsAt, Sight, TookTurn}
use Rattle.bd_machine.proofs.EngineTurns.{turn_taken}
use Rattle.bd_machine.proofs.ShowingMachine.{told_shows}
use Rattle.bd_tables.specs.declared.sides.Tables as sides
use Rattle.bd_turns.specs.declared.turn.Event.{Event}
use Rattle.bd_turns.specs.declared.turn.Row.{Row}
use Rattle.bd_turns.specs.declared.turn.Turn.TheVariants.{Did}
use Rattle.bd_turns.specs.Turns.{after_turn}

-- a step and the count of its turn are a turn
pub turn_counted : {T M P : Type 0} {K : sides.Ghosts T P} (g : Sight) (x y z : Parts T M P) (q : ℕ) (row : Row) →
    IsAt K g.script x g.state → q < length g.script.processes → TakesStep K g x y q row → CountsTurn y z q →
    TookRowOf K g.script x z g.state q row
turn_counted {T} {M} {P} {K} g x y z q row at inside t counts =
    let actor : ℕ = length y.processes.items + q in
    let event : Event = record { turn = y.log.turns; actor = actor; row = row } in
    let told : Parts T M P = record z { log = record z.log { events = z.log.events ++ event ∷ [] } } in
    let ends : EndsTurn y told q actor row = record {
      tables = counts.tables;
      log = record {
        entries = ap (λ (l : LogState). l.entries) counts.log;
        events = ap (λ (l : LogState). l.events ++ event ∷ []) counts.log;
        turns = ap (λ (l : LogState). l.turns) counts.log;
      };
      others = record { count = counts.others.count; others = counts.others.others };
      mine = counts.mine;
      disk = counts.disk;
    } in
    let took : TookTurn K g.script x told g.state (length g.script.processes + q) (Did row) =
    turn_taken g x y told q actor row at inside t refl ends in
    record {
      shows = told_shows g.script told z (after_turn g.state (length g.script.processes + q)) z.log refl took.shows refl;
      answer = sym took.answer;
      events = ap (λ (l : LogState). l.events) counts.log ∙ t.events;
      turns = ap (λ (l : LogState). l.turns) counts.log ∙ t.turns;
    }
