-- The whole turn of an engine, from its step and the end of its turn.
use Rattle.std.proofs.Common.{◌≡◌, ℕ, ◌+◌, ◌-◌, ◌*◌, ◌<◌, ◌≤◌, List, [], ◌∷◌, ◌++◌, length, Option, Some, sym, ap, ◌∙◌, subst, arith}
use Rattle.std.specs.Prelude.{nat_lt}
use Rattle.std.specs.Option.{option_map_or, option_to_list}
use Rattle.std.proofs.lemmas.Bool.{cond-false, cond-true, le-ltb, lt-ltb}
use Rattle.std.proofs.lemmas.List.{append-nil}
use Rattle.bd_base.specs.declared.journal.At.{At}
use Rattle.bd_base.specs.declared.script.Script.{Script}
use Rattle.bd_entry.specs.Calls.{Place}
use Rattle.bd_machine.specs.declared.parts.Parts.{Parts}
use Rattle.bd_machine.specs.Engines.{TakesStep, state_stepped}
use Rattle.bd_machine.specs.Logs.{LogState, TellsSame}
use Rattle.bd_machine.specs.Shows.{Shows}
use Rattle.bd_machine.specs.Turns.{EndsTurn, HasBegun, IsAt, Sight, StaysAt, TookTurn}
use Rattle.bd_machine.proofs.Showing.{end_step}
use Rattle.bd_turns.specs.declared.turn.Event.{Event}
use Rattle.bd_turns.specs.declared.turn.Row.{Row}
use Rattle.bd_turns.specs.declared.turn.Turn.TheVariants.{Did, Idle}
use Rattle.bd_turns.specs.Engines.{Step, engine_step}
use Rattle.bd_turns.specs.State.{State, running}
use Rattle.bd_turns.specs.Turns.{Acting, Nothing, Outcome, after_effect, after_step, answer_in, engine_outcome, invalidation_outcome, outcome_of, process_count, processor_outcome, state_after}
use Rattle.bd_turns.proofs.RunningPlaces.{runs_at}
use Rattle.bd_tables.specs.declared.sides.Tables as sides

-- ---- the outcome

-- the actor of this number is the engine of the process
engine_actor : (m : State) (q : ℕ) → q < process_count m → outcome_of m (process_count m + q) ≡ engine_outcome m q
engine_actor m q inside =
    let n : ℕ = process_count m in
    let past : n ≤ n + q = omega arith in
    let within : n + q < 2 * n = omega (arith, inside) in
    let number : n + q - n ≡ q = omega arith in
    cond-false (nat_lt (n + q) n) (processor_outcome m (n + q)) _ (le-ltb (n + q) n past)
    ∙ cond-true (nat_lt (n + q) (2 * n)) (engine_outcome m (n + q - n)) (invalidation_outcome m) (lt-ltb (n + q) (2 * n) within)
    ∙ ap (engine_outcome m) number

-- its step is what its turn comes to
engine_acts : (m : State) (q : ℕ) (p : Place) (step : Step) → running m q ≡ Some p → engine_step m p ≡ Some step →
    engine_outcome m q ≡ Acting step.row (after_step m p step) (option_to_list step.entry)
engine_acts m q p step runs steps =
    let of_step : Place → Option Step → Outcome =
    λ p o. option_map_or (λ (step : Step). Acting step.row (after_step m p step) (option_to_list step.entry)) o Nothing in
    ap (λ (o : Option Place). option_map_or (λ (p : Place). of_step p (engine_step m p)) o Nothing) runs ∙ ap (of_step p) steps

-- the same of the actor in the script
acts_as : {T M P : Type 0} {K : sides.Ghosts T P} (g : Sight) (x : Parts T M P) (q : ℕ) → Shows K g.script x g.state → q < length g.script.processes →
    (outcome : Outcome) →
    engine_outcome g.state q ≡ outcome → outcome_of g.state (length g.script.processes + q) ≡ outcome
acts_as g x q shows inside outcome is =
    ap (λ (script : Script). outcome_of g.state (length script.processes + q)) (sym shows.script_is)
    ∙ engine_actor g.state q (subst (λ (script : Script). q < length script.processes) (sym shows.script_is) inside) ∙ is

-- ---- the turn

-- a step and the end of its turn are a turn
pub turn_taken : {T M P : Type 0} {K : sides.Ghosts T P} (g : Sight) (x y z : Parts T M P) (q actor : ℕ) (row : Row) → IsAt K g.script x g.state →
    q < length g.script.processes →
    TakesStep K g x y q row → actor ≡ length y.processes.items + q → EndsTurn y z q actor row →
    TookTurn K g.script x z g.state (length g.script.processes + q) (Did row)
turn_taken {T} {M} {P} {K} g x y z q actor row at inside t actor_is ends =
    let m : State = g.state in
    let p : Place = t.place in
    let process_is : p.at.process ≡ q = ap (λ (at : At). at.process) (runs_at m q p t.running_is).at_is in
    let number : actor ≡ length g.script.processes + q = actor_is ∙ ap (λ (n : ℕ). n + q) t.shows.count in
    let outcome : outcome_of m (length g.script.processes + q) ≡ Acting t.step.row (after_step m p t.step) (option_to_list t.step.entry) =
    acts_as g x q at.shows inside (Acting t.step.row (after_step m p t.step) (option_to_list t.step.entry))
    (engine_acts m q p t.step t.running_is t.stepping) in
    let shown : Shows K g.script z (after_effect (state_stepped m p t.step) p) =
    end_step g.script y z (state_stepped m p t.step) p t.before actor row t.shows t.still (subst (HasBegun y) (sym process_is) t.begun) t.later
    (subst (λ (n : ℕ). EndsTurn y z n actor row) (sym process_is) ends) in
    record {
      shows = subst (Shows K g.script z) (sym (ap (state_after m) outcome)) shown;
      answer = sym (ap answer_in outcome ∙ ap Did t.row_is);
      events =
          ends.log.events ∙ ap (λ (l : List Event). l ++ (record { turn = y.log.turns; actor = actor; row = row }) ∷ []) t.events
          ∙ ap (λ (n : ℕ). x.log.events ++ (record { turn = n; actor = actor; row = row }) ∷ []) t.turns
          ∙ ap (λ (n : ℕ). x.log.events ++ (record { turn = x.log.turns; actor = n; row = row }) ∷ []) number;
      turns = ends.log.turns ∙ t.turns;
    }

-- an engine that has nothing to do is idle
pub turn_idle : {T M P : Type 0} {K : sides.Ghosts T P} (g : Sight) (x y : Parts T M P) (q : ℕ) → IsAt K g.script x g.state → q < length g.script.processes →
    (engine_outcome g.state q ≡ Nothing) × StaysAt K g.script x y g.state → TookTurn K g.script x y g.state (length g.script.processes + q) Idle
turn_idle {T} {M} {P} {K} g x y q at inside idle =
    let m : State = g.state in
    let outcome = acts_as g x q at.shows inside Nothing idle.0 in
    record {
      shows = subst (Shows K g.script y) (sym (ap (state_after m) outcome)) idle.1.shows;
      answer = sym (ap answer_in outcome);
      events = idle.1.events ∙ sym (append-nil x.log.events);
      turns = idle.1.turns;
    }

-- ---- the log

-- room in the log changes nothing of what the parts show
pub shows_log : {T M P : Type 0} {K : sides.Ghosts T P} (script : Script) (x : Parts T M P) (m : State) (l : LogState) → TellsSame x.log l →
    Shows K script x m → Shows K script (record x { log = l }) m
shows_log script x m l same shows = record {
  script_is = shows.script_is;
  disk = shows.disk;
  users = shows.users;
  holders = shows.holders;
  journal = shows.journal ∙ sym same.entries;
  tables = shows.tables;
  posted = shows.posted;
  count = shows.count;
  progresses = shows.progresses;
  each = shows.each;
}
