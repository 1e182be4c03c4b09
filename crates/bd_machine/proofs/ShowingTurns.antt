-- What the parts of a machine are after a turn.
use Rattle.std.proofs.Common.{◌≡◌, ℕ, ◌+◌, ◌*◌, ◌<◌, ◌≤◌, ◌++◌, length, Result, Ok, Err, IfOk, OnErr, arith, refl, sym, ap, ◌∙◌, subst}
use Rattle.bd_base.specs.declared.script.Script.{Script}
use Rattle.bd_machine.specs.declared.parts.Parts.{Parts}
use Rattle.bd_machine.specs.Kept.{IsKept, state_shown}
use Rattle.bd_machine.specs.Logs.{LogState}
use Rattle.bd_machine.specs.Machine.{shown, stepped, turns_after}
use Rattle.bd_machine.specs.Shows.{PlainParts, plain_sides}
use Rattle.bd_machine.specs.Turns.{IsAt, StaysAt, TookTurn}
use Rattle.bd_machine.proofs.ShowingMachine.{at_kept, state_is, told_shows}
use Rattle.bd_tables.specs.declared.sides.Tables as sides
use Rattle.bd_turns.proofs.FallingRest.{rest_falls}
use Rattle.bd_turns.proofs.TurnsKept.{turns_keep_it}
use Rattle.bd_turns.specs.declared.turn.Turn.{Turn}
use Rattle.bd_turns.specs.Course.{event_of}
use Rattle.bd_turns.specs.Reached.{IsActor}
use Rattle.bd_turns.specs.State.{State}
use Rattle.bd_turns.specs.Turns.{LowersRest, after_turn, answer_of}

-- a fact that holds whatever the result is
pub on_err : {T E : Type 0} (r : Result T E) (P : Type 0) → P → OnErr r P
on_err (Ok x) P is = tt
on_err (Err e) P is = is

-- where nothing was done
module _ {M : Type 0} (script : Script) (x y : PlainParts M) (kept : IsKept plain_sides script x)
    (stays : StaysAt plain_sides script x y (state_shown script x)) where
  pub stayed : IsAt plain_sides script y (state_shown script x)
  stayed =
      let was = at_kept script x kept in
      record { shows = stays.shows; reached = was.reached; built = was.built }

  pub same_progress : shown (record { script = script; parts = y }) ≡ shown (record { script = script; parts = x })
  same_progress = λ i. record {
    state = sym (state_is script y (state_shown script x) stayed) i;
    trace = stays.events i;
    turns = stays.turns i;
  }

-- where a turn was taken, and counted
module _ {M : Type 0} (script : Script) (x y : PlainParts M) (log : LogState) (actor : ℕ) (turn : Turn)
    (kept : IsKept plain_sides script x) (is_actor : IsActor (state_shown script x) actor)
    (took : TookTurn plain_sides script x y (state_shown script x) actor turn)
    (counted : log ≡ record y.log { turns = turns_after y.log.turns }) where
  abbrev m : State
  m = state_shown script x

  was : IsAt plain_sides script x m
  was = at_kept script x kept

  abbrev z : PlainParts M
  z = record y { log = log }

  pub stepped_to : IsAt plain_sides script z (after_turn m actor)
  stepped_to =
      record {
        shows = told_shows script y z (after_turn m actor) log (ap (λ (l : LogState). l.entries) counted) took.shows refl;
        reached = (was.reached.0, turns_keep_it was.reached.0 m actor was.reached.1 is_actor);
        built = was.built;
      }

  same_state : after_turn m actor ≡ state_shown script z
  same_state = state_is script z (after_turn m actor) stepped_to

  pub next_progress : shown (record { script = script; parts = z }) ≡ stepped (shown (record { script = script; parts = x })) actor
  next_progress = λ i. record {
    state = sym same_state i;
    trace = events i;
    turns = turns i;
  }
    where
      events : log.events ≡ x.log.events ++ event_of x.log.turns actor (answer_of m actor)
      events =
          ap (λ (l : LogState). l.events) counted ∙ took.events
          ∙ ap (λ (t : Turn). x.log.events ++ event_of x.log.turns actor t) took.answer

      turns : log.turns ≡ turns_after x.log.turns
      turns = ap (λ (l : LogState). l.turns) counted ∙ ap turns_after took.turns

  pub rest_lower : LowersRest turn m (state_shown script z)
  rest_lower =
      subst (λ (t : Turn). LowersRest t m (state_shown script z)) (sym took.answer)
      (subst (LowersRest (answer_of m actor) m) same_state (rest_falls was.reached.0 m actor was.reached.1 is_actor))

-- the parts that a turn leaves show a state to which a machine can come, whatever it answered
pub kept_after : {T M P E : Type 0} {K : sides.Ghosts T P} (script : Script) (x y : Parts T M P) (m : State) (actor : ℕ)
    (r : Result Turn E) →
    IsAt K script x m → IsActor m actor → IfOk r (λ turn. TookTurn K script x y m actor turn) →
    OnErr r (StaysAt K script x y m) → IsKept K script y
kept_after script x y m actor (Ok turn) was is_actor took stays = (
  after_turn m actor,
  record {
    shows = took.shows;
    reached = (was.reached.0, turns_keep_it was.reached.0 m actor was.reached.1 is_actor);
    built = was.built;
  },
)
kept_after script x y m actor (Err e) was is_actor took stays =
    (m, record { shows = stays.shows; reached = was.reached; built = was.built })

-- a processor is an actor, and so is the invalidation engine
pub processor_is_actor : {T M P : Type 0} {K : sides.Ghosts T P} (script : Script) (x : Parts T M P) (m : State) (p : ℕ) →
    IsAt K script x m → p < length script.processes → IsActor m p
processor_is_actor script x m p was within =
    subst (λ (s : Script). p < 2 * length s.processes + 1) (sym was.shows.script_is) (omega (arith, within))

pub last_is_actor : {T M P : Type 0} {K : sides.Ghosts T P} (script : Script) (x : Parts T M P) (m : State) →
    IsAt K script x m → IsActor m (2 * length script.processes)
last_is_actor script x m was =
    subst (λ (s : Script). 2 * length script.processes < 2 * length s.processes + 1) (sym was.shows.script_is) (omega arith)

-- the last of the actors has the number of all others
pub last_number : (m : State) (actor count : ℕ) → IsActor m actor → length m.script.processes ≡ count → 2 * count ≤ actor →
    2 * count ≡ actor
last_number m actor count is_actor same most = omega (arith, is_actor, same, most)
