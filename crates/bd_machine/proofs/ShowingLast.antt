-- The turn of the invalidation engine, which has nothing to do, and the numbers of actors.
use Rattle.std.proofs.Common.{◌≡◌, ℕ, ◌+◌, ◌-◌, ◌*◌, ◌≤◌, List, [], Option, None, Some, refl, sym, ap, ◌∙◌, subst, arith}
use Rattle.std.specs.Prelude.{nat_lt, slice_get}
use Rattle.std.specs.Option.{SomeIff, option_and_then, option_map, option_map_or}
use Rattle.std.proofs.lemmas.Bool.{cond-false, le-ltb}
use Rattle.std.proofs.lemmas.List.{append-nil}
use Rattle.bd_base.specs.declared.script.Script.{Script}
use Rattle.bd_entry.specs.Calls.{Place, call_at}
use Rattle.bd_machine.specs.declared.parts.Parts.{Parts}
use Rattle.bd_machine.specs.Shows.{Shows}
use Rattle.bd_machine.specs.Turns.{TookTurn}
use Rattle.bd_tables.specs.declared.sides.Tables as sides
use Rattle.bd_turns.specs.declared.turn.Turn.TheVariants.{Idle}
use Rattle.bd_turns.specs.Engines.{invalidation_of}
use Rattle.bd_turns.specs.State.{Posted, State, place_of}
use Rattle.bd_turns.specs.Turns.{Nothing, Outcome, answer_in, engine_outcome, invalidation_outcome, outcome_of, outcome_of_invalidation, posting_place, process_count, processor_outcome, state_after}

-- where nothing is posted the invalidation engine has nothing to do
nothing_posted : (m : State) → m.posted ≡ [] → invalidation_outcome m ≡ Nothing
nothing_posted m none =
    let nobody : posting_place m ≡ None =
    ap
    (λ (posted : List Posted). option_and_then (λ (post : Posted). option_map (place_of m post.by) (call_at m.script post.by)) (slice_get posted 0))
    none in
    ap
    (λ (p : Option Place). option_map_or
    (λ p. option_map_or (outcome_of_invalidation m p) (invalidation_of m.tables m.posted) Nothing) p Nothing)
    nobody

last_outcome : (m : State) (actor : ℕ) → m.posted ≡ [] → 2 * process_count m ≤ actor → outcome_of m actor ≡ Nothing
last_outcome m actor none most =
    cond-false (nat_lt actor (process_count m)) (processor_outcome m actor) _ (le-ltb actor (process_count m) (omega (arith, most)))
    ∙ cond-false (nat_lt actor (2 * process_count m)) (engine_outcome m (actor - process_count m)) (invalidation_outcome m)
    (le-ltb actor (2 * process_count m) most)
    ∙ nothing_posted m none

-- so its turn changes nothing
pub last_turn : {T M P : Type 0} {K : sides.Ghosts T P} (script : Script) (x : Parts T M P) (m : State) (actor : ℕ) →
    Shows K script x m → 2 * process_count m ≤ actor → TookTurn K script x x m actor Idle
last_turn {T} {M} {P} {K} script x m actor shows most =
    let is = last_outcome m actor shows.posted most in
    record {
      shows = subst (λ (o : Outcome). Shows K script x (state_after m o)) (sym is) shows;
      answer = ap answer_in (sym is);
      events = sym (append-nil x.log.events);
      turns = refl;
    }

-- the number of the process of an actor
pub process_of : (o : Option ℕ) (P : Type 0) (n r : ℕ) → SomeIff o P n → o ≡ Some r → r ≡ n
process_of o P n r is some = (subst (λ (q : Option ℕ). SomeIff q P n) some is).1

pub engine_of : (count actor : ℕ) → count ≤ actor → count + (actor - count) ≡ actor
engine_of count actor most = omega (arith, most)
