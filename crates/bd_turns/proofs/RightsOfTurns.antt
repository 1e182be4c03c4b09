-- What a turn does to the turns that revocations take: those of its own call fall, and those of another call rise not.
use Rattle.std.proofs.Common.{◌≡◌, ◌≢◌, ℕ, ◌+◌, ◌<◌, ◌≤◌, Bool, true, false, not, cond, List, ◌∷◌, length, Option, None, Some, refl, sym, ap, ◌∙◌, arith, get_or, set}
use Rattle.std.specs.Prelude.{count_by, nat_eq, position}
use Rattle.std.specs.Option.{option_map_or}
use Rattle.std.specs.FinMap as fin
use Rattle.std.proofs.lemmas.Bool.{cond-true, or_left}
use Rattle.std.proofs.lemmas.List.Quantifiers.{position-Some}
use Rattle.std.proofs.lemmas.List.Sums.{sum_by-set}
use Rattle.std.proofs.lemmas.Option.{none-some, same_Some}
use Rattle.bd_base.specs.declared.key.Key.{Key}
use Rattle.bd_base.specs.Keys.{key_cmp_total, same_key}
use Rattle.bd_tables.specs.declared.state.Right.{Right}
use Rattle.bd_tables.specs.declared.state.RightState.{RightState}
use Rattle.bd_tables.specs.declared.state.RightState.TheVariants as states
use Rattle.bd_tables.specs.Effects as effects
use Rattle.bd_tables.specs.State.{TableState, engines_in}
use Rattle.bd_tables.proofs.Maps.{other_key-change}
use Rattle.bd_turns.specs.declared.turn.Row.TheVariants as rows
use Rattle.bd_turns.specs.declared.turn.Wait.TheVariants as waits
use Rattle.bd_turns.specs.Engines as engines
use Rattle.bd_turns.specs.Engines.{Invalidation, detach, drain, invalidate, invalidation_of, sweep_or_detach}
use Rattle.bd_turns.specs.Processors.{is_posted}
use Rattle.bd_turns.specs.Rest.{right_turns}
use Rattle.bd_turns.specs.State.{Posted}
use Rattle.bd_turns.proofs.RevocationTurns.{same_key-self}
use Rattle.bd_turns.proofs.RightsAfterTurns.{other_keys, state_set}

-- ---- the state of the right at the front

-- whether an invalidation changes the tables, and to which
abbrev changed_to : Invalidation → Option TableState
changed_to (engines.Changes row tables) = Some tables
changed_to invalidation = None

-- the right of the request at the front has another state in these tables, which takes fewer turns
pub record Lowers (tables after : TableState) (key : Key) (right : Right) : Type 0 where
  pub state : RightState
  pub now : fin.get after.rights key ≡ Some (record right { state = state })
  pub others : (other : Key) → other ≢ key → fin.get after.rights other ≡ fin.get tables.rights other
  pub less : right_turns true state + 1 ≤ right_turns true right.state

drained_turns : count_by not effects.none_swept ≡ 16
drained_turns = refl

-- one line more is swept
swept_turns : (swept : List Bool) (line : ℕ) → position not swept ≡ Some line → count_by not (set swept line true) + 1 ≡ count_by not swept
swept_turns swept line is =
    let found = position-Some not swept line true is in
    let one : Bool → ℕ = λ b. cond (not b) 1 0 in
    let here : one (get_or swept line true) ≡ 1 = cond-true (not (get_or swept line true)) 1 0 found.1 in
    let within : line < length swept = found.0 in
    let sums : count_by not (set swept line true) + one (get_or swept line true) ≡ count_by not swept + 0 =
    sum_by-set one swept line true true within in
    omega (arith, here, sums)

pub lowers_by : (tables after : TableState) (post : Posted) (right : Right) → fin.get tables.rights post.key ≡ Some right → (state : RightState) →
    right.state ≡ state → (i : Invalidation) → invalidate tables post state ≡ Some i → changed_to i ≡ Some after → Lowers tables after post.key right
lowers_by tables after post right there states.On is i does to = absurd (none-some i does)
lowers_by tables after post right there states.Cleared is i does to =
    by (nat_eq (engines_in tables.walks post.key) 0) (ap changed_to (same_Some (drain tables post.key) i does) ∙ to)
  where
    drained : RightState
    drained = states.Drained effects.none_swept

    by : (b : Bool) →
        changed_to
        (cond b (engines.Changes rows.Drain (effects.drain tables post.key)) (engines.WaitsFor (waits.InFlight post.key (engines_in tables.walks post.key))))
        ≡ Some after → Lowers tables after post.key right
    by false to = absurd (none-some after to)
    by true to =
        let same : effects.drain tables post.key ≡ after = same_Some (effects.drain tables post.key) after to in
        let old : right_turns true right.state ≡ 18 = ap (right_turns true) is in
        record {
          state = drained;
          now =
              ap (λ (t : TableState). fin.get t.rights post.key) (sym same)
              ∙ state_set tables.rights post.key (λ (r : Right). record r { state = drained }) right there;
          others = λ other differ.
              ap (λ (t : TableState). fin.get t.rights other) (sym same)
              ∙ other_key-change key_cmp_total tables.rights post.key (λ (r : Right). record r { state = drained }) other (other_keys other post.key differ);
          less = omega (arith, old, drained_turns);
        }
lowers_by tables after post right there (states.Drained swept) is i does to =
    by (position not swept) refl (ap changed_to (same_Some (sweep_or_detach tables post swept) i does) ∙ to)
  where
    by : (o : Option ℕ) → position not swept ≡ o →
        changed_to (option_map_or (λ line. engines.Changes (rows.Sweep line) (effects.sweep tables line post.key)) o (detach tables post)) ≡ Some after →
        Lowers tables after post.key right
    by None none to = absurd (none-some after to)
    by (Some line) found to =
        let same : effects.sweep tables line post.key ≡ after = same_Some (effects.sweep tables line post.key) after to in
        let state : RightState = states.Drained (set swept line true) in
        let old : right_turns true right.state ≡ count_by not swept + 1 = ap (right_turns true) is in
        let fewer : count_by not (set swept line true) + 1 ≡ count_by not swept = swept_turns swept line found in
        let f : Right → Right = λ r. record r { state = effects.sweep_state line r.state } in
        record {
          state = state;
          now =
              ap (λ (t : TableState). fin.get t.rights post.key) (sym same) ∙ state_set tables.rights post.key f right there
              ∙ ap (λ (s : RightState). Some (record right { state = effects.sweep_state line s })) is;
          others = λ other differ.
              ap (λ (t : TableState). fin.get t.rights other) (sym same)
              ∙ other_key-change key_cmp_total tables.rights post.key f other (other_keys other post.key differ);
          less = omega (arith, old, fewer);
        }

-- ---- all kinds of turns

-- the test looks at what a right keeps as its state changes
abbrev pub KeepsTest : (Key → Right → Bool) → Type 0
KeepsTest test = (key : Key) (right : Right) (state : RightState) → test key (record right { state = state }) ≡ test key right

pub front_posted : (posted : List Posted) (post : Posted) (rest : List Posted) → posted ≡ post ∷ rest → is_posted posted post.key ≡ true
front_posted posted post rest is =
    ap (λ (l : List Posted). is_posted l post.key) is ∙ or_left (same_key post.key post.key) (is_posted rest post.key) (same_key-self post.key)

pub some_turns : (b : Bool) (state : RightState) → 1 ≤ right_turns b state
some_turns b states.On = omega arith
some_turns true states.Cleared = omega arith
some_turns false states.Cleared = omega arith
some_turns b (states.Drained swept) = omega arith
