-- Each turn of a revocation leaves its call fewer turns.
use Rattle.std.proofs.Common.{◌≡◌, ◌≢◌, ℕ, ◌+◌, ◌≤◌, Bool, true, false, not, ◌||◌, cond, List, [], ◌∷◌, ◌++◌, Option, None, Some, refl, sym, ap, ◌∙◌, subst, arith}
use Rattle.std.specs.Prelude.{drop, nat_eq, position, slice_get}
use Rattle.std.specs.Option.{option_map_or}
use Rattle.std.specs.FinMap as fin
use Rattle.std.proofs.lemmas.Bool.{and_from, both_ways, eq-eqb, false≢true, or_left, or_parts}
use Rattle.std.proofs.lemmas.Option.{none-some, same_Some}
use Rattle.bd_base.specs.declared.journal.At.{At}
use Rattle.bd_base.specs.declared.key.Key.{Key}
use Rattle.bd_base.specs.declared.script.Call.{Call}
use Rattle.bd_base.specs.declared.script.Call.TheVariants.{Close}
use Rattle.bd_base.specs.declared.volume.Volume.{Volume}
use Rattle.bd_base.specs.Keys.{key_cmp_total, same_key}
use Rattle.bd_entry.specs.declared.entry.Entry.{Entry}
use Rattle.bd_entry.specs.declared.entry.Entry.TheVariants as entries
use Rattle.bd_entry.specs.Actions.{keys_to_revoke}
use Rattle.bd_entry.specs.Calls.{Place}
use Rattle.bd_entry.specs.Refusals.{file_of}
use Rattle.bd_entry.specs.Rules.{RightFile, Rights, place_in}
use Rattle.bd_entry.specs.RulesOfCalls.{MayClear}
use Rattle.bd_entry.specs.RulesOfRights.{Stands}
use Rattle.bd_entry.specs.Store.{Descriptor}
use Rattle.bd_entry.proofs.Accesses.{of_call-in_store}
use Rattle.bd_entry.proofs.NextActs.{then_from}
use Rattle.bd_entry.proofs.Slots.{some_of}
use Rattle.bd_tables.specs.declared.state.Right.{Right}
use Rattle.bd_tables.specs.declared.state.RightState.{RightState}
use Rattle.bd_tables.specs.declared.state.RightState.TheVariants as states
use Rattle.bd_tables.specs.Effects as effects
use Rattle.bd_tables.specs.State.{TableState, engines_in}
use Rattle.bd_tables.proofs.Maps.{other_key-change, other_key-remove, same_key-remove}
use Rattle.bd_turns.specs.declared.turn.Row.{Row}
use Rattle.bd_turns.specs.declared.turn.Row.TheVariants as rows
use Rattle.bd_turns.specs.declared.turn.Wait.TheVariants as waits
use Rattle.bd_turns.specs.Added.{IsAdded}
use Rattle.bd_turns.specs.Engines as engines
use Rattle.bd_turns.specs.Engines.{Invalidation, detach, drain, invalidate, invalidation_of, sweep_or_detach}
use Rattle.bd_turns.specs.Processors as processors
use Rattle.bd_turns.specs.Processors.{is_on, is_on_state, is_posted, next_action, unposted}
use Rattle.bd_turns.specs.Reached.{IsReached}
use Rattle.bd_turns.specs.Rest.{is_by, is_on_file, revocation_turns, right_turns}
use Rattle.bd_turns.specs.Sound.{IsRightOf}
use Rattle.bd_turns.specs.State.{Posted, State, progress_of, running}
use Rattle.bd_turns.specs.Turns.{posting_place}
use Rattle.bd_turns.proofs.EntriesOfCalls.{cleared_by}
use Rattle.bd_turns.proofs.FoundElements.{find-element}
use Rattle.bd_turns.proofs.Invalidations.{posts_unposted}
use Rattle.bd_turns.proofs.KeysToRevoke.{MayRevoke, revocable}
use Rattle.bd_turns.proofs.LegalDetaches.{posting}
use Rattle.bd_turns.proofs.RevocationTurns.{change_falls, change_rises_not, post_falls, post_rises_not, remove_falls, remove_rises_not, revocation_falls, same_key-self}
use Rattle.bd_turns.proofs.RightsAfterTurns.{on_from, other_keys, state_set}
use Rattle.bd_turns.proofs.RightsOfTurns.{KeepsTest, Lowers, front_posted, lowers_by, some_turns}

-- to which tables an invalidation ends
abbrev ended_to : Invalidation → Option TableState
ended_to (engines.Ends entry tables) = Some tables
ended_to invalidation = None

-- the right of the key is one that the call at the place revokes
pub record IsOwnKey (m : State) (p : Place) (key : Key) (right : Right) : Type 0 where
  pub there : fin.get m.tables.rights key ≡ Some right
  pub of_file : file_of m.store p ≡ Some right.file
  pub may : MayClear p.call p.at.process key.process key.fd

-- the test passes for each such right
abbrev pub PassesOwn : State → Place → (Key → Right → Bool) → Type 0
PassesOwn m p test = (key : Key) (right : Right) → IsOwnKey m p key right → test key right ≡ true

-- so does that for the file of the call
pub on_file-passes : (m : State) (p : Place) (file : ℕ) → file_of m.store p ≡ Some file → PassesOwn m p (is_on_file (Some file))
on_file-passes m p file of key right own = eq-eqb right.file file (same_Some right.file file (sym own.of_file ∙ of))

-- and that for the descriptor of a close
pub by-passes : (m : State) (p : Place) (fd : ℕ) → p.call ≡ Close fd → PassesOwn m p (is_by p.at.process fd)
by-passes m p fd call key right own =
    let may = subst (λ (c : Call). MayClear c p.at.process key.process key.fd) call own.may in
    and_from (nat_eq key.process p.at.process) (nat_eq key.fd fd) (eq-eqb key.process p.at.process may.0) (eq-eqb key.fd fd may.1)

-- the revocation takes fewer turns
abbrev pub Falls : State → State → (Key → Right → Bool) → Type 0
Falls m next test =
    revocation_turns next.tables.rights next.posted test + 1 ≤ revocation_turns m.tables.rights m.posted test

module _ (v : Volume) (m next : State) (p : Place) (reached : IsReached v m) (runs : running m p.at.process ≡ Some p) (test : Key → Right → Bool)
    (keeps : KeepsTest test) (passes : PassesOwn m p test) where
  -- ---- a right in another state

  set_falls : (key : Key) (right : Right) (state : RightState) → IsOwnKey m p key right →
      fin.get next.tables.rights key ≡ Some (record right { state = state }) →
      ((other : Key) → other ≢ key → fin.get next.tables.rights other ≡ fin.get m.tables.rights other) → next.posted ≡ m.posted →
      right_turns (is_posted m.posted key) state + 1 ≤ right_turns (is_posted m.posted key) right.state → Falls m next test
  set_falls key right state own here others posted less =
      let new : Right = record right { state = state } in
      let is_key = reached.sound.tables_are.tables.keys key right own.there in
      subst (λ (l : List Posted). revocation_turns next.tables.rights l test + 1 ≤ revocation_turns m.tables.rights m.posted test) (sym posted)
      (revocation_falls m.tables.rights next.tables.rights m.posted m.posted test key is_key
      (change_rises_not m.tables.rights next.tables.rights m.posted key right new own.there here others test (keeps key right state) (omega (arith, less)))
      (change_falls m.tables.rights next.tables.rights m.posted key right new own.there here others test (keeps key right state)
      (passes key right own) less))

  -- ---- a clear

  pub clear_falls : (owner fd part : ℕ) → IsAdded v m p (entries.Cleared p.at owner fd part) →
      next.tables.rights ≡ effects.with_state m.tables.rights (record { process = owner; fd = fd; part = part }) states.Cleared → next.posted ≡ m.posted →
      Falls m next test
  clear_falls owner fd part added tables posted =
      let e : Entry = entries.Cleared p.at owner fd part in
      let key : Key = record { process = owner; fd = fd; part = part } in
      let of = added.next.keeps RightFile in
      let legal = added.next.keeps Rights in
      let d : Descriptor = of.0 in
      let stands : Stands part d = subst (Stands part) (same_Some legal.0 d (sym legal.1 ∙ of.1)) legal.2.0 in
      let right = some_of (fin.get m.tables.rights key) (reached.sound.tables_are.rights.all key d of.1 stands.attached) in
      let told = reached.sound.tables_are.rights.told key right.0 right.1 in
      let is_of : IsRightOf key right.0 d = subst (IsRightOf key right.0) (same_Some told.0 d (sym told.1 ∙ of.1)) told.2 in
      let on : right.0.state ≡ states.On = on_from right.0.state (sym is_of.cleared ∙ stands.not_cleared) in
      let place : place_in m.store p.call p.at ≡ p = ap (λ (before : List Entry). record p { before = before }) added.work_is in
      let own : IsOwnKey m p key right.0 =
      record {
        there = right.1;
        of_file = ap (file_of m.store) (sym place) ∙ of.2 ∙ ap Some (sym is_of.file);
        may = (of_call-in_store v m.script m.journal m.store p.call e added.next).fields;
      } in
      let clear : Right → Right = λ r. record r { state = states.Cleared } in
      set_falls key right.0 states.Cleared own
      (ap (λ (rights : _). fin.get rights key) tables ∙ state_set m.tables.rights key clear right.0 right.1)
      (λ other differ.
      ap (λ (rights : _). fin.get rights other) tables
      ∙ other_key-change key_cmp_total m.tables.rights key clear other (other_keys other key differ))
      posted (less (is_posted m.posted key) right.0.state on)
    where
      less : (b : Bool) (state : RightState) → state ≡ states.On → right_turns b states.Cleared + 1 ≤ right_turns b state
      less true state on = let is : right_turns true state ≡ 20 = ap (right_turns true) on in omega arith
      less false state on = let is : right_turns false state ≡ 20 = ap (right_turns false) on in omega arith

  -- ---- a request

  -- a key that is posted is one of an own right, which is cleared and not posted yet
  pub own_unposted : (key : Key) → unposted m (keys_to_revoke m.store p p.call) ≡ Some key →
      (right : Right) × IsOwnKey m p key right × (right.state ≡ states.Cleared) × (is_posted m.posted key ≡ false)
  own_unposted key is =
      let keys : List Key = keys_to_revoke m.store p p.call in
      let test_of : Key → Bool = λ key. not (is_on (fin.get m.tables.rights key) || is_posted m.posted key) in
      let found = find-element (MayRevoke m.store p p.call) test_of keys key (revocable m.store p.call p.at p.before) is in
      let revoke : MayRevoke m.store p p.call key = found.1 in
      let parts = or_parts (is_on (fin.get m.tables.rights key)) (is_posted m.posted key)
      (not_true (is_on (fin.get m.tables.rights key) || is_posted m.posted key) found.0) in
      let right = some_of (fin.get m.tables.rights key) (reached.sound.tables_are.rights.all key revoke.d revoke.is_open revoke.attached) in
      let told = reached.sound.tables_are.rights.told key right.0 right.1 in
      let is_of : IsRightOf key right.0 revoke.d =
      subst (IsRightOf key right.0) (same_Some told.0 revoke.d (sym told.1 ∙ revoke.is_open)) told.2 in
      let own : IsOwnKey m p key right.0 =
      record { there = right.1; of_file = revoke.of_file ∙ ap Some (sym is_of.file); may = revoke.may_clear } in
      (right.0, own, state_is right.0 right.1 right.0.state refl (sym (ap is_on right.1) ∙ parts.0) parts.1, parts.1)
    where
      not_true : (b : Bool) → not b ≡ true → b ≡ false
      not_true true is = absurd (false≢true is)
      not_true false is = refl

      state_is : (right : Right) → fin.get m.tables.rights key ≡ Some right → (state : RightState) → right.state ≡ state →
          is_on (Some right) ≡ false → is_posted m.posted key ≡ false → right.state ≡ states.Cleared
      state_is right there states.On is on unposted_here = absurd (false≢true (sym on ∙ ap is_on_state is))
      state_is right there states.Cleared is on unposted_here = is
      state_is right there (states.Drained swept) is on unposted_here =
          let drained = reached.sound.holds_are.posted.drained key right swept there is in
          absurd
          (both_ways (is_posted m.posted key) unposted_here
          (subst (λ (k : Key). is_posted m.posted k ≡ true) drained.2 (first_posted m.posted drained.0 drained.1)))
        where
          first_posted : (posted : List Posted) (post : Posted) → slice_get posted 0 ≡ Some post → is_posted posted post.key ≡ true
          first_posted [] post first = absurd (none-some post first)
          first_posted (other ∷ rest) post first =
              let same : other ≡ post = same_Some other post first in
              or_left (same_key other.key post.key) (is_posted rest post.key)
              (subst (λ (x : Posted). same_key other.key x.key ≡ true) same (same_key-self other.key))

  pub posting_falls : (key : Key) → next_action m p ≡ Some (processors.Posts key) →
      ((other : Key) → fin.get next.tables.rights other ≡ fin.get m.tables.rights other) →
      next.posted ≡ m.posted ++ (record { key = key; by = p.at }) ∷ [] → Falls m next test
  posting_falls key acting stays posted =
      let post : Posted = record { key = key; by = p.at } in
      let own = own_unposted key (posts_unposted m p key acting) in
      let is_key = reached.sound.tables_are.tables.keys key own.0 own.1.there in
      subst (λ (l : List Posted). revocation_turns next.tables.rights l test + 1 ≤ revocation_turns m.tables.rights m.posted test) (sym posted)
      (revocation_falls m.tables.rights next.tables.rights m.posted (m.posted ++ post ∷ []) test key is_key
      (post_rises_not m.tables.rights next.tables.rights m.posted post stays test)
      (post_falls m.tables.rights next.tables.rights m.posted post stays test own.0 own.1.there own.2 (passes key own.0 own.1) own.3))

  -- ---- the turns of the invalidation engine

  -- the right of the request at the front
  pub record AtFront : Type 0 where
    pub post : Posted
    pub rest : List Posted
    pub list : m.posted ≡ post ∷ rest
    pub right : Right
    pub own : IsOwnKey m p post.key right
    pub held : (progress_of m p.at.process).held ≡ Some right.file

  pub at_front : posting_place m ≡ Some p → AtFront
  at_front place =
      let by = posting v m p reached place in
      let post : Posted = by.post in
      let right = reached.sound.holds_are.posted.state_of 0 post by.first in
      let held = reached.sound.holds_are.posted.held 0 post right.0 by.first right.1 in
      let process : post.by.process ≡ p.at.process = ap (λ (at : At). at.process) (sym by.by_is) in
      let holds = reached.sound.holds_are.holds post.by.process right.0.file held in
      let same : holds.0 ≡ p = same_Some holds.0 p (sym holds.1 ∙ ap (running m) process ∙ runs) in
      let rest = front_rest m.posted post by.first in
      record {
        post = post;
        rest = rest.0;
        list = rest.1;
        right = right.0;
        held = ap (λ (n : ℕ). (progress_of m n).held) (sym process) ∙ held;
        own = record {
          there = right.1;
          of_file = ap (file_of m.store) (sym same) ∙ holds.2;
          may = (cleared_by v m p post.key reached.history runs by.cleared).may;
        };
      }
    where
      front_rest : (posted : List Posted) (post : Posted) → slice_get posted 0 ≡ Some post → (rest : List Posted) × (posted ≡ post ∷ rest)
      front_rest [] post first = absurd (none-some post first)
      front_rest (other ∷ rest) post first = (rest, ap (λ (x : Posted). x ∷ rest) (same_Some other post first))

  -- what the step of the engine for the right at the front is
  pub step_at_front : (at : AtFront) (i : Invalidation) → invalidation_of m.tables m.posted ≡ Some i →
      invalidate m.tables at.post at.right.state ≡ Some i
  step_at_front at i acting =
      let found = then_from (λ (r : Right). invalidate m.tables at.post r.state) (fin.get m.tables.rights at.post.key) i
      (sym (ap (invalidation_of m.tables) at.list) ∙ acting) in
      ap (λ (r : Right). invalidate m.tables at.post r.state) (same_Some at.right found.0 (sym at.own.there ∙ found.1)) ∙ found.2

  pub changing_falls : (row : Row) (tables : TableState) → posting_place m ≡ Some p →
      invalidation_of m.tables m.posted ≡ Some (engines.Changes row tables) → next.tables ≡ tables → next.posted ≡ m.posted → Falls m next test
  changing_falls row tables place acting same posted =
      let at = at_front place in
      let does = step_at_front at (engines.Changes row tables) acting in
      let low : Lowers m.tables tables at.post.key at.right =
      lowers_by m.tables tables at.post at.right at.own.there at.right.state refl (engines.Changes row tables) does refl in
      let there : is_posted m.posted at.post.key ≡ true = front_posted m.posted at.post at.rest at.list in
      set_falls at.post.key at.right low.state at.own (ap (λ (t : TableState). fin.get t.rights at.post.key) same ∙ low.now)
      (λ other differ. ap (λ (t : TableState). fin.get t.rights other) same ∙ low.others other differ) posted
      (subst (λ (b : Bool). right_turns b low.state + 1 ≤ right_turns b at.right.state) (sym there) low.less)

  -- where a request ends, its right is detached
  pub ends_to : (post : Posted) (entry : Entry) (tables : TableState) (state : RightState) → invalidate m.tables post state ≡ Some (engines.Ends entry tables) →
      tables ≡ effects.detach m.tables post.key
  ends_to post entry tables states.On does = absurd (none-some (engines.Ends entry tables) does)
  ends_to post entry tables states.Cleared does =
      absurd
      (by (nat_eq (engines_in m.tables.walks post.key) 0)
      (ap ended_to (same_Some (drain m.tables post.key) (engines.Ends entry tables) does)))
    where
      by : (b : Bool) →
          ended_to
          (cond b (engines.Changes rows.Drain (effects.drain m.tables post.key))
          (engines.WaitsFor (waits.InFlight post.key (engines_in m.tables.walks post.key))))
          ≡ Some tables → ⊥
      by true is = none-some tables is
      by false is = none-some tables is
  ends_to post entry tables (states.Drained swept) does =
      by (position not swept) (ap ended_to (same_Some (sweep_or_detach m.tables post swept) (engines.Ends entry tables) does))
    where
      by : (o : Option ℕ) →
          ended_to (option_map_or (λ line. engines.Changes (rows.Sweep line) (effects.sweep m.tables line post.key)) o (detach m.tables post)) ≡ Some tables →
          tables ≡ effects.detach m.tables post.key
      by None is = sym (same_Some (effects.detach m.tables post.key) tables is)
      by (Some line) is = absurd (none-some tables is)

  pub ending_falls : (entry : Entry) (tables : TableState) → posting_place m ≡ Some p →
      invalidation_of m.tables m.posted ≡ Some (engines.Ends entry tables) → next.tables ≡ tables → next.posted ≡ drop 1 m.posted → Falls m next test
  ending_falls entry tables place acting same posted =
      let at = at_front place in
      let post : Posted = at.post in
      let does = step_at_front at (engines.Ends entry tables) acting in
      let detached : next.tables ≡ effects.detach m.tables post.key = same ∙ ends_to post entry tables at.right.state does in
      let here : fin.get next.tables.rights post.key ≡ None =
      ap (λ (t : TableState). fin.get t.rights post.key) detached ∙ same_key-remove key_cmp_total m.tables.rights post.key in
      let others : (other : Key) → other ≢ post.key → fin.get next.tables.rights other ≡ fin.get m.tables.rights other =
      λ other differ.
      ap (λ (t : TableState). fin.get t.rights other) detached
      ∙ other_key-remove key_cmp_total m.tables.rights post.key other (other_keys other post.key differ) in
      let is_key = reached.sound.tables_are.tables.keys post.key at.right at.own.there in
      let left : next.posted ≡ at.rest = posted ∙ ap (drop 1) at.list in
      subst (λ (l : List Posted). revocation_turns next.tables.rights next.posted test + 1 ≤ revocation_turns m.tables.rights l test) (sym at.list)
      (subst (λ (l : List Posted). revocation_turns next.tables.rights l test + 1 ≤ revocation_turns m.tables.rights (post ∷ at.rest) test) (sym left)
      (revocation_falls m.tables.rights next.tables.rights (post ∷ at.rest) at.rest test post.key is_key
      (remove_rises_not m.tables.rights next.tables.rights post at.rest here others test)
      (remove_falls m.tables.rights next.tables.rights post at.rest here others test at.right at.own.there (passes post.key at.right at.own)
      (some_turns (is_posted (post ∷ at.rest) post.key) at.right.state))))
