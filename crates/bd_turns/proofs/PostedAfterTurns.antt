-- The posted requests after an effective turn.
use Rattle.std.proofs.Common.{◌≡◌, ◌≢◌, ◌⊎◌, inl, inr, ℕ, zero, suc, Bool, true, false, not, ◌||◌, List, [], ◌∷◌, ◌++◌, length, Option, None, Some, refl, sym, ap, ◌∙◌, subst, arith, ⊎_elim}
use Rattle.std.specs.Prelude.{slice_get}
use Rattle.std.specs.List.{list_any}
use Rattle.std.specs.FinMap as fin
use Rattle.std.proofs.lemmas.Bool.{both_ways, false≢true, not-true, or_left, or_parts, or_right}
use Rattle.std.proofs.lemmas.Option.{none-some, same_Some}
use Rattle.bd_base.specs.declared.key.Key.{Key}
use Rattle.bd_base.specs.declared.volume.Volume.{Volume}
use Rattle.bd_base.specs.Keys.{same_key}
use Rattle.bd_entry.specs.declared.entry.Entry.{Entry}
use Rattle.bd_entry.specs.Actions.{keys_to_revoke}
use Rattle.bd_entry.specs.Calls.{Place}
use Rattle.bd_entry.proofs.Slots.{some_of}
use Rattle.bd_tables.specs.declared.state.Right.{Right}
use Rattle.bd_tables.specs.declared.state.RightState.{RightState}
use Rattle.bd_tables.specs.declared.state.RightState.TheVariants as states
use Rattle.bd_turns.specs.Processors.{is_on, is_posted, unposted}
use Rattle.bd_turns.specs.Reached.{IsReached}
use Rattle.bd_turns.specs.Sound.{ArePosted, IsPostedState, is_clear_at, is_revoked}
use Rattle.bd_turns.specs.State.{Posted, Progress, State, progress_of, running}
use Rattle.bd_turns.proofs.ActionsOfCalls.{IsPassed, passed-alone}
use Rattle.bd_turns.proofs.EffectiveTurns.{Turned}
use Rattle.bd_turns.proofs.KeysOfCalls.{IsKeyOf, key_of_call}
use Rattle.bd_turns.proofs.RevokedAfterTurns as revoked
use Rattle.bd_turns.proofs.RevokedAfterTurns.{cases_key, not_on-revoked, same_key-self}
use Rattle.bd_turns.proofs.RightsAfterTurns.{Changes, IsFront, SetsAt, attaches, clears, detaches, leaves, moves, posts}
use Rattle.bd_turns.proofs.RightsOnFiles.{find-passes}

-- ---- requests in order

-- what stands in a list with one element more
get_joined : {X : Type 0} (xs : List X) (y : X) (i : ℕ) (x : X) → slice_get (xs ++ y ∷ []) i ≡ Some x →
    (slice_get xs i ≡ Some x) ⊎ ((i ≡ length xs) × (y ≡ x))
get_joined [] y zero x is = inr (refl, same_Some y x is)
get_joined [] y (suc i) x is = absurd (none-some x is)
get_joined (z ∷ xs) y zero x is = inl is
get_joined (z ∷ xs) y (suc i) x is = ⊎_elim (λ old. inl old) (λ new. inr (ap suc new.0, new.1)) (get_joined xs y i x is)

-- what stood first does so still
first_joined : {X : Type 0} (xs : List X) (y x : X) → slice_get xs 0 ≡ Some x → slice_get (xs ++ y ∷ []) 0 ≡ Some x
first_joined [] y x is = absurd (none-some x is)
first_joined (z ∷ xs) y x is = is

-- a request makes its key a posted one
request_posts : (posted : List Posted) (i : ℕ) (post : Posted) → slice_get posted i ≡ Some post → is_posted posted post.key ≡ true
request_posts [] i post is = absurd (none-some post is)
request_posts (first ∷ posted) zero post is =
    or_left (same_key first.key post.key) (is_posted posted post.key)
    (ap (λ (x : Posted). same_key x.key post.key) (same_Some first post is) ∙ same_key-self post.key)
request_posts (first ∷ posted) (suc i) post is = or_right (same_key first.key post.key) (is_posted posted post.key) (request_posts posted i post is)

-- behind the front it is cleared, and so may be at any place
behind-any : (number other : ℕ) (state : RightState) → IsPostedState (suc number) state → IsPostedState other state
behind-any number other states.On is = absurd is
behind-any number other states.Cleared is = tt
behind-any number other (states.Drained swept) is = absurd (omega arith)

module _ (v : Volume) (m next : State) (p : Place) (entry : Option Entry) (g : Progress) (reached : IsReached v m) (t : Turned v m next p entry g) where
  abbrev process : ℕ
  process = p.at.process

  old : ArePosted m
  old = reached.sound.holds_are.posted

  -- ---- a request that was there

  -- what is so of a request of the machine after the turn
  record IsRequest (post : Posted) : Type 0 where
    place : Place
    running_is : running next post.by.process ≡ Some place
    at_is : place.at ≡ post.by
    cleared : list_any (is_clear_at post.key) place.before ≡ true
    was : Right
    was_is : fin.get m.tables.rights post.key ≡ Some was
    held : (progress_of next post.by.process).held ≡ Some was.file

  old_request : (number : ℕ) (post : Posted) → slice_get m.posted number ≡ Some post → IsRequest post
  old_request number post is =
      let by = reached.sound.holds_are.posted.by_running number post is in
      let state = reached.sound.holds_are.posted.state_of number post is in
      let held = reached.sound.holds_are.posted.held number post state.0 is state.1 in
      let stays =
      revoked.stays_revoking v m next p entry g reached t post.key state.0 post.by.process by.0 state.1 held by.1 by.3 in
      record {
        place = stays.after;
        running_is = stays.running_is;
        at_is = stays.at_is ∙ by.2;
        cleared = stays.cleared;
        was = state.0;
        was_is = state.1;
        held = stays.held;
      }

  -- ---- a key that is posted

  -- the key was cleared and not posted, and its right is of the file that the process holds
  record IsNewlyPosted (key : Key) : Type 0 where
    right : Right
    is : fin.get m.tables.rights key ≡ Some right
    state : right.state ≡ states.Cleared
    not_posted : is_posted m.posted key ≡ false
    held : (progress_of m process).held ≡ Some right.file
    cleared : list_any (is_clear_at key) p.before ≡ true

  undrained : (key : Key) (right : Right) (state : RightState) → fin.get m.tables.rights key ≡ Some right → right.state ≡ state →
      is_revoked state ≡ true → is_posted m.posted key ≡ false → right.state ≡ states.Cleared
  undrained key right states.On is state revoked none = absurd (false≢true revoked)
  undrained key right states.Cleared is state revoked none = state
  undrained key right (states.Drained swept) is state revoked none =
      let front = reached.sound.holds_are.posted.drained key right swept is state in
      absurd
      (both_ways (is_posted m.posted key) none
      (ap (is_posted m.posted) (sym front.2) ∙ request_posts m.posted 0 front.0 front.1))

  newly_posted : (key : Key) → IsPassed m p → unposted m (keys_to_revoke m.store p p.call) ≡ Some key → IsNewlyPosted key
  newly_posted key passes found =
      let check : Key → Bool = λ k. not (is_on (fin.get m.tables.rights k) || is_posted m.posted k) in
      let there : IsKeyOf m.store p key = key_of_call m.store p check key found in
      let fails = or_parts (is_on (fin.get m.tables.rights key)) (is_posted m.posted key)
      (not-true (is_on (fin.get m.tables.rights key) || is_posted m.posted key) (find-passes check (keys_to_revoke m.store p p.call) key found)) in
      let right = some_of (fin.get m.tables.rights key) (reached.sound.tables_are.rights.all key there.d there.is there.attached) in
      let told = reached.sound.tables_are.rights.told key right.0 right.1 in
      let same : told.0 ≡ there.d = same_Some told.0 there.d (sym told.1 ∙ there.is) in
      let file : right.0.file ≡ there.d.file = told.2.file ∙ ap (λ (d : _). d.file) same in
      let revoked_is : is_revoked right.0.state ≡ true = not_on-revoked right.0.state (sym (ap is_on right.1) ∙ fails.0) in
      let by = reached.sound.holds_are.revoked key right.0 right.1 revoked_is in
      let holds = reached.sound.holds_are in
      let mine : by.holder ≡ process =
      passed-alone m p reached.sound.calls holds.held_once holds.begun_holding t.runs passes there.through right.0.file by.holder
      (there.of_file ∙ ap Some (sym file)) by.held in
      let place : by.place ≡ p = same_Some by.place p (sym by.running_is ∙ ap (running m) mine ∙ t.runs) in
      record {
        right = right.0;
        is = right.1;
        state = undrained key right.0 right.0.state right.1 refl revoked_is fails.1;
        not_posted = fails.1;
        held = ap (λ (k : ℕ). (progress_of m k).held) (sym mine) ∙ by.held;
        cleared = subst (λ (x : Place). list_any (is_clear_at key) x.before ≡ true) place by.cleared;
      }

  new_request : (key : Key) → IsNewlyPosted key → IsRequest (record { key = key; by = p.at })
  new_request key new =
      let stays = revoked.stays_revoking v m next p entry g reached t key new.right process p new.is new.held t.runs new.cleared in
      record {
        place = stays.after;
        running_is = stays.running_is;
        at_is = stays.at_is;
        cleared = stays.cleared;
        was = new.right;
        was_is = new.is;
        held = stays.held;
      }

  -- ---- the requests, where none joins or goes

  -- a request is told of its right after the turn where that is of the file of the one before
  held_by : (post : Posted) → IsRequest post → (right : Right) → ((was : Right) → fin.get m.tables.rights post.key ≡ Some was → was.file ≡ right.file) →
      (progress_of next post.by.process).held ≡ Some right.file
  held_by post request right same = request.held ∙ ap Some (same request.was request.was_is)

  -- the same requests, whose rights have states that they may have, and are of the same files
  same_requests : next.posted ≡ m.posted →
      ((number : ℕ) (post : Posted) → slice_get m.posted number ≡ Some post →
      (right : Right) × (fin.get next.tables.rights post.key ≡ Some right) × IsPostedState number right.state
      × ((was : Right) → fin.get m.tables.rights post.key ≡ Some was → was.file ≡ right.file)) →
      ((key : Key) (right : Right) (swept : List Bool) → fin.get next.tables.rights key ≡ Some right → right.state ≡ states.Drained swept →
      (post : Posted) × (slice_get m.posted 0 ≡ Some post) × (post.key ≡ key)) →
      ArePosted next
  same_requests posted states_are drained_are =
      let back : (number : ℕ) (post : Posted) → slice_get next.posted number ≡ Some post → slice_get m.posted number ≡ Some post =
      λ number post is. ap (λ (ps : List Posted). slice_get ps number) (sym posted) ∙ is in
      record {
        differ = λ i j first second a b same. old.differ i j first second (back i first a) (back j second b) same;
        by_running = λ number post is.
            let request = old_request number post (back number post is) in (request.place, request.running_is, request.at_is, request.cleared);
        state_of = λ number post is. let state = states_are number post (back number post is) in (state.0, state.1, state.2);
        drained = λ key right swept is state.
            let front = drained_are key right swept is state in
            (front.0, ap (λ (ps : List Posted). slice_get ps 0) posted ∙ front.1, front.2);
        held = λ number post right is is_right.
            let state = states_are number post (back number post is) in
            let same : state.0 ≡ right = same_Some state.0 right (sym state.1 ∙ is_right) in
            held_by post (old_request number post (back number post is)) right
            (λ was is_was. state.3 was is_was ∙ ap (λ (r : Right). r.file) same);
      }

  -- a right that the turn leaves
  left_state : (number : ℕ) (post : Posted) → slice_get m.posted number ≡ Some post →
      fin.get next.tables.rights post.key ≡ fin.get m.tables.rights post.key →
      (right : Right) × (fin.get next.tables.rights post.key ≡ Some right) × IsPostedState number right.state
      × ((was : Right) → fin.get m.tables.rights post.key ≡ Some was → was.file ≡ right.file)
  left_state number post is same =
      let state = reached.sound.holds_are.posted.state_of number post is in (
        state.0,
        same ∙ state.1,
        state.2,
        λ was is_was. ap (λ (r : Right). r.file) (same_Some was state.0 (sym is_was ∙ state.1)),
      )

  left_drained : (key : Key) (right : Right) (swept : List Bool) → fin.get next.tables.rights key ≡ fin.get m.tables.rights key →
      fin.get next.tables.rights key ≡ Some right → right.state ≡ states.Drained swept →
      (post : Posted) × (slice_get m.posted 0 ≡ Some post) × (post.key ≡ key)
  left_drained key right swept same is state = reached.sound.holds_are.posted.drained key right swept (sym same ∙ is) state

  -- no state of a right is two of these
  on-drained_not : (right : Right) (swept : List Bool) → right.state ≡ states.On → right.state ≡ states.Drained swept → ⊥
  on-drained_not right swept on drained = false≢true (sym (ap is_revoked on) ∙ ap is_revoked drained)

  abbrev is_drained : RightState → Bool
  is_drained states.On = false
  is_drained states.Cleared = false
  is_drained (states.Drained swept) = true

  -- a posted right is not on
  posted-on_not : (number : ℕ) (state : RightState) → IsPostedState number state → state ≡ states.On → ⊥
  posted-on_not number state is on = subst (IsPostedState number) on is

  -- the front is that of the requests
  front_is : (post : Posted) (rest : List Posted) → IsFront m p post rest → slice_get m.posted 0 ≡ Some post
  front_is post rest front = ap (λ (ps : List Posted). slice_get ps 0) front.posted_is

  -- ---- each kind of change

  posted_leaves : ((key : Key) → fin.get next.tables.rights key ≡ fin.get m.tables.rights key) → next.posted ≡ m.posted → ArePosted next
  posted_leaves same posted =
      same_requests posted (λ number post is. left_state number post is (same post.key))
      (λ key right swept is state. left_drained key right swept (same key) is state)

  posted_attaches : (new : Key) (of : Right) → of.state ≡ states.On → fin.get m.tables.rights new ≡ None → SetsAt m next new (Some of) →
      next.posted ≡ m.posted → ArePosted next
  posted_attaches new of on none sets posted =
      same_requests posted
      (λ number post is.
      left_state number post is
      (sets.others post.key
      (λ same.
      let state = reached.sound.holds_are.posted.state_of number post is in
      none-some state.0 (sym none ∙ ap (fin.get m.tables.rights) (sym same) ∙ state.1))))
      (λ key right swept is state.
      ⊎_elim
      (λ same.
      let here : of ≡ right = same_Some of right (sym sets.here ∙ ap (fin.get next.tables.rights) (sym same) ∙ is) in
      absurd (on-drained_not of swept on (ap (λ (r : Right). r.state) here ∙ state)))
      (λ differ. left_drained key right swept (sets.others key differ) is state)
      (cases_key key new))

  posted_clears : (new : Key) (was : Right) → fin.get m.tables.rights new ≡ Some was → was.state ≡ states.On →
      SetsAt m next new (Some (record was { state = states.Cleared })) → next.posted ≡ m.posted → ArePosted next
  posted_clears new was is_was on sets posted =
      same_requests posted
      (λ number post is.
      left_state number post is
      (sets.others post.key
      (λ same.
      let state = reached.sound.holds_are.posted.state_of number post is in
      let one : state.0 ≡ was = same_Some state.0 was (sym state.1 ∙ ap (fin.get m.tables.rights) same ∙ is_was) in
      posted-on_not number state.0.state state.2 (ap (λ (r : Right). r.state) one ∙ on))))
      (λ key right swept is state.
      ⊎_elim
      (λ same.
      let here : record was { state = states.Cleared } ≡ right = same_Some (record was { state = states.Cleared }) right
      (sym sets.here ∙ ap (fin.get next.tables.rights) (sym same) ∙ is) in
      absurd (false≢true (ap (λ (r : Right). is_drained r.state) here ∙ ap is_drained state)))
      (λ differ. left_drained key right swept (sets.others key differ) is state)
      (cases_key key new))

  posted_moves : (front : Posted) (rest : List Posted) (was : Right) (swept : List Bool) → IsFront m p front rest →
      fin.get m.tables.rights front.key ≡ Some was → SetsAt m next front.key (Some (record was { state = states.Drained swept })) →
      next.posted ≡ m.posted → ArePosted next
  posted_moves front rest was swept at_front is_was sets posted =
      same_requests posted moved
      (λ key right lines is state.
      ⊎_elim
      (λ same. (front, front_is front rest at_front, sym same))
      (λ differ. left_drained key right lines (sets.others key differ) is state)
      (cases_key key front.key))
    where
      moved : (number : ℕ) (post : Posted) → slice_get m.posted number ≡ Some post →
          (right : Right) × (fin.get next.tables.rights post.key ≡ Some right) × IsPostedState number right.state
          × ((old : Right) → fin.get m.tables.rights post.key ≡ Some old → old.file ≡ right.file)
      moved zero post is =
          let same : post ≡ front = same_Some post front (sym is ∙ front_is front rest at_front) in
          let key : post.key ≡ front.key = ap (λ (x : Posted). x.key) same in (
            record was { state = states.Drained swept },
            ap (fin.get next.tables.rights) key ∙ sets.here,
            refl,
            λ old is_old. ap (λ (r : Right). r.file) (same_Some old was (sym is_old ∙ ap (fin.get m.tables.rights) key ∙ is_was)),
          )
      moved (suc number) post is =
          left_state (suc number) post is
          (sets.others post.key
          (λ same.
          let no : suc number ≡ 0 =
          reached.sound.holds_are.posted.differ (suc number) 0 post front is (front_is front rest at_front) same in
          omega arith))

  posted_detaches : (front : Posted) (rest : List Posted) → IsFront m p front rest → SetsAt m next front.key None → next.posted ≡ rest → ArePosted next
  posted_detaches front rest at_front sets posted =
      let back : (number : ℕ) (post : Posted) → slice_get next.posted number ≡ Some post → slice_get m.posted (suc number) ≡ Some post =
      λ number post is.
      ap (λ (ps : List Posted). slice_get ps (suc number)) at_front.posted_is ∙ ap (λ (ps : List Posted). slice_get ps number) (sym posted) ∙ is in
      let differs : (number : ℕ) (post : Posted) → slice_get next.posted number ≡ Some post → post.key ≢ front.key =
      λ number post is same.
      let no : suc number ≡ 0 = old.differ (suc number) 0 post front (back number post is) (front_is front rest at_front) same in
      omega arith in
      let left = λ (number : ℕ) (post : Posted) (is : slice_get next.posted number ≡ Some post).
      left_state (suc number) post (back number post is) (sets.others post.key (differs number post is)) in
      record {
        differ = λ i j first second a b same.
            let later : suc i ≡ suc j = old.differ (suc i) (suc j) first second (back i first a) (back j second b) same in omega arith;
        by_running = λ number post is.
            let request = old_request (suc number) post (back number post is) in (request.place, request.running_is, request.at_is, request.cleared);
        state_of = λ number post is.
            let state = left number post is in
            (state.0, state.1, behind-any number number state.0.state state.2);
        drained = λ key right swept is state.
            ⊎_elim
            (λ same. absurd (none-some right (sym sets.here ∙ ap (fin.get next.tables.rights) (sym same) ∙ is)))
            (λ differ.
            let was = left_drained key right swept (sets.others key differ) is state in
            let same : was.0 ≡ front = same_Some was.0 front (sym was.1 ∙ front_is front rest at_front) in
            absurd (differ (sym was.2 ∙ ap (λ (x : Posted). x.key) same)))
            (cases_key key front.key);
        held = λ number post right is is_right.
            let state = left number post is in
            let same : state.0 ≡ right = same_Some state.0 right (sym state.1 ∙ is_right) in
            held_by post (old_request (suc number) post (back number post is)) right
            (λ was is_was. state.3 was is_was ∙ ap (λ (r : Right). r.file) same);
      }

  posted_posts : (key : Key) → IsPassed m p → ((other : Key) → fin.get next.tables.rights other ≡ fin.get m.tables.rights other) →
      next.posted ≡ m.posted ++ (record { key = key; by = p.at }) ∷ [] → unposted m (keys_to_revoke m.store p p.call) ≡ Some key → ArePosted next
  posted_posts key passes same posted found =
      let new = newly_posted key passes found in
      let joined = λ (number : ℕ) (post : Posted) (is : slice_get next.posted number ≡ Some post).
      get_joined m.posted (record { key = key; by = p.at }) number post (ap (λ (ps : List Posted). slice_get ps number) (sym posted) ∙ is) in
      let not_old : (number : ℕ) (post : Posted) → slice_get m.posted number ≡ Some post → post.key ≢ key =
      λ number post is same_key_is.
      both_ways (is_posted m.posted key) new.not_posted (ap (is_posted m.posted) (sym same_key_is) ∙ request_posts m.posted number post is) in
      let request : (number : ℕ) (post : Posted) → slice_get next.posted number ≡ Some post → IsRequest post =
      λ number post is.
      ⊎_elim {C = IsRequest post}
      (λ was. old_request number post was)
      (λ it. subst IsRequest it.1 (new_request key new))
      (joined number post is) in
      record {
        differ = λ i j first second a b same_keys.
            ⊎_elim {C = i ≡ j}
            (λ was_a.
            ⊎_elim {C = i ≡ j}
            (λ was_b. old.differ i j first second was_a was_b same_keys)
            (λ new_b. absurd (not_old i first was_a (same_keys ∙ sym (ap (λ (x : Posted). x.key) new_b.1))))
            (joined j second b))
            (λ new_a.
            ⊎_elim {C = i ≡ j}
            (λ was_b. absurd (not_old j second was_b (sym same_keys ∙ sym (ap (λ (x : Posted). x.key) new_a.1))))
            (λ new_b. new_a.0 ∙ sym new_b.0)
            (joined j second b))
            (joined i first a);
        by_running = λ number post is. let it = request number post is in (it.place, it.running_is, it.at_is, it.cleared);
        state_of = λ number post is.
            ⊎_elim {C = (right : Right) × (fin.get next.tables.rights post.key ≡ Some right) × IsPostedState number right.state}
            (λ was. let state = left_state number post was (same post.key) in (state.0, state.1, state.2))
            (λ it.
            let of_key : key ≡ post.key = ap (λ (x : Posted). x.key) it.1 in (
              new.right,
              ap (fin.get next.tables.rights) (sym of_key) ∙ same key ∙ new.is,
              subst (IsPostedState number) (sym new.state) tt,
            ))
            (joined number post is);
        drained = λ other right swept is state.
            let front = left_drained other right swept (same other) is state in (
              front.0,
              ap (λ (ps : List Posted). slice_get ps 0) posted ∙ first_joined m.posted (record { key = key; by = p.at }) front.0 front.1,
              front.2,
            );
        held = λ number post right is is_right.
            held_by post (request number post is) right
            (λ was is_was. ap (λ (r : Right). r.file) (same_Some was right (sym is_was ∙ sym (same post.key) ∙ is_right)));
      }

  pub posted_next : Changes m next p entry → ArePosted next
  posted_next (leaves same posted) = posted_leaves same posted
  posted_next (attaches new of on none sets posted) = posted_attaches new of on none sets posted
  posted_next (clears new was is_was on sets posted is_e none) = posted_clears new was is_was on sets posted
  posted_next (posts key passes same posted found none) = posted_posts key passes same posted found
  posted_next (moves front rest was swept at_front is_was revoked_is sets posted none) = posted_moves front rest was swept at_front is_was sets posted
  posted_next (detaches front rest was at_front is_was revoked_is sets posted) = posted_detaches front rest at_front sets posted
