-- After an effective turn each right that is revoked is being revoked by the holder of its file, and at most one on a file is
-- not posted.
use Rattle.std.proofs.Common.{◌≡◌, ◌≢◌, ◌⊎◌, inl, inr, ℕ, ◌<◌, Bool, true, false, not, ◌||◌, List, [], ◌∷◌, ◌++◌, Option, None, Some, refl, sym, ap, ◌∙◌, subst, ⊎_elim}
use Rattle.std.specs.Option.{option_to_list}
use Rattle.std.specs.List.{list_any}
use Rattle.std.specs.FinMap as fin
use Rattle.std.proofs.lemmas.Bool.{both_ways, cases_Bool, cases_eq, false≢true, or_from, or_left, or_parts, or_right}
use Rattle.std.proofs.lemmas.List.Folds.{list_any-append}
use Rattle.std.proofs.lemmas.Option.{none-some, same_Some}
use Rattle.std.specs.Cmp.{tied_itself}
use Rattle.std.specs.Ordering.{is_eq}
use Rattle.bd_base.specs.declared.key.Key.{Key}
use Rattle.bd_base.specs.declared.script.Call.{Call}
use Rattle.bd_base.specs.declared.script.Call.TheVariants.{Enter}
use Rattle.bd_base.specs.declared.script.How.TheVariants as hows
use Rattle.bd_base.specs.declared.volume.Volume.{Volume}
use Rattle.bd_base.specs.Keys.{key_cmp_total, same_key, same_key-is}
use Rattle.bd_entry.specs.declared.entry.Entry.{Entry}
use Rattle.bd_entry.specs.declared.entry.Entry.TheVariants as entries
use Rattle.bd_entry.specs.Actions.{keys_to_revoke}
use Rattle.bd_entry.specs.Calls.{Place, is_end_of}
use Rattle.bd_entry.specs.Refusals.{file_of}
use Rattle.bd_entry.specs.Rules.{RightFile, Rights}
use Rattle.bd_entry.specs.RulesOfRights.{LowersWhereTruncates}
use Rattle.bd_entry.specs.Store.{Descriptor, size_in}
use Rattle.bd_tables.specs.declared.state.Right.{Right}
use Rattle.bd_tables.specs.declared.state.RightState.{RightState}
use Rattle.bd_tables.specs.declared.state.RightState.TheVariants as states
use Rattle.bd_turns.specs.Processors.{is_on, is_on_state, is_posted, unposted}
use Rattle.bd_turns.specs.Reached.{IsReached}
use Rattle.bd_turns.specs.Sound.{AreRevokedByHolders, IsBeingRevoked, IsOneUnposted, is_clear_at, is_revoked}
use Rattle.bd_turns.specs.State.{Posted, Progress, State, progress_of, running}
use Rattle.bd_turns.proofs.CallsAfterTurns.{GoesOn}
use Rattle.bd_turns.proofs.EffectiveTurns.{IsGoing, Turned}
use Rattle.bd_turns.proofs.EndsOfRevocations as ending
use Rattle.bd_turns.proofs.EntriesOfCalls.{added_made, added_place, cleared_by, clears-throughout}
use Rattle.bd_turns.proofs.KeysOfCalls.{none_of_call}
use Rattle.bd_turns.proofs.RightsAfterTurns.{Changes, attaches, clears, detaches, leaves, moves, other_keys, posts}

-- ---- keys

-- a key is the same as itself
pub same_key-self : (key : Key) → same_key key key ≡ true
same_key-self key = ap is_eq (tied_itself key_cmp_total key)

-- two keys are the same, or not
pub cases_key : (a b : Key) → (a ≡ b) ⊎ (a ≢ b)
cases_key a b =
    ⊎_elim
    (λ same. inl (same_key-is a b same))
    (λ other. inr (λ same. both_ways (same_key a b) other (ap (same_key a) (sym same) ∙ same_key-self a)))
    (cases_Bool (same_key a b))

-- a state is revoked where it is not on
pub revoked-not_on : (state : RightState) → is_revoked state ≡ true → is_on_state state ≡ false
revoked-not_on states.On revoked = absurd (false≢true revoked)
revoked-not_on states.Cleared revoked = refl
revoked-not_on (states.Drained swept) revoked = refl

pub not_on-revoked : (state : RightState) → is_on_state state ≡ false → is_revoked state ≡ true
not_on-revoked states.On off = absurd (false≢true (sym off))
not_on-revoked states.Cleared off = refl
not_on-revoked (states.Drained swept) off = refl

-- no call ends by clearing a right
clear-ends_not : (call : Call) (key : Key) (at : _) → is_end_of call (entries.Cleared at key.process key.fd key.part) ≡ false
clear-ends_not (Enter name mode hows.Plain) key at = refl
clear-ends_not (Enter name mode hows.Direct) key at = refl
clear-ends_not call key at = refl

module _ (v : Volume) (m next : State) (p : Place) (entry : Option Entry) (g : Progress) (reached : IsReached v m) (t : Turned v m next p entry g) where
  abbrev process : ℕ
  process = p.at.process

  abbrev added : List Entry
  added = option_to_list entry

  -- ---- a right that is being revoked

  -- the process holds the file still, and its running call, which is the same, has cleared the right
  pub record IsRevoking (key : Key) (file holder : ℕ) (place : Place) : Type 0 where
    pub held : (progress_of next holder).held ≡ Some file
    pub after : Place
    pub running_is : running next holder ≡ Some after
    pub at_is : after.at ≡ place.at
    pub cleared : list_any (is_clear_at key) after.before ≡ true

  -- a right that its call cleared is being revoked after the turn too, as long as it is attached
  pub stays_revoking : (key : Key) (right : Right) (holder : ℕ) (place : Place) → fin.get m.tables.rights key ≡ Some right →
      (progress_of m holder).held ≡ Some right.file → running m holder ≡ Some place → list_any (is_clear_at key) place.before ≡ true →
      IsRevoking key right.file holder place
  stays_revoking key right holder place is held runs cleared =
      ⊎_elim
      (λ same.
      let mine : p ≡ place = same_Some p place (sym t.runs ∙ ap (running m) (sym same) ∙ runs) in
      let held_mine : (progress_of m process).held ≡ Some right.file = ap (λ (k : ℕ). (progress_of m k).held) (sym same) ∙ held in
      let cleared_mine : list_any (is_clear_at key) p.before ≡ true = subst (λ (x : Place). list_any (is_clear_at key) x.before ≡ true) (sym mine) cleared in
      ⊎_elim
      (λ goes. own key right holder place same mine is held_mine cleared_mine goes)
      (λ ends. absurd (ending.revoking-ends_not v m next p entry g reached t key right is held_mine cleared_mine ends))
      t.follows.own)
      (λ differ. record {
        held = ap (λ (x : Progress). x.held) (t.follows.others holder differ) ∙ held;
        after = place;
        running_is = t.follows.other_running holder differ ∙ runs;
        at_is = refl;
        cleared = cleared;
      })
      (cases_eq holder process)
    where
      own : (key : Key) (right : Right) (holder : ℕ) (place : Place) → holder ≡ p.at.process → p ≡ place → fin.get m.tables.rights key ≡ Some right →
          (progress_of m p.at.process).held ≡ Some right.file → list_any (is_clear_at key) p.before ≡ true →
          GoesOn next p (option_to_list entry) g → IsRevoking key right.file holder place
      own key right holder place same mine is held cleared goes =
          let going : IsGoing m p entry g = t.going goes.unended in
          let through = ending.revoking-through v m next p entry g reached t key right is held cleared in
          let file = ending.revoking-file v m next p entry g reached t key right is held cleared in
          let any : list_any (is_clear_at key) (p.before ++ option_to_list entry) ≡ true =
          list_any-append (is_clear_at key) p.before (option_to_list entry)
          ∙ or_left (list_any (is_clear_at key) p.before) (list_any (is_clear_at key) (option_to_list entry)) cleared in
          let some : p.before ++ option_to_list entry ≢ [] = λ none. false≢true (sym (ap (list_any (is_clear_at key)) none) ∙ any) in
          let holds = going.through through some in
          let same_file : holds.0 ≡ right.file = same_Some holds.0 right.file (sym holds.1 ∙ file) in
          record {
            held =
                ap (λ (k : ℕ). (progress_of next k).held) same ∙ ap (λ (x : Progress). x.held) goes.progress_is ∙ holds.2 ∙ ap Some same_file;
            after = record p { before = p.before ++ option_to_list entry };
            running_is = ap (running next) same ∙ goes.running_is;
            at_is = ap (λ (x : Place). x.at) mine;
            cleared = any;
          }

  -- a turn that clears a right goes on with its call
  pub clearing_goes : (key : Key) → entry ≡ Some (entries.Cleared p.at key.process key.fd key.part) → GoesOn next p added g
  clearing_goes key is =
      let e : Entry = entries.Cleared p.at key.process key.fd key.part in
      let through = clears-throughout p.call p.at key.process key.fd key.part (added_made v m p e (t.added e is)) in
      ⊎_elim
      (λ goes. goes)
      (λ ends.
      let end = ending.ended_by_entry v m next p entry g reached t ends through in
      let same : e ≡ end.0 = same_Some e end.0 (sym is ∙ end.1) in
      absurd (both_ways (is_end_of p.call e) (clear-ends_not p.call key p.at) (ap (is_end_of p.call) same ∙ end.2)))
      t.follows.own

  -- the file of a right that the turn clears is that of its call
  pub clearing_file : (key : Key) (right : Right) → fin.get m.tables.rights key ≡ Some right →
      entry ≡ Some (entries.Cleared p.at key.process key.fd key.part) → file_of m.store p ≡ Some right.file
  clearing_file key right is is_e =
      let e : Entry = entries.Cleared p.at key.process key.fd key.part in
      let a = t.added e is_e in
      let of = a.next.keeps RightFile in
      let told = reached.sound.tables_are.rights.told key right is in
      let same : of.0 ≡ told.0 = same_Some of.0 told.0 (sym of.1 ∙ told.1) in
      subst (λ (x : Place). file_of m.store x ≡ Some of.0.file) (added_place v m p e a) of.2
      ∙ ap Some (ap (λ (d : Descriptor). d.file) same ∙ sym told.2.file)

  -- ---- rights before and after

  -- a revoked right was so before, on the same file, or the turn cleared it
  record WasRevoked (key : Key) (right : Right) : Type 0 where
    old : Right
    is : fin.get m.tables.rights key ≡ Some old
    same_file : old.file ≡ right.file
    revoked : is_revoked old.state ≡ true

  record IsCleared (key : Key) (right : Right) : Type 0 where
    old : Right
    is : fin.get m.tables.rights key ≡ Some old
    same_file : old.file ≡ right.file
    entry_is : entry ≡ Some (entries.Cleared p.at key.process key.fd key.part)
    none_unposted : unposted m (keys_to_revoke m.store p p.call) ≡ None

  on-revoked_not : (right : Right) → right.state ≡ states.On → is_revoked right.state ≡ true → ⊥
  on-revoked_not right on revoked = false≢true (sym (ap is_revoked on) ∙ revoked)

  same_before : (key : Key) (right : Right) → fin.get next.tables.rights key ≡ fin.get m.tables.rights key →
      fin.get next.tables.rights key ≡ Some right → is_revoked right.state ≡ true → WasRevoked key right
  same_before key right same is revoked = record { old = right; is = sym same ∙ is; same_file = refl; revoked = revoked }

  before : Changes m next p entry → (key : Key) (right : Right) → fin.get next.tables.rights key ≡ Some right → is_revoked right.state ≡ true →
      WasRevoked key right ⊎ IsCleared key right
  before (leaves same posted) key right is revoked = inl (same_before key right (same key) is revoked)
  before (attaches new of on none sets posted) key right is revoked =
      ⊎_elim
      (λ same.
      let here : of ≡ right = same_Some of right (sym sets.here ∙ ap (fin.get next.tables.rights) (sym same) ∙ is) in
      absurd (on-revoked_not of on (ap (λ (r : Right). is_revoked r.state) here ∙ revoked)))
      (λ differ. inl (same_before key right (sets.others key differ) is revoked))
      (cases_key key new)
  before (clears new old was on sets posted is_e none) key right is revoked =
      ⊎_elim
      (λ same.
      let here : record old { state = states.Cleared } ≡ right = same_Some (record old { state = states.Cleared }) right
      (sym sets.here ∙ ap (fin.get next.tables.rights) (sym same) ∙ is) in
      inr (record {
        old = old;
        is = ap (fin.get m.tables.rights) same ∙ was;
        same_file = ap (λ (r : Right). r.file) here;
        entry_is = is_e ∙ ap (λ (k : Key). Some (entries.Cleared p.at k.process k.fd k.part)) (sym same);
        none_unposted = none;
      }))
      (λ differ. inl (same_before key right (sets.others key differ) is revoked))
      (cases_key key new)
  before (posts new passes same posted found none) key right is revoked = inl (same_before key right (same key) is revoked)
  before (moves post rest old swept front was old_revoked sets posted none) key right is revoked =
      ⊎_elim
      (λ same.
      let here : record old { state = states.Drained swept } ≡ right = same_Some (record old { state = states.Drained swept }) right
      (sym sets.here ∙ ap (fin.get next.tables.rights) (sym same) ∙ is) in
      inl (record {
        old = old;
        is = ap (fin.get m.tables.rights) same ∙ was;
        same_file = ap (λ (r : Right). r.file) here;
        revoked = old_revoked;
      }))
      (λ differ. inl (same_before key right (sets.others key differ) is revoked))
      (cases_key key post.key)
  before (detaches post rest old front was old_revoked sets posted) key right is revoked =
      ⊎_elim
      (λ same. absurd (none-some right (sym sets.here ∙ ap (fin.get next.tables.rights) (sym same) ∙ is)))
      (λ differ. inl (same_before key right (sets.others key differ) is revoked))
      (cases_key key post.key)

  -- a key that is attached and not posted was not posted before
  unposted_before : Changes m next p entry → (key : Key) (right : Right) → fin.get next.tables.rights key ≡ Some right →
      is_posted next.posted key ≡ false → is_posted m.posted key ≡ false
  unposted_before (leaves same posted) key right is none = ap (λ (ps : List Posted). is_posted ps key) (sym posted) ∙ none
  unposted_before (attaches new of on nothing sets posted) key right is none = ap (λ (ps : List Posted). is_posted ps key) (sym posted) ∙ none
  unposted_before (clears new old was on sets posted is_e nothing) key right is none = ap (λ (ps : List Posted). is_posted ps key) (sym posted) ∙ none
  unposted_before (posts new passes same posted found nothing) key right is none =
      (or_parts (is_posted m.posted key) (is_posted ((record { key = new; by = p.at }) ∷ []) key)
      (sym (list_any-append (λ (post : Posted). same_key post.key key) m.posted ((record { key = new; by = p.at }) ∷ []))
      ∙ ap (λ (ps : List Posted). is_posted ps key) (sym posted) ∙ none)).0
  unposted_before (moves post rest old swept front was old_revoked sets posted nothing) key right is none =
      ap (λ (ps : List Posted). is_posted ps key) (sym posted) ∙ none
  unposted_before (detaches post rest old front was old_revoked sets posted) key right is none =
      let differ : post.key ≢ key =
      λ same. none-some right (sym sets.here ∙ ap (fin.get next.tables.rights) same ∙ is) in
      ap (λ (ps : List Posted). is_posted ps key) front.posted_is
      ∙ or_from (same_key post.key key) (is_posted rest key) (other_keys post.key key differ)
      (ap (λ (ps : List Posted). is_posted ps key) (sym posted) ∙ none)

  -- ---- after the turn

  old_being : (key : Key) (right : Right) → WasRevoked key right → IsBeingRevoked next key right
  old_being key right was =
      let by = reached.sound.holds_are.revoked key was.old was.is was.revoked in
      let stays = stays_revoking key was.old by.holder by.place was.is by.held by.running_is by.cleared in
      record {
        holder = by.holder;
        held = stays.held ∙ ap Some was.same_file;
        place = stays.after;
        running_is = stays.running_is;
        cleared = stays.cleared;
      }

  new_being : (key : Key) (right : Right) → IsCleared key right → IsBeingRevoked next key right
  new_being key right by =
      let e : Entry = entries.Cleared p.at key.process key.fd key.part in
      let goes = clearing_goes key by.entry_is in
      let through = clears-throughout p.call p.at key.process key.fd key.part (added_made v m p e (t.added e by.entry_is)) in
      let any : list_any (is_clear_at key) (p.before ++ added) ≡ true =
      list_any-append (is_clear_at key) p.before added
      ∙ or_right (list_any (is_clear_at key) p.before) (list_any (is_clear_at key) added)
      (ap (λ (o : Option Entry). list_any (is_clear_at key) (option_to_list o)) by.entry_is
      ∙ or_left (same_key key key) false (same_key-self key)) in
      let some : p.before ++ added ≢ [] = λ none. false≢true (sym (ap (list_any (is_clear_at key)) none) ∙ any) in
      let holds = (t.going goes.unended).through through some in
      let same : holds.0 ≡ right.file =
      same_Some holds.0 right.file (sym holds.1 ∙ clearing_file key by.old by.is by.entry_is ∙ ap Some by.same_file) in
      record {
        holder = process;
        held = ap (λ (x : Progress). x.held) goes.progress_is ∙ holds.2 ∙ ap Some same;
        place = record p { before = p.before ++ added };
        running_is = goes.running_is;
        cleared = any;
      }

  pub revoked_next : Changes m next p entry → AreRevokedByHolders next
  revoked_next c key right is revoked =
      ⊎_elim (old_being key right) (new_being key right) (before c key right is revoked)

  -- ---- of those that are not posted

  -- where a right is cleared, no other on its file is revoked and not posted
  only_cleared : (new key : Key) (a b : Right) → IsCleared new a → WasRevoked key b → a.file ≡ b.file → is_posted m.posted key ≡ false → ⊥
  only_cleared new key a b by was same none =
      let e : Entry = entries.Cleared p.at new.process new.fd new.part in
      let s = m.store in
      let added_is = t.added e by.entry_is in
      let file : file_of s p ≡ Some was.old.file =
      clearing_file new by.old by.is by.entry_is ∙ ap Some (by.same_file ∙ same ∙ sym was.same_file) in
      let revoking = reached.sound.holds_are.revoked key was.old was.is was.revoked in
      let mine : revoking.holder ≡ process = t.alone e by.entry_is refl was.old.file revoking.holder file revoking.held in
      let place : revoking.place ≡ p =
      same_Some revoking.place p (sym revoking.running_is ∙ ap (running m) mine ∙ t.runs) in
      let cleared : list_any (is_clear_at key) p.before ≡ true =
      subst (λ (x : Place). list_any (is_clear_at key) x.before ≡ true) place revoking.cleared in
      let told = reached.sound.tables_are.rights.told key was.old was.is in
      let right_of = added_is.next.keeps Rights in
      let of = added_is.next.keeps RightFile in
      let its_file : right_of.0.file ≡ told.0.file =
      same_Some right_of.0.file told.0.file
      (sym (subst (λ (x : Place). file_of s x ≡ Some right_of.0.file) (added_place v m p e added_is)
      (of.2 ∙ ap (λ (d : Descriptor). Some d.file) (same_Some of.0 right_of.0 (sym of.1 ∙ right_of.1))))
      ∙ file ∙ ap Some told.2.file) in
      let check : Key → Bool = λ k. not (is_on (fin.get m.tables.rights k) || is_posted m.posted k) in
      let fails : check key ≡ false =
      none_of_call s p check key told.0 by.none_unposted told.1 told.2.attached (file ∙ ap Some told.2.file)
      (cleared_by v m p key reached.history t.runs cleared)
      (λ fd size call.
      subst (λ (k : ℕ). size < size_in s k) its_file (subst (λ (c : Call). LowersWhereTruncates s c right_of.0.file) call right_of.2.1)) in
      let passes : check key ≡ true =
      ap not (or_from (is_on (fin.get m.tables.rights key)) (is_posted m.posted key)
      (ap is_on was.is ∙ revoked-not_on was.old.state was.revoked) none) in
      both_ways (check key) fails passes

  pub one_unposted_next : Changes m next p entry → IsOneUnposted next
  one_unposted_next c first second a b is_a is_b same revoked_a revoked_b none_a none_b =
      let old_a : is_posted m.posted first ≡ false = unposted_before c first a is_a none_a in
      let old_b : is_posted m.posted second ≡ false = unposted_before c second b is_b none_b in
      ⊎_elim
      (λ was_a.
      ⊎_elim
      (λ was_b.
      reached.sound.holds_are.one_unposted first second was_a.old was_b.old was_a.is was_b.is (was_a.same_file ∙ same ∙ sym was_b.same_file) was_a.revoked
      was_b.revoked old_a old_b)
      (λ new_b. absurd (only_cleared second first b a new_b was_a (sym same) old_a))
      (before c second b is_b revoked_b))
      (λ new_a.
      ⊎_elim
      (λ was_b. absurd (only_cleared first second a b new_a was_b same old_b))
      (λ new_b. same_cleared first second (same_Some _ _ (sym new_a.entry_is ∙ new_b.entry_is)))
      (before c second b is_b revoked_b))
      (before c first a is_a revoked_a)
    where
      key_in : Entry → Key
      key_in (entries.Cleared at owner fd part) = record { process = owner; fd = fd; part = part }
      key_in e = record { process = 0; fd = 0; part = 0 }

      same_cleared : (first second : Key) →
          entries.Cleared p.at first.process first.fd first.part ≡ entries.Cleared p.at second.process second.fd second.part → first ≡ second
      same_cleared first second same = ap key_in same
