-- What each kind of turn leaves of the turns that revocations take, for every test of rights.
use Rattle.std.proofs.Common.{◌≡◌, ℕ, ◌+◌, ◌≤◌, Bool, true, false, List, [], ◌∷◌, ◌++◌, Option, None, Some, refl, sym, ap, ◌∙◌, subst, arith}
use Rattle.std.specs.Prelude.{drop}
use Rattle.std.specs.Option.{option_map_or}
use Rattle.std.specs.FinMap as fin
use Rattle.std.proofs.lemmas.Bool.{both_ways}
use Rattle.std.proofs.lemmas.Option.{none-some, same_Some}
use Rattle.bd_base.specs.declared.journal.At.{At}
use Rattle.bd_base.specs.declared.key.Key.{Key}
use Rattle.bd_base.specs.declared.volume.Volume.{Volume}
use Rattle.bd_base.specs.Keys.{key_cmp_total}
use Rattle.bd_entry.specs.declared.entry.Entry.{Entry}
use Rattle.bd_entry.specs.declared.entry.Entry.TheVariants as entries
use Rattle.bd_entry.specs.Calls.{Place}
use Rattle.bd_entry.specs.Rules.{Rights}
use Rattle.bd_entry.specs.Store.{Descriptor, Store, descriptor_at}
use Rattle.bd_entry.proofs.Slots.{some_of}
use Rattle.bd_tables.specs.declared.state.Right.{Right}
use Rattle.bd_tables.specs.declared.state.RightState.{RightState}
use Rattle.bd_tables.specs.declared.state.RightState.TheVariants as states
use Rattle.bd_tables.specs.Effects as effects
use Rattle.bd_tables.specs.State.{TableState}
use Rattle.bd_tables.specs.State.{Rights as AllRights}
use Rattle.bd_tables.proofs.Maps.{other_key, other_key-change, other_key-remove, same_key-insert, same_key-remove}
use Rattle.bd_turns.specs.declared.turn.Row.{Row}
use Rattle.bd_turns.specs.Added.{IsAdded}
use Rattle.bd_turns.specs.Engines as engines
use Rattle.bd_turns.specs.Engines.{invalidation_of}
use Rattle.bd_turns.specs.Processors.{is_posted}
use Rattle.bd_turns.specs.Reached.{IsReached}
use Rattle.bd_turns.specs.Rest.{right_turns}
use Rattle.bd_turns.specs.Sound.{IsRightOf}
use Rattle.bd_turns.specs.State.{Posted, State, running}
use Rattle.bd_turns.specs.Turns.{attached_tables, may_write, posting_place, tables_after}
use Rattle.bd_turns.proofs.AddedEntries.{is_detach}
use Rattle.bd_turns.proofs.AttachTurns.{attached_slot}
use Rattle.bd_turns.proofs.FilesOfCalls.{store_after}
use Rattle.bd_turns.proofs.OtherTurns.{FailsAttached, LeavesRights}
use Rattle.bd_turns.proofs.OwnRevocations as own
use Rattle.bd_turns.proofs.RevocationTurns.{NoneRises, attach_rises_not, change_rises_not, post_rises_not, remove_rises_not, stay_rises_not}
use Rattle.bd_turns.proofs.RightsAfterTurns.{on_from, other_keys, state_set}
use Rattle.bd_turns.proofs.RightsOfTurns.{KeepsTest, Lowers, front_posted, lowers_by}

-- a turn without an entry that leaves the rights
pub leaves_all : (m next : State) (p : Place) (entry : Option Entry) → ((key : Key) → fin.get next.tables.rights key ≡ fin.get m.tables.rights key) →
    next.posted ≡ m.posted → ((at : At) (owner fd part : ℕ) → entry ≡ Some (entries.Detached at owner fd part) → ⊥) → LeavesRights m next p entry
leaves_all m next p entry stays posted none = record {
  rise_not = λ test keeps fails.
      subst (λ (l : List Posted). NoneRises m.tables.rights m.posted next.tables.rights l test) (sym posted)
      (stay_rises_not m.tables.rights next.tables.rights m.posted test stays);
  detached = λ at owner fd part is. absurd (none at owner fd part is);
}

-- a turn that posts
pub leaves_posting : (m next : State) (p : Place) (post : Posted) → ((key : Key) → fin.get next.tables.rights key ≡ fin.get m.tables.rights key) →
    next.posted ≡ m.posted ++ post ∷ [] → LeavesRights m next p None
leaves_posting m next p post stays posted = record {
  rise_not = λ test keeps fails.
      subst (λ (l : List Posted). NoneRises m.tables.rights m.posted next.tables.rights l test) (sym posted)
      (post_rises_not m.tables.rights next.tables.rights m.posted post stays test);
  detached = λ at owner fd part is. absurd (none-some (entries.Detached at owner fd part) is);
}

module _ (v : Volume) (m next : State) (p : Place) (reached : IsReached v m) (runs : running m p.at.process ≡ Some p) where
  -- the right of the request at the front
  front : posting_place m ≡ Some p → own.AtFront v m next p reached runs (λ key right. true) (λ key right state. refl) (λ key right is. refl)
  front place = own.at_front v m next p reached runs (λ key right. true) (λ key right state. refl) (λ key right is. refl) place

  -- a turn of the invalidation engine that changes the tables
  pub leaves_changing : (row : Row) (tables : TableState) → posting_place m ≡ Some p →
      invalidation_of m.tables m.posted ≡ Some (engines.Changes row tables) → next.tables ≡ tables → next.posted ≡ m.posted → LeavesRights m next p None
  leaves_changing row tables place acting same posted =
      let at = front place in
      let does =
      own.step_at_front v m next p reached runs (λ key right. true) (λ key right state. refl) (λ key right is. refl) at (engines.Changes row tables) acting in
      let low : Lowers m.tables tables at.post.key at.right =
      lowers_by m.tables tables at.post at.right at.own.there at.right.state refl (engines.Changes row tables) does refl in
      let there : is_posted m.posted at.post.key ≡ true = front_posted m.posted at.post at.rest at.list in
      let less : right_turns (is_posted m.posted at.post.key) low.state ≤ right_turns (is_posted m.posted at.post.key) at.right.state =
      subst (λ (b : Bool). right_turns b low.state ≤ right_turns b at.right.state) (sym there) (weaker _ _ low.less) in
      record {
        rise_not = λ test keeps fails.
            subst (λ (l : List Posted). NoneRises m.tables.rights m.posted next.tables.rights l test) (sym posted)
            (change_rises_not m.tables.rights next.tables.rights m.posted at.post.key at.right (record at.right { state = low.state }) at.own.there
            (ap (λ (t : TableState). fin.get t.rights at.post.key) same ∙ low.now)
            (λ other differ. ap (λ (t : TableState). fin.get t.rights other) same ∙ low.others other differ) test
            (keeps at.post.key at.right low.state) less);
        detached = λ at owner fd part is. absurd (none-some (entries.Detached at owner fd part) is);
      }
    where
      weaker : (a b : ℕ) → a + 1 ≤ b → a ≤ b
      weaker a b less = omega arith

  -- one that ends a request
  pub leaves_ending : (e : Entry) (tables : TableState) → posting_place m ≡ Some p →
      invalidation_of m.tables m.posted ≡ Some (engines.Ends e tables) → next.tables ≡ tables → next.posted ≡ drop 1 m.posted →
      ((at : own.AtFront v m next p reached runs (λ key right. true) (λ key right state. refl) (λ key right is. refl)) →
      e ≡ entries.Detached at.post.by at.post.key.process at.post.key.fd at.post.key.part) → LeavesRights m next p (Some e)
  leaves_ending e tables place acting same posted entry_is =
      let at = front place in
      let post : Posted = at.post in
      let does =
      own.step_at_front v m next p reached runs (λ key right. true) (λ key right state. refl) (λ key right is. refl) at (engines.Ends e tables) acting in
      let detached : next.tables ≡ effects.detach m.tables post.key =
      same
      ∙ own.ends_to v m next p reached runs (λ key right. true) (λ key right state. refl) (λ key right is. refl) post e tables at.right.state does in
      let left : next.posted ≡ at.rest = posted ∙ ap (drop 1) at.list in
      record {
        rise_not = λ test keeps fails.
            subst (λ (l : List Posted). NoneRises m.tables.rights l next.tables.rights next.posted test) (sym at.list)
            (subst (λ (l : List Posted). NoneRises m.tables.rights (post ∷ at.rest) next.tables.rights l test) (sym left)
            (remove_rises_not m.tables.rights next.tables.rights post at.rest
            (ap (λ (t : TableState). fin.get t.rights post.key) detached ∙ same_key-remove key_cmp_total m.tables.rights post.key)
            (λ other differ.
            ap (λ (t : TableState). fin.get t.rights other) detached
            ∙ other_key-remove key_cmp_total m.tables.rights post.key other (other_keys other post.key differ)) test));
        detached = λ by owner fd part is.
            let told = reached.sound.tables_are.rights.told post.key at.right at.own.there in
            let names : entries.Detached by owner fd part ≡ entries.Detached post.by post.key.process post.key.fd post.key.part =
            sym (same_Some e (entries.Detached by owner fd part) is) ∙ entry_is at in
            let key : Key = record { process = owner; fd = fd; part = part } in
            let key_is : key ≡ post.key = ap key_in names in
            (told.0, subst (λ (k : Key). descriptor_at m.store k.process k.fd ≡ Some told.0) (sym key_is) told.1, at.held ∙ ap Some told.2.file);
      }
    where
      key_in : Entry → Key
      key_in (entries.Detached by owner fd part) = record { process = owner; fd = fd; part = part }
      key_in x = record { process = 0; fd = 0; part = 0 }

  -- ---- entries of processors

  -- a right that is cleared was not revoked
  cleared_right : (at : At) (owner fd part : ℕ) → IsAdded v m p (entries.Cleared at owner fd part) →
      let key : Key = record { process = owner; fd = fd; part = part } in
      (right : Right) × (fin.get m.tables.rights key ≡ Some right) × (right.state ≡ states.On)
  cleared_right at owner fd part added =
      let key : Key = record { process = owner; fd = fd; part = part } in
      let legal = added.next.keeps Rights in
      let right = some_of (fin.get m.tables.rights key) (reached.sound.tables_are.rights.all key legal.0 legal.1 legal.2.0.attached) in
      let told = reached.sound.tables_are.rights.told key right.0 right.1 in
      let is_of : IsRightOf key right.0 legal.0 = subst (IsRightOf key right.0) (same_Some told.0 legal.0 (sym told.1 ∙ legal.1)) told.2 in
      (right.0, right.1, on_from right.0.state (sym is_of.cleared ∙ legal.2.0.not_cleared))

  -- an entry that a processor adds
  pub leaves_adding : (e : Entry) → IsAdded v m p e → is_detach e ≡ false → next.store ≡ store_after m.store p.call e →
      next.tables ≡ tables_after next.store m.tables e → next.posted ≡ m.posted → LeavesRights m next p (Some e)
  leaves_adding e added detaches_not store tables posted = record {
    rise_not = λ test keeps fails.
        subst (λ (l : List Posted). NoneRises m.tables.rights m.posted next.tables.rights l test) (sym posted) (by e added store tables test keeps fails);
    detached = λ at owner fd part is.
        absurd
        (both_ways (is_detach e) detaches_not (ap is_detach (same_Some e (entries.Detached at owner fd part) is)));
  }
    where
      stays : (x : Entry) (test : Key → Right → Bool) → next.tables ≡ tables_after next.store m.tables x →
          (tables_after next.store m.tables x).rights ≡ m.tables.rights → NoneRises m.tables.rights m.posted next.tables.rights m.posted test
      stays x test tables same =
          stay_rises_not m.tables.rights next.tables.rights m.posted test
          (λ key. ap (λ (t : TableState). fin.get t.rights key) tables ∙ ap (λ (rights : AllRights). fin.get rights key) same)

      less : (b : Bool) (state : RightState) → state ≡ states.On → right_turns b states.Cleared ≤ right_turns b state
      less true state on = let is : right_turns true state ≡ 20 = ap (right_turns true) on in omega arith
      less false state on = let is : right_turns false state ≡ 20 = ap (right_turns false) on in omega arith

      by : (x : Entry) → IsAdded v m p x → next.store ≡ store_after m.store p.call x → next.tables ≡ tables_after next.store m.tables x →
          (test : Key → Right → Bool) → KeepsTest test → FailsAttached m (Some x) test →
          NoneRises m.tables.rights m.posted next.tables.rights m.posted test
      by (entries.Attached at fd part) added store tables test keeps fails =
          let key : Key = record { process = at.process; fd = fd; part = part } in
          let legal = added.next.keeps Rights in
          let d : Descriptor = legal.0 in
          let now = attached_slot m.store p.call at fd part d legal.1 in
          let right : Right = effects.new_right now.0.file (may_write now.0.mode) in
          let there : descriptor_at next.store at.process fd ≡ Some now.0 =
          ap (λ (s : Store). descriptor_at s at.process fd) store ∙ now.1 in
          let same : next.tables ≡ attached_tables next.store m.tables at.process fd part now.0 =
          tables ∙ ap (λ (slot : Option Descriptor). option_map_or (attached_tables next.store m.tables at.process fd part) slot m.tables) there in
          let fails_here : test key right ≡ false =
          ap (λ (file : ℕ). test key (effects.new_right file (may_write now.0.mode))) now.3
          ∙ ap (λ (mode : _). test key (effects.new_right d.file (may_write mode))) now.4 ∙ fails at fd part d refl legal.1 in
          attach_rises_not m.tables.rights next.tables.rights m.posted key right test
          (ap (λ (t : TableState). fin.get t.rights key) same ∙ same_key-insert key_cmp_total m.tables.rights key right)
          (λ other differ.
          ap (λ (t : TableState). fin.get t.rights other) same ∙ other_key key_cmp_total m.tables.rights key right other (other_keys other key differ))
          fails_here
      by (entries.Cleared at owner fd part) added store tables test keeps fails =
          let key : Key = record { process = owner; fd = fd; part = part } in
          let right = cleared_right at owner fd part added in
          let clear : Right → Right = λ r. record r { state = states.Cleared } in
          change_rises_not m.tables.rights next.tables.rights m.posted key right.0 (clear right.0) right.1
          (ap (λ (t : TableState). fin.get t.rights key) tables ∙ state_set m.tables.rights key clear right.0 right.1)
          (λ other differ.
          ap (λ (t : TableState). fin.get t.rights other) tables
          ∙ other_key-change key_cmp_total m.tables.rights key clear other (other_keys other key differ)) test (keeps key right.0 states.Cleared)
          (less (is_posted m.posted key) right.0.state right.2)
      by (entries.Extended at file to None) added store tables test keeps fails = stays (entries.Extended at file to None) test tables refl
      by (entries.Extended at file to (Some block)) added store tables test keeps fails = stays (entries.Extended at file to (Some block)) test tables refl
      by x added store tables test keeps fails = stays x test tables refl
