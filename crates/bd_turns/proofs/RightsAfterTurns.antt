-- What an effective turn does to the rights of the tables and to the posted requests.
use Rattle.std.proofs.Common.{◌≡◌, ◌≢◌, ℕ, Bool, true, false, not, List, [], ◌∷◌, ◌++◌, Option, None, Some, refl, sym, ap, ◌∙◌, subst, ⊎_elim}
use Rattle.std.specs.Option.{option_map, option_map_or}
use Rattle.std.specs.List.{list_any}
use Rattle.std.specs.FinMap as fin
use Rattle.std.proofs.lemmas.Bool.{both_ways, cases_Bool, false_from_ne_true, false≢true}
use Rattle.std.proofs.lemmas.Option.{same_Some}
use Rattle.bd_base.specs.declared.key.Key.{Key}
use Rattle.bd_base.specs.declared.volume.Volume.{Volume}
use Rattle.bd_base.specs.Keys.{key_cmp_total, same_key, same_key-is}
use Rattle.bd_entry.specs.declared.entry.Entry.{Entry}
use Rattle.bd_entry.specs.declared.entry.Entry.TheVariants as entries
use Rattle.bd_entry.specs.Actions.{keys_to_revoke}
use Rattle.bd_entry.specs.Calls.{Place}
use Rattle.bd_entry.specs.Effects.{effect_of}
use Rattle.bd_entry.specs.Promises.{is_whole_refusal}
use Rattle.bd_entry.specs.Rules.{Rights as OfRights, place_in}
use Rattle.bd_entry.specs.RulesOfRights.{Stands}
use Rattle.bd_entry.specs.Store.{Descriptor, Store, descriptor_at, has_part, lowest_unattached}
use Rattle.bd_entry.proofs.NextActs.{then_from}
use Rattle.bd_entry.proofs.Slots.{some_of}
use Rattle.bd_tables.specs.declared.state.Right.{Right}
use Rattle.bd_tables.specs.declared.state.RightState.{RightState}
use Rattle.bd_tables.specs.declared.state.RightState.TheVariants as states
use Rattle.bd_tables.specs.Effects as effects
use Rattle.bd_tables.specs.State.{Rights, TableState}
use Rattle.bd_tables.proofs.Maps.{other_key, other_key-change, same_key-change, same_key-insert}
use Rattle.bd_turns.specs.declared.turn.Row.{Row}
use Rattle.bd_turns.specs.Added.{IsAdded}
use Rattle.bd_turns.specs.Processors as processors
use Rattle.bd_turns.specs.Processors.{action_for, next_action, row_of_entry, running_of, unposted}
use Rattle.bd_turns.specs.Reached.{IsReached}
use Rattle.bd_turns.specs.Sound.{AreRightsOf, IsRightOf, is_clear, is_clear_at, is_revoked}
use Rattle.bd_turns.specs.State.{Posted, State, running}
use Rattle.bd_turns.specs.Turns.{attached_tables, grown_tables, may_write, tables_after}
use Rattle.bd_turns.proofs.ActionsOfCalls.{Ahead, IsPassed, adds_for, ahead}
use Rattle.bd_turns.proofs.OwnActs.{clears_not, revokes_just}
use Rattle.bd_turns.proofs.Revocations.{Clears, revokes-adds, revokes-row}
use Rattle.bd_turns.proofs.RightsOnFiles.{find-passes}

-- ---- one key changes

-- the rights after a turn have this at the key, and at another what they had
pub record SetsAt (m next : State) (key : Key) (slot : Option Right) : Type 0 where
  pub here : fin.get next.tables.rights key ≡ slot
  pub others : (other : Key) → other ≢ key → fin.get next.tables.rights other ≡ fin.get m.tables.rights other

-- the request at the front, and the others; its call runs at this place, and has cleared its key
pub record IsFront (m : State) (p : Place) (post : Posted) (rest : List Posted) : Type 0 where
  pub posted_is : m.posted ≡ post ∷ rest
  pub at_is : p.at ≡ post.by
  pub runs : running m p.at.process ≡ Some p
  pub cleared : list_any (is_clear_at post.key) p.before ≡ true

-- a turn leaves rights and requests, or attaches a right; clears one that was not revoked, where none of the keys of the
-- call is unposted; posts the one that is; drains or sweeps the right of the request at the front, or detaches it
pub data Changes (m next : State) (p : Place) (entry : Option Entry) : Type 0 where
  leaves : ((key : Key) → fin.get next.tables.rights key ≡ fin.get m.tables.rights key) → next.posted ≡ m.posted → Changes m next p entry
  attaches : (key : Key) (right : Right) → right.state ≡ states.On → fin.get m.tables.rights key ≡ None → SetsAt m next key (Some right) →
      next.posted ≡ m.posted → Changes m next p entry
  clears : (key : Key) (right : Right) → fin.get m.tables.rights key ≡ Some right → right.state ≡ states.On →
      SetsAt m next key (Some (record right { state = states.Cleared })) → next.posted ≡ m.posted →
      entry ≡ Some (entries.Cleared p.at key.process key.fd key.part) → unposted m (keys_to_revoke m.store p p.call) ≡ None → Changes m next p entry
  posts : (key : Key) → IsPassed m p → ((other : Key) → fin.get next.tables.rights other ≡ fin.get m.tables.rights other) →
      next.posted ≡ m.posted ++ (record { key = key; by = p.at }) ∷ [] → unposted m (keys_to_revoke m.store p p.call) ≡ Some key →
      entry ≡ None → Changes m next p entry
  moves : (post : Posted) (rest : List Posted) (right : Right) (swept : List Bool) → IsFront m p post rest →
      fin.get m.tables.rights post.key ≡ Some right → is_revoked right.state ≡ true →
      SetsAt m next post.key (Some (record right { state = states.Drained swept })) → next.posted ≡ m.posted → entry ≡ None → Changes m next p entry
  detaches : (post : Posted) (rest : List Posted) (right : Right) → IsFront m p post rest → fin.get m.tables.rights post.key ≡ Some right →
      is_revoked right.state ≡ true → SetsAt m next post.key None → next.posted ≡ rest → Changes m next p entry

-- ---- keys and states

pub other_keys : (a b : Key) → a ≢ b → same_key a b ≡ false
other_keys a b differ = false_from_ne_true (same_key a b) (λ same. differ (same_key-is a b same))

pub on_from : (state : RightState) → is_revoked state ≡ false → state ≡ states.On
on_from states.On none = refl
on_from states.Cleared none = absurd (false≢true (sym none))
on_from (states.Drained swept) none = absurd (false≢true (sym none))

pub state_set : (rights : Rights) (key : Key) (change : Right → Right) (right : Right) → fin.get rights key ≡ Some right →
    fin.get (effects.change rights key change) key ≡ Some (change right)
state_set rights key change right is = same_key-change key_cmp_total rights key change ∙ ap (option_map change) is

-- ---- entries of processors

-- whether the entry attaches a right
abbrev is_attach : Entry → Bool
is_attach (entries.Attached at fd part) = true
is_attach e = false

grown_rights : (s : Store) (tables : TableState) (file to : ℕ) (block : Option ℕ) →
    (grown_tables s tables file to block).rights ≡ tables.rights
grown_rights s tables file to None = refl
grown_rights s tables file to (Some block) = refl

-- another entry leaves the rights
same_rights : (s : Store) (tables : TableState) (e : Entry) → is_attach e ≡ false → is_clear e ≡ false → (tables_after s tables e).rights ≡ tables.rights
same_rights s tables (entries.Attached at fd part) a c = absurd (false≢true (sym a))
same_rights s tables (entries.Cleared at owner fd part) a c = absurd (false≢true (sym c))
same_rights s tables (entries.Extended at file to block) a c = grown_rights s tables file to block
same_rights s tables e a c = refl

-- the row of what an action adds
pub row_is : (m : State) (p : Place) (row : Row) (e : Entry) → next_action m p ≡ Some (processors.Adds row e) → row_of_entry e ≡ row
row_is m p row e acting =
    let found = then_from (action_for m p) _ (processors.Adds row e) acting in
    ⊎_elim
    (λ own. own.1)
    (λ revoking. revokes-row m p revoking.0 row e revoking.2)
    (adds_for m p found.0 row e found.2)

module _ (v : Volume) (m next : State) (p : Place) (reached : IsReached v m) where
  abbrev rights_of : AreRightsOf m
  rights_of = reached.sound.tables_are.rights

  -- a right that stands is in the tables, and not revoked
  stands_on : (key : Key) (d : Descriptor) → descriptor_at m.store key.process key.fd ≡ Some d → Stands key.part d →
      (right : Right) × (fin.get m.tables.rights key ≡ Some right) × (right.state ≡ states.On)
  stands_on key d is stands =
      let found = some_of (fin.get m.tables.rights key) (rights_of.all key d is stands.attached) in
      let told = rights_of.told key found.0 found.1 in
      let same : told.0 ≡ d = same_Some told.0 d (sym told.1 ∙ is) in
      let right : IsRightOf key found.0 d = subst (IsRightOf key found.0) same told.2 in
      (found.0, found.1, on_from found.0.state (sym right.cleared ∙ stands.not_cleared))

  -- a right that is attached was not in the tables
  unattached-none : (key : Key) (d : Descriptor) → descriptor_at m.store key.process key.fd ≡ Some d → lowest_unattached m.store d ≡ Some key.part →
      fin.get m.tables.rights key ≡ None
  unattached-none key d is lowest = by (fin.get m.tables.rights key) refl
    where
      by : (o : Option Right) → fin.get m.tables.rights key ≡ o → fin.get m.tables.rights key ≡ None
      by None none = none
      by (Some right) some =
          let told = reached.sound.tables_are.rights.told key right some in
          let same : told.0 ≡ d = same_Some told.0 d (sym told.1 ∙ is) in
          let has : has_part key.part d.attached ≡ true = subst (λ (x : Descriptor). has_part key.part x.attached ≡ true) same told.2.attached in
          absurd (both_ways (not (has_part key.part d.attached)) (ap not has) (find-passes (λ part. not (has_part part d.attached)) _ key.part lowest))

  -- an entry that a processor adds
  pub adds_change : (row : Row) (e : Entry) → IsAdded v m p e → next_action m p ≡ Some (processors.Adds row e) →
      next.tables ≡ tables_after (effect_of m.store (place_in m.store p.call p.at) e) m.tables e → next.posted ≡ m.posted → Changes m next p (Some e)
  adds_change row e added acting tables posted =
      let s : Store = effect_of m.store (place_in m.store p.call p.at) e in
      ⊎_elim
      (λ clearing. by_clear s clearing tables)
      (λ other.
      ⊎_elim
      (λ attaching. by_attach e added s attaching tables)
      (λ none.
      leaves (λ key. ap (λ (x : TableState). fin.get x.rights key) tables ∙ ap (λ (x : Rights). fin.get x key) (same_rights s m.tables e none other))
      posted)
      (cases_Bool (is_attach e)))
      (cases_Bool (is_clear e))
    where
      by_attach : (x : Entry) → IsAdded v m p x → (s : Store) → is_attach x ≡ true → next.tables ≡ tables_after s m.tables x → Changes m next p (Some e)
      by_attach (entries.Attached at fd part) added s attaching tables = by (descriptor_at s at.process fd) tables
        where
          key : Key
          key = record { process = at.process; fd = fd; part = part }

          by : (slot : Option Descriptor) → next.tables ≡ option_map_or (attached_tables s m.tables at.process fd part) slot m.tables →
              Changes m next p (Some e)
          by None same = leaves (λ key. ap (λ (x : TableState). fin.get x.rights key) same) posted
          by (Some d) same =
              let legal = added.next.keeps OfRights in
              attaches key (effects.new_right d.file (may_write d.mode)) refl (unattached-none key legal.0 legal.1 legal.2.0)
              (record {
                here =
                    ap (λ (x : TableState). fin.get x.rights key) same
                    ∙ same_key-insert key_cmp_total m.tables.rights key (effects.new_right d.file (may_write d.mode));
                others = λ other differ.
                    ap (λ (x : TableState). fin.get x.rights other) same
                    ∙ other_key key_cmp_total m.tables.rights key (effects.new_right d.file (may_write d.mode)) other (other_keys other key differ);
              })
              posted
      by_attach x added s attaching tables = absurd (false≢true attaching)

      not_whole : (x : Entry) → is_clear x ≡ true → is_whole_refusal x ≡ false
      not_whole (entries.Refused at None reason) clearing = absurd (false≢true clearing)
      not_whole x clearing = refl

      of_clears : (s : Store) → Clears m p (keys_to_revoke m.store p p.call) e → next.tables ≡ tables_after s m.tables e → Changes m next p (Some e)
      of_clears s by tables =
          let key : Key = by.key in
          let x : Entry = entries.Cleared p.at key.process key.fd key.part in
          let legal = (subst (IsAdded v m p) by.entry_is added).next.keeps OfRights in
          let right = stands_on key legal.0 legal.1 legal.2.0 in
          let same : next.tables ≡ effects.clear m.tables key = tables ∙ ap (tables_after s m.tables) by.entry_is in
          clears key right.0 right.1 right.2
          (record {
            here =
                ap (λ (x : TableState). fin.get x.rights key) same
                ∙ state_set m.tables.rights key (λ (r : Right). record r { state = states.Cleared }) right.0 right.1;
            others = λ other differ.
                ap (λ (x : TableState). fin.get x.rights other) same
                ∙ other_key-change key_cmp_total m.tables.rights key (λ (r : Right). record r { state = states.Cleared }) other (other_keys other key differ);
          })
          posted (ap Some by.entry_is) by.none_unposted

      by_clear : (s : Store) → is_clear e ≡ true → next.tables ≡ tables_after s m.tables e → Changes m next p (Some e)
      by_clear s clearing tables =
          let goes : Ahead m p (processors.Adds row e) = ahead m p (processors.Adds row e) acting (ap not (not_whole e clearing)) in
          ⊎_elim
          (λ own. absurd (both_ways (is_clear e) (clears_not m.store p goes.act e own.0) clearing))
          (λ revoking.
          let just = revokes_just m.store _ (running_of m p) p.call (keys_to_revoke m.store p p.call) revoking.0 (goes.later ∙ ap Some revoking.1) in
          of_clears s (subst (λ (keys : List Key). Clears m p keys e) just (revokes-adds m p revoking.0 row e revoking.2)) tables)
          (adds_for m p goes.act row e goes.for_act)
