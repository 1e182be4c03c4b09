-- What is known of the entries that turns add.
use Rattle.std.proofs.Common.{◌≡◌, inl, inr, ℕ, ◌≤◌, IfSome, Bool, true, false, length, Option, None, Some, refl, sym, ap, ◌∙◌, subst, ⊎_elim, ◌-◌}
use Rattle.std.specs.Prelude.{nat_lt, slice_get}
use Rattle.std.specs.Option.{option_map}
use Rattle.std.proofs.lemmas.Bool.{both_ways, cases_lt, cond-true, false≢true, lt-ltb}
use Rattle.std.proofs.lemmas.Option.{none-some, same_Some}
use Rattle.bd_base.specs.declared.key.Key.{Key}
use Rattle.bd_base.specs.declared.journal.At.{At}
use Rattle.bd_base.specs.declared.script.Call.{Call}
use Rattle.bd_base.specs.declared.script.Call.TheVariants.{Truncate}
use Rattle.bd_base.specs.declared.volume.Inode.{Inode}
use Rattle.bd_base.specs.declared.volume.Volume.{Volume}
use Rattle.bd_entry.specs.declared.act.Act.{Act}
use Rattle.bd_entry.specs.declared.act.Act.TheVariants as acts
use Rattle.bd_entry.specs.declared.entry.Entry.{Entry}
use Rattle.bd_entry.specs.declared.entry.Entry.TheVariants as entries
use Rattle.bd_entry.specs.Actions.{entry_of_act, is_to_shrink, next_act, own_act, truncate_to}
use Rattle.bd_entry.specs.Calls.{Place, at_of, call_at, entries_of}
use Rattle.bd_entry.specs.Refusals.{file_of, growth_reason_of, next_size}
use Rattle.bd_entry.specs.Rules.{EntryRule, FitsCall, FitsStore, place_in}
use Rattle.bd_entry.specs.RulesOfCalls.{IsOfCall}
use Rattle.bd_entry.specs.Store.{Store, blocks_in, size_in}
use Rattle.bd_entry.proofs.NextActs.{map_from, map_or_from, next_cases, then_from}
use Rattle.bd_entry.proofs.NextFiles.{cond_from}
use Rattle.bd_turns.specs.declared.turn.Row.{Row}
use Rattle.bd_turns.specs.Added.{IsAdded}
use Rattle.bd_turns.specs.Processors as processors
use Rattle.bd_turns.specs.Processors.{Action, action_for, add_entry, clear, is_on, next_action, poll, post, revocation, row_of_entry, running_of, uncleared, unposted}
use Rattle.bd_turns.specs.State.{State, holder_of}
use Rattle.bd_turns.proofs.RunningPlaces.{runs_at}
use Rattle.bd_turns.proofs.OwnActs.{adds_by_act, is_by_no_act}
use Rattle.bd_turns.proofs.ActionsOfCalls.{adds_for}
use Rattle.bd_turns.proofs.Revocations.{revokes-adds}

-- ---- the place of an added entry

-- the place that the store gives an added entry is that of the running call
pub added_place : (v : Volume) (m : State) (p : Place) (e : Entry) → IsAdded v m p e → place_in m.store p.call p.at ≡ p
added_place v m p e added = λ i. record { call = p.call; at = p.at; before = added.work_is i }

-- it keeps each rule there
pub added_keeps : (v : Volume) (m : State) (p : Place) (e : Entry) → IsAdded v m p e → (rule : EntryRule) → FitsStore m.store p e rule
added_keeps v m p e added rule =
    subst (λ (q : Place). FitsStore m.store q e rule)
    (ap (place_in m.store p.call) added.at_is ∙ added_place v m p e added) (added.next.keeps rule)

-- and is one of its call
pub added_of_call : (v : Volume) (m : State) (p : Place) (e : Entry) → IsAdded v m p e → IsOfCall p e
added_of_call v m p e added =
    let place = runs_at m p.at.process p added.running_is in
    let at = at_of e in
    let fits = added.next.fits FitsCall in
    let at_call : call_at m.script at ≡ Some p.call = added.next.call_is in
    let there : IsOfCall (record { call = p.call; at = at; before = entries_of at m.journal }) e = by (call_at m.script at) at_call fits in
    let same_before : entries_of at m.journal ≡ p.before = ap (λ (a : At). entries_of a m.journal) added.at_is ∙ sym place.before_is in
    let same_place : record { call = p.call; at = at; before = entries_of at m.journal } ≡ p =
    λ i. record { call = p.call; at = added.at_is i; before = same_before i } in
    subst (λ (q : Place). IsOfCall q e) same_place there
  where
    by : (call : Option Call) → call ≡ Some p.call →
        IfSome call (λ call. IsOfCall (record { call = call; at = at_of e; before = entries_of (at_of e) m.journal }) e) →
        IsOfCall (record { call = p.call; at = at_of e; before = entries_of (at_of e) m.journal }) e
    by None is fits = absurd (none-some p.call is)
    by (Some call) is fits =
        subst (λ (c : Call). IsOfCall (record { call = c; at = at_of e; before = entries_of (at_of e) m.journal }) e) (same_Some call p.call is) fits

-- ---- the entries of processors

-- a processor adds the entry of an action of its call, or clears a key
pub data FromAction (m : State) (p : Place) (e : Entry) : Type 0 where
  by_act : (act : Act) → next_act m.store (holder_of m) (running_of m p) ≡ Some act → entry_of_act m.store p act ≡ Some e → FromAction m p e
  by_clear : (key : Key) → e ≡ entries.Cleared p.at key.process key.fd key.part → FromAction m p e

pub adds_from : (m : State) (p : Place) (row : Row) (e : Entry) → next_action m p ≡ Some (processors.Adds row e) → FromAction m p e
adds_from m p row e acting =
    let found = then_from (action_for m p) (next_act m.store (holder_of m) (running_of m p)) (processors.Adds row e) acting in
    ⊎_elim
    (λ own. by_act found.0 found.1 own.0)
    (λ revoking. let clears = revokes-adds m p revoking.0 row e revoking.2 in by_clear clears.key clears.entry_is)
    (adds_for m p found.0 row e found.2)

-- a processor adds no entry that a test passes which passes no clear and no entry of an act
pub processors_add : (test : Entry → Bool) → ((e : Entry) → is_by_no_act e ≡ false → test e ≡ false) →
    ((at : At) (owner fd part : ℕ) → test (entries.Cleared at owner fd part) ≡ false) → (m : State) (p : Place) (e : Entry) → FromAction m p e →
    test e ≡ false
processors_add test acts clears m p e (by_act act next adds) = acts e (adds_by_act m.store p act e adds)
processors_add test acts clears m p e (by_clear key is) = ap test is ∙ clears p.at key.process key.fd key.part

-- ---- no processor detaches

-- whether the entry detaches a right
abbrev pub is_detach : Entry → Bool
is_detach (entries.Detached at owner fd part) = true
is_detach e = false

-- a processor detaches no right
pub processors_detach_nothing : (m : State) (p : Place) (e : Entry) → FromAction m p e → is_detach e ≡ false
processors_detach_nothing = processors_add is_detach by (λ at owner fd part. refl)
  where
    by : (e : Entry) → is_by_no_act e ≡ false → is_detach e ≡ false
    by (entries.Detached at owner fd part) not_so = not_so
    by e not_so = refl

-- ---- a truncation ends no larger than its file

is_sized : Entry → Bool
is_sized (entries.Sized at fd size) = true
is_sized e = false

-- the action is none of those of a truncation that is not at its end
sized_last : Act → Type 0
sized_last (acts.Release file) = ⊥
sized_last (acts.Refuse piece reason) = ⊥
sized_last (acts.Extend file to) = ⊥
sized_last act = Unit {0}

not_sized : (f : Inode → Entry) (o : Option Inode) (e : Entry) → ((x : Inode) → is_sized (f x) ≡ false) → option_map f o ≡ Some e → is_sized e ≡ false
not_sized f o e never is = let found = map_from f o e is in ap is_sized (sym found.2) ∙ never found.0

-- a release, a growth and a refusal set no size
sizes_last : (s : Store) (p : Place) (act : Act) (e : Entry) → entry_of_act s p act ≡ Some e → is_sized e ≡ true → sized_last act
unfolding sized_last is_sized not_sized
sizes_last s p (acts.Refuse piece reason) e is sized =
    absurd (false≢true (ap is_sized (same_Some (entries.Refused p.at piece reason) e is) ∙ sized))
sizes_last s p (acts.Extend file to) e is sized = absurd (false≢true (sym (not_sized _ _ e (λ x. refl) is) ∙ sized))
sizes_last s p (acts.Release file) e is sized =
    let last = length (blocks_in s file) - 1 in
    let found = map_from (entries.Released p.at file last) (slice_get (blocks_in s file) last) e is in
    absurd (false≢true (ap is_sized found.2 ∙ sized))
sizes_last s p act e is sized = tt

-- a file that has no next size on the way to a goal is not below it
no_next_size : (size goal : ℕ) → next_size size goal ≡ None → goal ≤ size
no_next_size size goal none = elim (cases_lt size goal) [
  | inl below ↦
      let next : next_size size goal ≡ Some _ = cond-true (nat_lt size goal) _ None (lt-ltb size goal below) in
      absurd (none-some _ (sym none ∙ next))
  | inr above ↦ above
]

-- the file of a truncation that ends
record EndsWithin (s : Store) (p : Place) (size : ℕ) : Type 0 where
  file : ℕ
  of : file_of s p ≡ Some file
  within : size ≤ size_in s file

truncates : (s : Store) (p : Place) (size file : ℕ) (act : Act) → file_of s p ≡ Some file → truncate_to s p size file ≡ act → sized_last act →
    EndsWithin s p size
unfolding sized_last
truncates s p size file act of is last =
    ⊎_elim
    (λ shrinks. absurd (subst sized_last (sym shrinks.1) last))
    (λ rest.
    ⊎_elim
    (λ grows.
    ⊎_elim
    (λ refused. absurd (subst sized_last (sym refused.2) last))
    (λ extends. absurd (subst sized_last (sym extends.1) last))
    (map_or_from (acts.Refuse None) (growth_reason_of s p size) (acts.Extend file grows.0) act grows.2))
    (λ none. record { file = file; of = of; within = no_next_size (size_in s file) size none.0 })
    (map_or_from _ (next_size (size_in s file) size) (acts.Sized size) act rest.1))
    (cond_from (is_to_shrink s file size) (acts.Release file) _ act is)

-- a truncation that ends does not grow its file by that
pub sized_within : (m : State) (p : Place) (at : At) (named fd size : ℕ) → FromAction m p (entries.Sized at fd size) → p.call ≡ Truncate named size →
    (file : ℕ) × (file_of m.store p ≡ Some file) × (size ≤ size_in m.store file)
unfolding is_sized sized_last
sized_within m p at named fd size (by_clear key is) call = absurd (both_ways (is_sized (entries.Sized at fd size)) (ap is_sized is) refl)
sized_within m p at named fd size (by_act act next adds) call =
    let s = m.store in
    let r = running_of m p in
    ⊎_elim
    (λ refused. absurd (subst sized_last refused.act_is (sizes_last s p act (entries.Sized at fd size) adds refl)))
    (λ own.
    let is : own_act s (holder_of m) r (Truncate named size) ≡ Some act =
    ap (own_act s (holder_of m) r) (sym call) ∙ own.own in
    let found = map_from (truncate_to s p size) (file_of s p) act is in
    let ends = truncates s p size found.0 act found.1 found.2 (sizes_last s p act (entries.Sized at fd size) adds refl) in
    (ends.file, ends.of, ends.within))
    (next_cases s (holder_of m) r act (entries.Sized at fd size) next adds)
