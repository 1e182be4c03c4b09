-- What the next action of a call is: a refusal as it begins, or the call's own action with nothing left to revoke.
use Rattle.std.proofs.Common.{◌≡◌, ◌≢◌, ◌⊎◌, inl, inr, ℕ, Bool, true, false, not, ◌&&◌, cond, List, [], ◌∷◌, Option, None, Some, refl, sym, ap, ◌∙◌, subst, ⊎_elim}
use Rattle.std.specs.Prelude.{nat_eq, is_some, IsSome}
use Rattle.std.specs.Option.{option_and_then, option_map, option_map_or, option_or}
use Rattle.std.specs.List.{list_any}
use Rattle.std.proofs.lemmas.Bool.{both_ways, eq-eqb, false_from_ne_true, or_from, or_left, or_parts}
use Rattle.std.proofs.lemmas.Option.{none-some, same_Some}
use Rattle.bd_base.specs.declared.key.Key.{Key}
use Rattle.bd_base.specs.declared.reason.Reason.{Reason}
use Rattle.bd_base.specs.declared.reason.Reason.TheVariants as reasons
use Rattle.bd_base.specs.declared.script.Call.{Call}
use Rattle.bd_base.specs.declared.script.Call.TheVariants.{RawRead, RawWrite}
use Rattle.bd_base.specs.declared.journal.At.{At}
use Rattle.bd_entry.specs.declared.act.Act.{Act}
use Rattle.bd_entry.specs.declared.act.Act.TheVariants as acts
use Rattle.bd_entry.specs.declared.entry.Entry.{Entry}
use Rattle.bd_entry.specs.declared.entry.Entry.TheVariants as entries
use Rattle.bd_entry.specs.Actions.{Holders, Running, before_beginning, busy, busy_at_first, comes_before_holder, entry_of_act, has_begun, is_none_of, keys_to_revoke, next_act, own_act, revoke, tests_for_holder, wait_for}
use Rattle.bd_entry.specs.Calls.{Place, fd_of, is_made_by, is_raw}
use Rattle.bd_entry.specs.NextEntries.{IsLegalAt, IsReadyPlace, NextIsLegal, running}
use Rattle.bd_entry.specs.Refusals.{descriptor_refusal, file_of, first_refusal, growth_reason_of, truncation_goal}
use Rattle.bd_entry.specs.Rules.{EntryRule, FitsStore, NotRefused, RightWay}
use Rattle.bd_entry.specs.RulesOfContents.{MayBegin}
use Rattle.bd_entry.specs.Store.{Descriptor, Store, descriptor_at}

-- ---- what an option came from

-- what a function of something gave came from something
pub map_from : {X Y : Type 0} (f : X → Y) (o : Option X) (y : Y) → option_map f o ≡ Some y → (x : X) × (o ≡ Some x) × (f x ≡ y)
map_from f None y is = absurd (none-some y is)
map_from f (Some x) y is = (x, refl, same_Some (f x) y is)

pub then_from : {X Y : Type 0} (f : X → Option Y) (o : Option X) (y : Y) → option_and_then f o ≡ Some y → (x : X) × (o ≡ Some x) × (f x ≡ Some y)
then_from f None y is = absurd (none-some y is)
then_from f (Some x) y is = (x, refl, is)

-- or it is what stands in place of nothing
pub map_or_from : {X Y : Type 0} (f : X → Y) (o : Option X) (none y : Y) → option_map_or f o none ≡ y →
    ((x : X) × (o ≡ Some x) × (f x ≡ y)) ⊎ ((o ≡ None) × (none ≡ y))
map_or_from f None none y is = inr (refl, is)
map_or_from f (Some x) none y is = inl (x, refl, is)

-- of two the first, or where it is nothing the second
pub or_from_either : {X : Type 0} (o later : Option X) (x : X) → option_or o later ≡ Some x → (o ≡ Some x) ⊎ ((o ≡ None) × (later ≡ Some x))
or_from_either None later x is = inr (refl, is)
or_from_either (Some y) later x is = inl is

-- where both are nothing
pub or_none : {X : Type 0} (o later : Option X) → option_or o later ≡ None → (o ≡ None) × (later ≡ None)
or_none None later none = (refl, none)
or_none (Some x) later none = absurd (none-some x (sym none))

pub is_there : {X : Type 0} (o : Option X) (x : X) → o ≡ Some x → IsSome o
is_there o x is = ap is_some is

-- ---- as a call begins

-- a process that waits adds no entry
pub busy_adds_none : (s : Store) (holders : Holders) (p : Place) (act : Act) → busy s holders p ≡ Some act → entry_of_act s p act ≡ None
busy_adds_none s holders p act is =
    let found = then_from (λ file. wait_for p.at.process file (holders file)) (file_of s p) act is in
    waits found.0 (holders found.0) found.2
  where
    by : (file holder : ℕ) (b : Bool) → cond b None (Some (acts.Busy file holder)) ≡ Some act → entry_of_act s p act ≡ None
    by file holder true is = absurd (none-some act is)
    by file holder false is = ap (entry_of_act s p) (sym (same_Some (acts.Busy file holder) act is))

    waits : (file : ℕ) (o : Option ℕ) → wait_for p.at.process file o ≡ Some act → entry_of_act s p act ≡ None
    waits file None is = absurd (none-some act is)
    waits file (Some holder) is = by file holder (nat_eq holder p.at.process) is

busy_at_first_adds_none : (s : Store) (holders : Holders) (p : Place) (act : Act) → busy_at_first s holders p ≡ Some act → entry_of_act s p act ≡ None
busy_at_first_adds_none s holders p act is = by (tests_for_holder p.call) is
  where
    by : (b : Bool) → cond b (busy s holders p) None ≡ Some act → entry_of_act s p act ≡ None
    by true is = busy_adds_none s holders p act is
    by false is = absurd (none-some act is)

-- an action with an entry that keeps a call from beginning is a refusal by its first reason
first_act : (s : Store) (holders : Holders) (p : Place) (o : Option Reason) (act : Act) (e : Entry) → before_beginning s holders p o ≡ Some act →
    entry_of_act s p act ≡ Some e → (reason : Reason) × (o ≡ Some reason) × (act ≡ acts.Refuse None reason)
first_act s holders p None act e is adds = absurd (none-some e (sym (busy_at_first_adds_none s holders p act is) ∙ adds))
first_act s holders p (Some reason) act e is adds = (reason, refl, by (comes_before_holder reason) is)
  where
    later : (o : Option Act) → option_or o (Some (acts.Refuse None reason)) ≡ Some act → (o ≡ Some act → entry_of_act s p act ≡ None) →
        act ≡ acts.Refuse None reason
    later None is none = sym (same_Some (acts.Refuse None reason) act is)
    later (Some other) is none = absurd (none-some e (sym (none is) ∙ adds))

    by : (b : Bool) →
        cond b (Some (acts.Refuse None reason)) (option_or (busy_at_first s holders p) (Some (acts.Refuse None reason))) ≡ Some act →
        act ≡ acts.Refuse None reason
    by true is = sym (same_Some (acts.Refuse None reason) act is)
    by false is = later (busy_at_first s holders p) is (busy_at_first_adds_none s holders p act)

-- a call that nothing keeps from beginning has no reason to be refused
pub none_at_first : (s : Store) (holders : Holders) (p : Place) (o : Option Reason) → before_beginning s holders p o ≡ None → o ≡ None
none_at_first s holders p None none = refl
none_at_first s holders p (Some reason) none = absurd (by (comes_before_holder reason) none)
  where
    later : (o : Option Act) → option_or o (Some (acts.Refuse None reason)) ≡ None → ⊥
    later None none = none-some (acts.Refuse None reason) (sym none)
    later (Some other) none = none-some other (sym none)

    by : (b : Bool) → cond b (Some (acts.Refuse None reason)) (option_or (busy_at_first s holders p) (Some (acts.Refuse None reason))) ≡ None → ⊥
    by true none = none-some (acts.Refuse None reason) (sym none)
    by false none = later (busy_at_first s holders p) none

-- what is tested as a call begins
tested : (before : List Entry) (outstanding : List ℕ) (o : Option Act) (act : Act) →
    cond (not (is_none_of before && is_none_of outstanding)) None o ≡ Some act → (before ≡ []) × (o ≡ Some act)
tested [] [] o act is = (refl, is)
tested [] (x ∷ xs) o act is = absurd (none-some act is)
tested (x ∷ xs) outstanding o act is = absurd (none-some act is)

passed : (before : List Entry) (outstanding : List ℕ) (o : Option Act) →
    cond (not (is_none_of before && is_none_of outstanding)) None o ≡ None → outstanding ≡ [] → before ≡ [] → o ≡ None
passed [] [] o is none empty = is
passed [] (x ∷ xs) o is none empty = absurd (let no : x ∷ xs ≡ [] = none in cc)
passed (x ∷ xs) outstanding o is none empty = absurd (let no : x ∷ xs ≡ [] = empty in cc)

-- ---- the next action with an entry

-- a call is refused as it begins
pub record IsRefusedFirst (s : Store) (p : Place) (act : Act) : Type 0 where
  pub reason : Reason
  pub first : p.before ≡ []
  pub is_refused : first_refusal s p.at.process p.call ≡ Some reason
  pub act_is : act ≡ acts.Refuse None reason

-- a call does its own action
pub record IsOwn (s : Store) (holders : Holders) (r : Running) (act : Act) : Type 0 where
  pub may_begin : r.outstanding ≡ [] → MayBegin s r.place
  pub no_keys : keys_to_revoke s r.place r.place.call ≡ []
  pub own : own_act s holders r r.place.call ≡ Some act

no_keys_left : (s : Store) (p : Place) (keys : List Key) (own : Option Act) (act : Act) (e : Entry) → option_or (revoke keys) own ≡ Some act →
    entry_of_act s p act ≡ Some e → (keys ≡ []) × (own ≡ Some act)
no_keys_left s p [] own act e is adds = (refl, is)
no_keys_left s p (key ∷ keys) own act e is adds =
    absurd (none-some e (ap (entry_of_act s p) (same_Some (acts.Revoke (key ∷ keys)) act is) ∙ adds))

pub next_cases : (s : Store) (holders : Holders) (r : Running) (act : Act) (e : Entry) → next_act s holders r ≡ Some act →
    entry_of_act s r.place act ≡ Some e → IsRefusedFirst s r.place act ⊎ IsOwn s holders r act
next_cases s holders r act e is adds =
    let p = r.place in
    let reason = first_refusal s p.at.process p.call in
    let first = before_beginning s holders p reason in
    ⊎_elim
    (λ begins.
    let at_first = tested p.before r.outstanding first act begins in
    let refused = first_act s holders p reason act e at_first.1 adds in
    inl (record { reason = refused.0; first = at_first.0; is_refused = refused.1; act_is = refused.2 }))
    (λ goes_on.
    let rest = no_keys_left s p (keys_to_revoke s p p.call) (own_act s holders r p.call) act e goes_on.1 adds in
    inr (record {
      may_begin = λ none empty. none_at_first s holders p reason (passed p.before r.outstanding first goes_on.0 none empty);
      no_keys = rest.0;
      own = rest.1;
    }))
    (or_from_either (cond (has_begun r) None first) (option_or (revoke (keys_to_revoke s p p.call)) (own_act s holders r p.call)) act is)

-- ---- what holds of a ready call

-- a call without pieces has nothing outstanding
pub none_outstanding : (outstanding : List ℕ) → ((number : ℕ) → list_any (nat_eq number) outstanding ≡ true → ⊥) → outstanding ≡ []
none_outstanding [] none = refl
none_outstanding (number ∷ numbers) none =
    absurd (none number (or_left (nat_eq number number) (list_any (nat_eq number) numbers) (eq-eqb number number refl)))

-- a call that no refusal holds of as it begins, nor later
pub still_allowed : (before : List Entry) (o : Option Reason) → (before ≡ [] → o ≡ None) → (before ≢ [] → o ≡ None) → o ≡ None
still_allowed [] o empty some = empty refl
still_allowed (e ∷ before) o empty some = some (λ none. let no : e ∷ before ≡ [] = none in cc)

-- where no element passes a test, none passes a stricter one
pub any-stricter : {X : Type 0} (test stricter : X → Bool) (xs : List X) → ((x : X) → stricter x ≡ true → test x ≡ true) →
    list_any test xs ≡ false → list_any stricter xs ≡ false
any-stricter test stricter [] passes none = refl
any-stricter test stricter (x ∷ xs) passes none =
    let parts = or_parts (test x) (list_any test xs) none in
    or_from (stricter x) (list_any stricter xs) (false_from_ne_true (stricter x) (λ some. both_ways (test x) parts.0 (passes x some)))
    (any-stricter test stricter xs passes parts.1)

-- the descriptor of a call that is not refused is open, and it is not refused for a further reason
pub open_descriptor : (s : Store) (process fd : ℕ) (further : Descriptor → Option Reason) → descriptor_refusal s process fd further ≡ None →
    (d : Descriptor) × (descriptor_at s process fd ≡ Some d) × (further d ≡ None)
open_descriptor s process fd further none =
    ⊎_elim
    (λ found. found)
    (λ closed. absurd (none-some reasons.BadFd (sym closed.1)))
    (map_or_from further (descriptor_at s process fd) (Some reasons.BadFd) None none)

-- the entry of an action by the call's descriptor
pub entry_by : (entry : ℕ → Entry) (p : Place) (fd : ℕ) (e : Entry) → fd_of p ≡ Some fd → option_map entry (fd_of p) ≡ Some e → entry fd ≡ e
entry_by entry p fd e is adds = same_Some (entry fd) e (sym (ap (option_map entry) is) ∙ adds)

-- ---- refusals of whole calls

made_refusal : (p : Place) (call : Call) (reason : Reason) → is_made_by call (entries.Refused p.at None reason) ≡ true
made_refusal p call reason = refl

not_raw : (s : Store) (process : ℕ) (call : Call) (reason : Reason) → first_refusal s process call ≡ Some reason → is_raw call ≡ false
not_raw s process (RawRead address range) reason is = absurd (none-some reason is)
not_raw s process (RawWrite address lo bytes) reason is = absurd (none-some reason is)
not_raw s process call reason is = refl

-- a call is refused as it begins by its first reason
pub refused_first : (s : Store) (p : Place) (act : Act) (e : Entry) → IsRefusedFirst s p act → entry_of_act s p act ≡ Some e → IsLegalAt s p e
refused_first s p act e refused adds =
    let entry = entries.Refused p.at None refused.reason in
    let same : entry ≡ e = same_Some entry e (sym (ap (entry_of_act s p) refused.act_is) ∙ adds) in
    subst (IsLegalAt s p) same
    (record { of_call = record { kind = made_refusal p p.call refused.reason; fields = tt }; of_place = refl; once = tt; keeps = keeps })
  where
    keeps : (rule : EntryRule) → FitsStore s p (entries.Refused p.at None refused.reason) rule
    keeps RightWay = not_raw s p.at.process p.call refused.reason refused.is_refused
    keeps NotRefused = record {
      first =
          ap (λ (o : Option Reason). option_or o (option_and_then (growth_reason_of s p) (truncation_goal p.call))) refused.is_refused;
      of_growth = λ some. absurd (some refused.first);
    }
    keeps rule = tt

-- ---- from an own action

-- the entry of the call's own action is legal
abbrev pub OwnIsLegal : Call → Type 0
OwnIsLegal call =
    (s : Store) (holders : Holders) (at : At) (before : List Entry) (outstanding : List ℕ) (act : Act) (e : Entry) →
    let r = running call at before outstanding in
    IsReadyPlace s r → IsOwn s holders r act → entry_of_act s r.place act ≡ Some e → IsLegalAt s r.place e

-- so is then the next one
pub next_from_own : (call : Call) → OwnIsLegal call → NextIsLegal call
next_from_own call legal s holders at before outstanding act e ready is adds =
    let r = running call at before outstanding in
    ⊎_elim
    (λ refused. refused_first s r.place act e refused adds)
    (λ own. legal s holders at before outstanding act e ready own adds)
    (next_cases s holders r act e is adds)
