-- What the action of a processor tells of its call: nothing keeps it from beginning, and no other process holds its file.
use Rattle.std.proofs.Common.{◌≡◌, ◌⊎◌, inl, inr, ℕ, zero, suc, ◌<◌, Bool, true, false, not, ◌&&◌, cond, List, [], ◌∷◌, length, Option, None, Some, refl, sym, ap, ◌∙◌, subst, arith, ⊎_elim}
use Rattle.std.specs.Prelude.{is_some, nat_eq, slice_index_or, All}
use Rattle.std.specs.Option.{option_and_then, option_map_or, option_or}
use Rattle.std.specs.List.{list_any}
use Rattle.std.proofs.lemmas.Bool.{both_ways, cases_Bool, eq-eqb, eqb-true, false≢true, or_parts}
use Rattle.std.proofs.lemmas.List.Elements.{All-head}
use Rattle.std.proofs.lemmas.List.Quantifiers.{position-Some}
use Rattle.std.proofs.lemmas.Option.{none-some, same_Some}
use Rattle.bd_base.specs.declared.key.Key.{Key}
use Rattle.bd_base.specs.declared.reason.Reason.{Reason}
use Rattle.bd_base.specs.declared.script.Call.{Call}
use Rattle.bd_base.specs.declared.script.Call.TheVariants.{Enter, Read, Write, Truncate, Unlink, Map, Close, RawRead, RawWrite}
use Rattle.bd_entry.specs.declared.act.Act.{Act}
use Rattle.bd_entry.specs.declared.act.Act.TheVariants as acts
use Rattle.bd_entry.specs.declared.entry.Entry.{Entry}
use Rattle.bd_entry.specs.Actions.{Holders, before_beginning, busy, busy_at_first, comes_before_holder, entry_of_act, has_begun, is_none_of, keys_to_revoke, next_act, own_act, revoke, tests_for_holder, wait_for}
use Rattle.bd_entry.specs.Calls.{Place, pieces_of_call}
use Rattle.bd_entry.specs.Promises.{is_whole_refusal}
use Rattle.bd_entry.specs.Refusals.{file_of, first_refusal}
use Rattle.bd_entry.specs.Store.{Store}
use Rattle.bd_entry.proofs.Holders.{is_some-position}
use Rattle.bd_entry.proofs.NextActs.{map_from, none_at_first, or_from_either, then_from}
use Rattle.bd_turns.specs.declared.turn.Row.{Row}
use Rattle.bd_turns.specs.declared.turn.Wait.{Wait}
use Rattle.bd_turns.specs.Processors as processors
use Rattle.bd_turns.specs.Processors.{Action, action_for, add_entry, next_action, poll, revocation, row_of_entry, running_of}
use Rattle.bd_turns.specs.Sound.{AreAllowed, AreBegunHolding, AreCallsSound, IsHeldOnce, keeps_allowed}
use Rattle.bd_turns.specs.State.{Progress, State, does_hold, holder_of, new_progress, outstanding, progress_of, running}
use Rattle.bd_turns.specs.Turns.{holds_throughout}

-- ---- holds

-- a process that holds a file passes the test for it
pub holding : (file : ℕ) (progress : Progress) → progress.held ≡ Some file → does_hold file progress ≡ true
holding file progress is = ap (λ (o : Option ℕ). option_map_or (nat_eq file) o false) is ∙ eq-eqb file file refl

pub held_from : (file : ℕ) (progress : Progress) → does_hold file progress ≡ true → progress.held ≡ Some file
held_from file progress is = by progress.held is
  where
    by : (o : Option ℕ) → option_map_or (nat_eq file) o false ≡ true → o ≡ Some file
    by None is = absurd (false≢true is)
    by (Some other) is = ap Some (sym (eqb-true file other is))

-- no other process than that of the place holds the file of its call
abbrev pub AloneOn : State → Place → Type 0
AloneOn m p =
    (file q : ℕ) → file_of m.store p ≡ Some file → (progress_of m q).held ≡ Some file → q ≡ p.at.process

-- so it is where the process itself holds it
pub alone_holding : (m : State) (p : Place) (file : ℕ) → IsHeldOnce m → file_of m.store p ≡ Some file →
    (progress_of m p.at.process).held ≡ Some file → AloneOn m p
alone_holding m p file once of held other q of_other held_other =
    let same : other ≡ file = same_Some other file (sym of_other ∙ of) in
    once file q p.at.process (holding file (progress_of m q) (held_other ∙ ap Some same)) (holding file (progress_of m p.at.process) held)

-- what stands at any index does not pass where no element does
none_at_index : {X : Type 0} (test : X → Bool) (xs : List X) (i : ℕ) (none : X) → test none ≡ false → list_any test xs ≡ false →
    test (slice_index_or xs i none) ≡ false
none_at_index test [] i none empty fails = empty
none_at_index test (x ∷ xs) zero none empty fails = (or_parts (test x) (list_any test xs) fails).0
none_at_index test (x ∷ xs) (suc i) none empty fails = none_at_index test xs i none empty (or_parts (test x) (list_any test xs) fails).1

-- and where the process need not wait for the holder of the file
pub alone_tested : (m : State) (p : Place) → IsHeldOnce m → busy m.store (holder_of m) p ≡ None → AloneOn m p
alone_tested m p once free file q of held =
    by (holder_of m file) refl (sym (ap (option_and_then (λ (file : ℕ). wait_for p.at.process file (holder_of m file))) of) ∙ free)
  where
    holds : does_hold file (progress_of m q) ≡ true
    holds = holding file (progress_of m q) held

    mine : (holder : ℕ) (b : Bool) → nat_eq holder p.at.process ≡ b → cond b None (Some (acts.Busy file holder)) ≡ None → holder ≡ p.at.process
    mine holder true is none = eqb-true holder p.at.process is
    mine holder false is none = absurd (none-some (acts.Busy file holder) (sym none))

    by : (o : Option ℕ) → holder_of m file ≡ o → wait_for p.at.process file o ≡ None → q ≡ p.at.process
    by None none waits =
        let fails : list_any (does_hold file) m.processes ≡ false = sym (is_some-position (does_hold file) m.processes) ∙ ap is_some none in
        absurd (both_ways (does_hold file (progress_of m q)) (none_at_index (does_hold file) m.processes q new_progress refl fails) holds)
    by (Some holder) is waits =
        once file q holder holds (position-Some (does_hold file) m.processes holder new_progress is).1
        ∙ mine holder (nat_eq holder p.at.process) refl waits

-- ---- commands

-- a call that holds its file throughout has no pieces
pub throughout-no_pieces : (call : Call) → holds_throughout call ≡ true → pieces_of_call call ≡ []
throughout-no_pieces (Read fd off len) is = absurd (false≢true is)
throughout-no_pieces (Write fd off bytes) is = absurd (false≢true is)
throughout-no_pieces (RawRead address range) is = absurd (false≢true is)
throughout-no_pieces (RawWrite address lo bytes) is = absurd (false≢true is)
throughout-no_pieces call is = refl

none_below_zero : (xs : List ℕ) (count : ℕ) → count ≡ 0 → All (λ x. x < count) xs → xs ≡ []
none_below_zero [] count zero_is all = refl
none_below_zero (x ∷ xs) count zero_is all = let below : x < count = All-head (λ y. y < count) x xs all in absurd (omega arith)

-- a call without pieces has no commands
pub no_commands : (m : State) (p : Place) → AreCallsSound m → running m p.at.process ≡ Some p → pieces_of_call p.call ≡ [] →
    outstanding (progress_of m p.at.process) ≡ []
no_commands m p sound runs none =
    none_below_zero (outstanding (progress_of m p.at.process)) (length (pieces_of_call p.call)) (ap length none)
    (sound.commands.of_running p.at.process p runs).pieces

-- ---- as a call begins

-- nothing keeps the call from beginning, if it has not begun
pub record IsPassed (m : State) (p : Place) : Type 0 where
  pub passed : cond (has_begun (running_of m p)) None
      (before_beginning m.store (holder_of m) p (first_refusal m.store p.at.process p.call)) ≡ None

pub beginning_none : (s : Store) (holders : Holders) (p : Place) (o : Option Reason) → before_beginning s holders p o ≡ None →
    (o ≡ None) × (busy_at_first s holders p ≡ None)
beginning_none s holders p None none = (refl, none)
beginning_none s holders p (Some reason) none = absurd (none-some reason (sym (none_at_first s holders p (Some reason) none)))

-- a call that has not begun is not refused, and nobody else holds its file
pub unbegun_passed : (m : State) (p : Place) → IsPassed m p → has_begun (running_of m p) ≡ false →
    (first_refusal m.store p.at.process p.call ≡ None) × (busy_at_first m.store (holder_of m) p ≡ None)
unbegun_passed m p passes unbegun =
    let reason = first_refusal m.store p.at.process p.call in
    beginning_none m.store (holder_of m) p reason
    (subst (λ (b : Bool). cond b None (before_beginning m.store (holder_of m) p reason) ≡ None) unbegun passes.passed)

-- so no refusal holds of a call of which none came to hold
pub passed-allowed : (m : State) (p : Place) → AreAllowed m → running m p.at.process ≡ Some p → IsPassed m p → keeps_allowed p.call ≡ true →
    first_refusal m.store p.at.process p.call ≡ None
passed-allowed m p allowed runs passes keeps =
    ⊎_elim
    (λ begun. allowed p.at.process p runs keeps begun)
    (λ unbegun. (unbegun_passed m p passes unbegun).0)
    (cases_Bool (has_begun (running_of m p)))

-- a call without entries and without commands has not begun
pub empty-unbegun : (m : State) (p : Place) → p.before ≡ [] → outstanding (progress_of m p.at.process) ≡ [] → has_begun (running_of m p) ≡ false
empty-unbegun m p empty none =
    ap (λ (es : List Entry). not (is_none_of es && is_none_of (outstanding (progress_of m p.at.process)))) empty
    ∙ ap (λ (xs : List ℕ). not (is_none_of xs)) none

tests : (call : Call) → holds_throughout call ≡ true → tests_for_holder call ≡ true
tests (Enter name mode how) is = refl
tests (Truncate fd size) is = refl
tests (Unlink name) is = refl
tests (Map fd) is = refl
tests (Close fd) is = refl
tests call is = absurd (false≢true is)

-- ---- as a call goes on

-- no other process holds the file of a call that holds it throughout
pub passed-alone : (m : State) (p : Place) → AreCallsSound m → IsHeldOnce m → AreBegunHolding m → running m p.at.process ≡ Some p → IsPassed m p →
    holds_throughout p.call ≡ true → AloneOn m p
passed-alone m p sound once begun runs passes through = by p.before refl
  where
    by : (before : List Entry) → p.before ≡ before → AloneOn m p
    by [] empty =
        let none = no_commands m p sound runs (throughout-no_pieces p.call through) in
        let first = (unbegun_passed m p passes (empty-unbegun m p empty none)).1 in
        alone_tested m p once (subst (λ (b : Bool). cond b (busy m.store (holder_of m) p) None ≡ None) (tests p.call through) first)
    by (e ∷ before) some =
        let holds = begun p.at.process p runs through (λ none. let no : e ∷ before ≡ [] = sym some ∙ none in cc) in
        alone_holding m p holds.0 once holds.1 holds.2

-- ---- from an action

-- whether a turn of this action goes ahead with the call: it does not wait, and does not refuse the whole call
abbrev pub goes_ahead : Action → Bool
goes_ahead (processors.Adds row e) = not (is_whole_refusal e)
goes_ahead (processors.Posts key) = true
goes_ahead (processors.Submits piece) = true
goes_ahead processors.Polls = true
goes_ahead (processors.WaitsFor wait) = false

-- the action is for this next act of its call, which nothing keeps from beginning
pub record Ahead (m : State) (p : Place) (action : Action) : Type 0 where
  pub act : Act
  pub passes : IsPassed m p
  pub later : option_or (revoke (keys_to_revoke m.store p p.call)) (own_act m.store (holder_of m) (running_of m p) p.call) ≡ Some act
  pub for_act : action_for m p act ≡ Some action

busy_is : (s : Store) (holders : Holders) (p : Place) (act : Act) → busy s holders p ≡ Some act → (file : ℕ) × (holder : ℕ) × (act ≡ acts.Busy file holder)
busy_is s holders p act is =
    let found = then_from (λ file. wait_for p.at.process file (holders file)) (file_of s p) act is in
    waits found.0 (holders found.0) found.2
  where
    by : (file holder : ℕ) (b : Bool) → cond b None (Some (acts.Busy file holder)) ≡ Some act → (file : ℕ) × (holder : ℕ) × (act ≡ acts.Busy file holder)
    by file holder true is = absurd (none-some act is)
    by file holder false is = (file, holder, sym (same_Some (acts.Busy file holder) act is))

    waits : (file : ℕ) (o : Option ℕ) → wait_for p.at.process file o ≡ Some act → (file : ℕ) × (holder : ℕ) × (act ≡ acts.Busy file holder)
    waits file None is = absurd (none-some act is)
    waits file (Some holder) is = by file holder (nat_eq holder p.at.process) is

-- an act that keeps a call from beginning waits or refuses it
first_acts : (s : Store) (holders : Holders) (p : Place) (o : Option Reason) (act : Act) → before_beginning s holders p o ≡ Some act →
    ((file : ℕ) × (holder : ℕ) × (act ≡ acts.Busy file holder)) ⊎ ((reason : Reason) × (act ≡ acts.Refuse None reason))
first_acts s holders p o act is = of_reason o is
  where
    at_first : (b : Bool) → cond b (busy s holders p) None ≡ Some act → (file : ℕ) × (holder : ℕ) × (act ≡ acts.Busy file holder)
    at_first true is = busy_is s holders p act is
    at_first false is = absurd (none-some act is)

    by : (reason : Reason) (b : Bool) →
        cond b (Some (acts.Refuse None reason)) (option_or (busy_at_first s holders p) (Some (acts.Refuse None reason))) ≡ Some act →
        ((file : ℕ) × (holder : ℕ) × (act ≡ acts.Busy file holder)) ⊎ ((reason : Reason) × (act ≡ acts.Refuse None reason))
    by reason true is = inr (reason, sym (same_Some (acts.Refuse None reason) act is))
    by reason false is =
        ⊎_elim
        (λ waits. inl (at_first (tests_for_holder p.call) waits))
        (λ refuses. inr (reason, sym (same_Some (acts.Refuse None reason) act refuses.1)))
        (or_from_either (busy_at_first s holders p) (Some (acts.Refuse None reason)) act is)

    of_reason : (o : Option Reason) → before_beginning s holders p o ≡ Some act →
        ((file : ℕ) × (holder : ℕ) × (act ≡ acts.Busy file holder)) ⊎ ((reason : Reason) × (act ≡ acts.Refuse None reason))
    of_reason None is = inl (at_first (tests_for_holder p.call) is)
    of_reason (Some reason) is = by reason (comes_before_holder reason) is

-- the action of such an act does not go ahead
not_ahead : (m : State) (p : Place) (act : Act) (action : Action) →
    ((file : ℕ) × (holder : ℕ) × (act ≡ acts.Busy file holder)) ⊎ ((reason : Reason) × (act ≡ acts.Refuse None reason)) →
    action_for m p act ≡ Some action → goes_ahead action ≡ false
not_ahead m p act action first is =
    ⊎_elim
    (λ waits. sym (ap goes_ahead (same_Some _ action (sym (ap (action_for m p) waits.2) ∙ is))))
    (λ refuses. sym (ap goes_ahead (same_Some _ action (sym (ap (action_for m p) refuses.1) ∙ is))))
    first

pub ahead : (m : State) (p : Place) (action : Action) → next_action m p ≡ Some action → goes_ahead action ≡ true → Ahead m p action
ahead m p action is goes =
    let found = then_from (action_for m p) (next_act m.store (holder_of m) (running_of m p)) action is in
    let act : Act = found.0 in
    let first : Option Act = before_beginning m.store (holder_of m) p (first_refusal m.store p.at.process p.call) in
    ⊎_elim
    (λ begins. absurd (both_ways (goes_ahead action) (not_ahead m p act action (tested (has_begun (running_of m p)) begins) found.2) goes))
    (λ later. record { act = act; passes = record { passed = later.0 }; later = later.1; for_act = found.2 })
    (or_from_either (cond (has_begun (running_of m p)) None first) _ act found.1)
  where
    tested : {act : Act} (b : Bool) →
        cond b None (before_beginning m.store (holder_of m) p (first_refusal m.store p.at.process p.call)) ≡ Some act →
        ((file : ℕ) × (holder : ℕ) × (act ≡ acts.Busy file holder)) ⊎ ((reason : Reason) × (act ≡ acts.Refuse None reason))
    tested {act = act} true is = absurd (none-some act is)
    tested {act = act} false is = first_acts m.store (holder_of m) p (first_refusal m.store p.at.process p.call) act is

-- the keys of a call that has some to revoke are revoked first
pub own_or_revoke : (keys : List Key) (own : Option Act) (act : Act) → option_or (revoke keys) own ≡ Some act →
    ((keys ≡ []) × (own ≡ Some act)) ⊎ (act ≡ acts.Revoke keys)
own_or_revoke [] own act is = inl (refl, is)
own_or_revoke (key ∷ keys) own act is = inr (sym (same_Some (acts.Revoke (key ∷ keys)) act is))

-- ---- the entry of an action

-- the entry that an action adds, and the row of it
abbrev entry_in : Action → Option (Row × Entry)
entry_in (processors.Adds row e) = Some (row, e)
entry_in action = None

-- an action that adds an entry does so for its act, or it clears a key of its revocation
pub adds_for : (m : State) (p : Place) (act : Act) (row : Row) (e : Entry) → action_for m p act ≡ Some (processors.Adds row e) →
    ((entry_of_act m.store p act ≡ Some e) × (row_of_entry e ≡ row))
    ⊎ ((keys : List Key) × (act ≡ acts.Revoke keys) × (revocation m p keys ≡ processors.Adds row e))
adds_for m p (acts.Busy file holder) row e is =
    absurd (none-some (row, e) (ap entry_in (same_Some _ _ is)))
adds_for m p (acts.Revoke keys) row e is = inr (keys, refl, same_Some _ _ is)
adds_for m p (acts.Submit piece) row e is = absurd (none-some (row, e) (ap entry_in (same_Some _ _ is)))
adds_for m p acts.Poll row e is = absurd (by (is_none_of (progress_of m p.at.process).completed) _ (same_Some _ _ is))
  where
    by : (b : Bool) (wait : Wait) → cond b (processors.WaitsFor wait) processors.Polls ≡ processors.Adds row e → ⊥
    by true wait is = none-some (row, e) (ap entry_in is)
    by false wait is = none-some (row, e) (ap entry_in is)
adds_for m p act row e is =
    let found = map_from (λ entry. processors.Adds (row_of_entry entry) entry) (entry_of_act m.store p act) (processors.Adds row e) is in
    let same : (row_of_entry found.0, found.0) ≡ (row, e) = same_Some _ _ (ap entry_in found.2) in
    inl (found.1 ∙ ap (λ (x : Row × Entry). Some x.1) same, ap row_of_entry (sym (ap (λ (x : Row × Entry). x.1) same)) ∙ ap (λ (x : Row × Entry). x.0) same)
