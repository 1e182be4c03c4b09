-- What every effective turn does to calls, holds and the store, told once for all kinds of turns.
use Rattle.std.proofs.Common.{◌≡◌, ◌≢◌, ◌⊎◌, inl, inr, ℕ, ◌<◌, Bool, true, false, not, ◌&&◌, cond, List, [], ◌∷◌, ◌++◌, length, Option, None, Some, refl, sym, ap, ◌∙◌, subst, ⊎_elim}
use Rattle.std.specs.Prelude.{drop}
use Rattle.std.specs.Option.{option_to_list}
use Rattle.std.proofs.lemmas.Bool.{and_from, both_ways, cases_Bool, false≢true}
use Rattle.std.proofs.lemmas.List.{append-nil, get_or-set_other, get_or-set_same, length-set}
use Rattle.std.proofs.lemmas.Option.{none-some, same_Some}
use Rattle.bd_base.specs.declared.journal.At.{At}
use Rattle.bd_base.specs.declared.script.Call.{Call}
use Rattle.bd_base.specs.declared.volume.Volume.{Volume}
use Rattle.bd_entry.specs.declared.entry.Entry.{Entry}
use Rattle.bd_entry.specs.declared.entry.Entry.TheVariants as entries
use Rattle.bd_entry.specs.Actions.{has_begun, is_none_of}
use Rattle.bd_entry.specs.Calls.{Place, at_of, is_end_of, is_ended_by, pieces_of_call}
use Rattle.bd_entry.specs.Effects.{effect_of}
use Rattle.bd_entry.specs.Promises.{is_whole_refusal, is_access_or_miss}
use Rattle.bd_entry.specs.Refusals.{file_of, first_refusal}
use Rattle.bd_entry.specs.Rules.{place_in}
use Rattle.bd_entry.specs.Store.{Store}
use Rattle.bd_tables.specs.State.{TableState}
use Rattle.bd_turns.specs.declared.turn.Row.{Row}
use Rattle.bd_turns.specs.declared.turn.Row.TheVariants as rows
use Rattle.bd_turns.specs.Added.{IsAdded}
use Rattle.bd_turns.specs.Engines.{Step, engine_step}
use Rattle.bd_turns.specs.Processors as processors
use Rattle.bd_turns.specs.Processors.{next_action, row_of_entry, running_of}
use Rattle.bd_turns.specs.Reached.{IsReached}
use Rattle.bd_turns.specs.Sound.{keeps_allowed}
use Rattle.bd_turns.specs.State.{Progress, State, has_ended, outstanding, progress_of, running, with_progress}
use Rattle.bd_turns.specs.Turns.{after_adding, after_effect, after_ending, after_polling, after_posting, after_step, after_submitting, holds_after, holds_throughout, tables_after, with_entry, with_entry_if_any, with_hold}
use Rattle.bd_entry.proofs.NextReady.{ended_by_end, whole_ends}
use Rattle.bd_turns.proofs.ActionsOfCalls.{Ahead, AloneOn, ahead, no_commands, passed-allowed, passed-alone, throughout-no_pieces}
use Rattle.bd_turns.proofs.CallsAfterTurns.{Follows, Prepares, follows, runs_within}
use Rattle.bd_turns.proofs.StepsLeave.{step_keeps}
use Rattle.bd_turns.proofs.EntriesOfCalls.{alone_adding, needs_hold, passed-file}
use Rattle.bd_turns.proofs.FilesOfCalls.{store_after}

-- the store after the entry of this call, if any
abbrev pub store_with : Store → Call → Option Entry → Store
store_with s call None = s
store_with s call (Some e) = store_after s call e

-- the process of the place held the file before, or it is the file of its call and no other process holds it
abbrev pub IsHeldFor : State → Place → ℕ → Type 0
IsHeldFor m p file =
    ((progress_of m p.at.process).held ≡ Some file) ⊎ ((file_of m.store p ≡ Some file) × AloneOn m p)

-- what holds of a call that goes on: what its process holds, and that no refusal holds of it
pub record IsGoing (m : State) (p : Place) (entry : Option Entry) (g : Progress) : Type 0 where
  pub held : (file : ℕ) → g.held ≡ Some file → IsHeldFor m p file
  pub through : holds_throughout p.call ≡ true → p.before ++ option_to_list entry ≢ [] →
      (file : ℕ) × (file_of m.store p ≡ Some file) × (g.held ≡ Some file)
  pub allowed : keeps_allowed p.call ≡ true → first_refusal m.store p.at.process p.call ≡ None

-- an effective turn in the name of the call at a place, which adds this entry, if any
pub record Turned (v : Volume) (m next : State) (p : Place) (entry : Option Entry) (g : Progress) : Type 0 where
  pub runs : running m p.at.process ≡ Some p
  pub follows : Follows m next p (option_to_list entry) g
  pub store : next.store ≡ store_with m.store p.call entry
  pub added : (e : Entry) → entry ≡ Some e → IsAdded v m p e
  pub commands : (e : Entry) → entry ≡ Some e → pieces_of_call p.call ≡ [] → outstanding g ≡ []
  pub alone : (e : Entry) → entry ≡ Some e → needs_hold e ≡ true → AloneOn m p
  pub going : has_ended p.call (p.before ++ option_to_list entry) g ≡ false → IsGoing m p entry g

-- ---- refusals of whole calls end them

-- a call with an end among its entries and without commands has ended
pub has_ended-by_end : (call : Call) (before : List Entry) (e : Entry) (g : Progress) → is_end_of call e ≡ true → outstanding g ≡ [] →
    has_ended call (before ++ e ∷ []) g ≡ true
has_ended-by_end call before e g ends none =
    and_from (is_ended_by call (before ++ e ∷ [])) (is_none_of (outstanding g)) (ended_by_end call before e ends) (ap is_none_of none)

not_whole : (call : Call) (before : List Entry) (e : Entry) (g : Progress) → has_ended call (before ++ e ∷ []) g ≡ false → outstanding g ≡ [] →
    is_whole_refusal e ≡ false
not_whole call before e g unended none =
    ⊎_elim
    (λ whole. absurd (both_ways (has_ended call (before ++ e ∷ []) g) unended (has_ended-by_end call before e g (whole_ends call e whole) none)))
    (λ other. other)
    (cases_Bool (is_whole_refusal e))

-- ---- holds after a row

-- a hold after a turn of this row is on the file of the call
held_after : (b : Bool) (of : Option ℕ) (file : ℕ) → cond b of None ≡ Some file → (b ≡ true) × (of ≡ Some file)
held_after true of file is = (refl, is)
held_after false of file is = absurd (none-some file is)

throughout-after : (call : Call) (row : Row) → holds_throughout call ≡ true → holds_after call row ≡ true
throughout-after call rows.Extend through = refl
throughout-after call row through = through

extends : (call : Call) (e : Entry) → holds_after call (row_of_entry e) ≡ true → (holds_throughout call ≡ true) ⊎ (needs_hold e ≡ true)
extends call (entries.Extended at file to block) holds = inr refl
extends call (entries.Opened at file fd mode how) holds = inl holds
extends call e holds = inl holds

-- ---- a changed progress

set_progress : (m k : State) (process : ℕ) (x : Progress) → k.processes ≡ m.processes → process < length m.processes →
    progress_of (with_progress k process x) process ≡ x
set_progress m k process x same within =
    ap (λ (ps : List Progress). progress_of (with_progress (record k { processes = ps }) process x) process) same
    ∙ get_or-set_same m.processes process x _ within

module _ (v : Volume) (m : State) (reached : IsReached v m) (p : Place) (runs : running m p.at.process ≡ Some p) where
  abbrev process : ℕ
  process = p.at.process

  abbrev old : Progress
  old = progress_of m process

  within : process < length m.processes
  within = runs_within m process p reached.sound.calls.processes runs

  -- a call that has entries, or commands, has begun
  begun_by_entries : p.before ≢ [] → has_begun (running_of m p) ≡ true
  begun_by_entries some = by p.before (outstanding old) some
    where
      by : (before : List Entry) (xs : List ℕ) → before ≢ [] → not (is_none_of before && is_none_of xs) ≡ true
      by [] xs some = absurd (some refl)
      by (e ∷ before) xs some = refl

  begun_by_commands : outstanding old ≢ [] → has_begun (running_of m p) ≡ true
  begun_by_commands some = by p.before (outstanding old) some
    where
      by : (before : List Entry) (xs : List ℕ) → xs ≢ [] → not (is_none_of before && is_none_of xs) ≡ true
      by before [] some = absurd (some refl)
      by [] (x ∷ xs) some = refl
      by (e ∷ before) (x ∷ xs) some = refl

  -- a call that has not begun has neither
  unbegun-nothing : has_begun (running_of m p) ≡ false → outstanding old ≡ []
  unbegun-nothing unbegun = by (outstanding old) refl
    where
      by : (xs : List ℕ) → outstanding (progress_of m p.at.process) ≡ xs → outstanding (progress_of m p.at.process) ≡ []
      by [] is = is
      by (x ∷ xs) is =
          absurd
          (both_ways (has_begun (running_of m p)) unbegun
          (begun_by_commands (λ none. let no : x ∷ xs ≡ [] = sym is ∙ none in cc)))

  prepares-set : (k : State) (entry : Option Entry) (x : Progress) → k.script ≡ m.script → k.journal ≡ m.journal ++ option_to_list entry →
      k.processes ≡ m.processes → ((e : Entry) → entry ≡ Some e → at_of e ≡ p.at) → x.ended ≡ old.ended →
      Prepares m (with_progress k process x) p entry
  prepares-set k entry x script journal same of ended = record {
    script = script;
    journal = journal;
    of_call = of;
    count = length-set k.processes process x ∙ ap length same;
    others = λ q differ.
        get_or-set_other k.processes process q x _ differ ∙ ap (λ (ps : List Progress). progress_of (record k { processes = ps }) q) same;
    ended = ap (λ (g : Progress). g.ended) (set_progress m k process x same within) ∙ ended;
  }

  follows-set : (k : State) (entry : Option Entry) (x : Progress) → k.script ≡ m.script → k.journal ≡ m.journal ++ option_to_list entry →
      k.processes ≡ m.processes → ((e : Entry) → entry ≡ Some e → at_of e ≡ p.at) → x.ended ≡ old.ended →
      Follows m (after_effect (with_progress k process x) p) p (option_to_list entry) x
  follows-set k entry x script journal same of ended =
      subst (Follows m (after_effect (with_progress k process x) p) p (option_to_list entry)) (set_progress m k process x same within)
      (follows m (with_progress k process x) p entry runs reached.sound.calls (prepares-set k entry x script journal same of ended))

  -- a turn that leaves the holds, of a call that has begun or that nothing keeps from beginning
  kept_going : (entry : Option Entry) (g : Progress) → g.held ≡ old.held → (p.before ≡ [] → holds_throughout p.call ≡ true → entry ≡ None) →
      (keeps_allowed p.call ≡ true → first_refusal m.store process p.call ≡ None) → IsGoing m p entry g
  kept_going entry g held none allowed = record {
    held = λ file is. inl (sym held ∙ is);
    through = λ through some.
        let holds = reached.sound.holds_are.begun_holding process p runs through
        (λ empty.
        some (ap (λ (es : List Entry). es ++ option_to_list entry) empty ∙ ap option_to_list (none empty through))) in
        (holds.0, holds.1, held ∙ holds.2);
    allowed = allowed;
  }

  -- ---- the kinds of turns

  pub turned_adds : (row : Row) (e : Entry) → IsAdded v m p e → next_action m p ≡ Some (processors.Adds row e) → row_of_entry e ≡ row →
      Turned v m (after_adding m p row e) p (Some e) (with_hold p.call row (file_of m.store p) old)
  turned_adds row e added acting row_is =
      let s = m.store in
      let calls = reached.sound.calls in
      let holds = reached.sound.holds_are in
      let k : State = record (with_entry m p.call e p.at) { tables = tables_after (effect_of s (place_in s p.call p.at) e) m.tables e } in
      let g : Progress = with_hold p.call row (file_of s p) old in
      let passes : is_whole_refusal e ≡ false → Ahead m p (processors.Adds row e) = λ other. ahead m p (processors.Adds row e) acting (ap not other) in
      record {
        runs = runs;
        follows = follows-set k (Some e) g refl refl refl (λ x is. ap at_of (sym (same_Some e x is)) ∙ added.at_is) refl;
        store = ap (λ (at : At). effect_of s (place_in s p.call at) e) (sym added.at_is);
        added = λ x is. subst (IsAdded v m p) (same_Some e x is) added;
        commands = λ x is none. no_commands m p calls runs none;
        alone = λ x is needs. alone_adding v m p row e calls holds runs added acting (ap needs_hold (same_Some e x is) ∙ needs);
        going = λ unended.
            let throughout : holds_throughout p.call ≡ true → Ahead m p (processors.Adds row e) =
            λ through. passes (not_whole p.call p.before e g unended (no_commands m p calls runs (throughout-no_pieces p.call through))) in
            record {
              held = λ file is.
                  let after = held_after (holds_after p.call row) (file_of s p) file is in
                  inr (
                    after.1,
                    ⊎_elim
                        (λ through. passed-alone m p calls holds.held_once holds.begun_holding runs (throughout through).passes through)
                        (λ needs. alone_adding v m p row e calls holds runs added acting needs)
                        (extends p.call e (ap (holds_after p.call) row_is ∙ after.0)),
                  );
              through = λ through some.
                  let file = passed-file m p calls holds.begun_holding runs (throughout through).passes through in
                  (file.0, file.1, ap (λ (b : Bool). cond b (file_of s p) None) (throughout-after p.call row through) ∙ file.1);
              allowed = λ keeps.
                  ⊎_elim
                  (λ begun. holds.allowed process p runs keeps begun)
                  (λ unbegun.
                  passed-allowed m p holds.allowed runs
                  (passes (not_whole p.call p.before e g unended (unbegun-nothing unbegun))).passes keeps)
                  (cases_Bool (has_begun (running_of m p)));
            };
      }

  pub turned_posts : (key : _) → next_action m p ≡ Some (processors.Posts key) →
      Turned v m (after_posting m p (record { key = key; by = p.at })) p None (with_hold p.call rows.Post (file_of m.store p) old)
  turned_posts key acting =
      let s = m.store in
      let calls = reached.sound.calls in
      let holds = reached.sound.holds_are in
      let k : State = record m { posted = m.posted ++ (record { key = key; by = p.at }) ∷ [] } in
      let g : Progress = with_hold p.call rows.Post (file_of s p) old in
      let passes = (ahead m p (processors.Posts key) acting refl).passes in
      record {
        runs = runs;
        follows = follows-set k None g refl (sym (append-nil m.journal)) refl (λ x is. absurd (none-some x is)) refl;
        store = refl;
        added = λ x is. absurd (none-some x is);
        commands = λ x is none. absurd (none-some x is);
        alone = λ x is needs. absurd (none-some x is);
        going = λ unended. record {
          held = λ file is.
              let after = held_after (holds_throughout p.call) (file_of s p) file is in
              inr (after.1, passed-alone m p calls holds.held_once holds.begun_holding runs passes after.0);
          through = λ through some.
              let file = passed-file m p calls holds.begun_holding runs passes through in
              (file.0, file.1, ap (λ (b : Bool). cond b (file_of s p) None) through ∙ file.1);
          allowed = passed-allowed m p holds.allowed runs passes;
        };
      }

  pub turned_submits : (piece : ℕ) → next_action m p ≡ Some (processors.Submits piece) →
      Turned v m (after_submitting m p piece) p None (record old { submitted = old.submitted ++ piece ∷ [] })
  turned_submits piece acting =
      let g : Progress = record old { submitted = old.submitted ++ piece ∷ [] } in
      record {
        runs = runs;
        follows = follows-set m None g refl (sym (append-nil m.journal)) refl (λ x is. absurd (none-some x is)) refl;
        store = refl;
        added = λ x is. absurd (none-some x is);
        commands = λ x is none. absurd (none-some x is);
        alone = λ x is needs. absurd (none-some x is);
        going = λ unended. kept_going None g refl (λ empty through. refl)
            (passed-allowed m p reached.sound.holds_are.allowed runs (ahead m p (processors.Submits piece) acting refl).passes);
      }

  pub turned_polls : next_action m p ≡ Some processors.Polls →
      Turned v m (after_polling m p) p None (record old { completed = drop 1 old.completed })
  turned_polls acting =
      let g : Progress = record old { completed = drop 1 old.completed } in
      record {
        runs = runs;
        follows = follows-set m None g refl (sym (append-nil m.journal)) refl (λ x is. absurd (none-some x is)) refl;
        store = refl;
        added = λ x is. absurd (none-some x is);
        commands = λ x is none. absurd (none-some x is);
        alone = λ x is needs. absurd (none-some x is);
        going = λ unended. kept_going None g refl (λ empty through. refl)
            (passed-allowed m p reached.sound.holds_are.allowed runs (ahead m p processors.Polls acting refl).passes);
      }

  -- an entry of a device needs no hold, and no call that holds its file throughout makes it
  device_needs_not : (e : Entry) → is_access_or_miss e ≡ true → needs_hold e ≡ true → ⊥
  device_needs_not (entries.Access at piece fd file index block range wrote way bytes) device needs = false≢true needs
  device_needs_not (entries.Missed at piece found) device needs = false≢true needs
  device_needs_not e device needs = false≢true device

  pub turned_steps : (step : Step) → ((e : Entry) → step.entry ≡ Some e → IsAdded v m p e) → engine_step m p ≡ Some step →
      Turned v m (after_step m p step) p step.entry step.progress
  turned_steps step added stepping =
      let keeps = step_keeps m p step stepping in
      record {
        runs = runs;
        follows = of_entry step.entry added;
        store = store_of step.entry added;
        added = added;
        commands = λ e is none. absurd (keeps.1 (no_commands m p reached.sound.calls runs none));
        alone = λ e is needs. absurd (device_needs_not e (keeps.0.device e is) needs);
        going = λ unended. kept_going step.entry step.progress keeps.0.held
            (λ empty through. absurd (keeps.1 (no_commands m p reached.sound.calls runs (throughout-no_pieces p.call through))))
            (λ allows. reached.sound.holds_are.allowed process p runs allows (begun_by_commands keeps.1));
      }
    where
      of_entry : (entry : Option Entry) → ((e : Entry) → entry ≡ Some e → IsAdded v m p e) →
          Follows m (after_effect (with_progress (record (with_entry_if_any m p entry) { tables = step.tables }) p.at.process step.progress) p) p
          (option_to_list entry) step.progress
      of_entry None added =
          follows-set (record m { tables = step.tables }) None step.progress refl (sym (append-nil m.journal)) refl (λ x is. absurd (none-some x is))
          (step_keeps m p step stepping).0.ended
      of_entry (Some e) added =
          follows-set (record (with_entry m p.call e p.at) { tables = step.tables }) (Some e) step.progress refl refl refl
          (λ x is. ap at_of (sym (same_Some e x is)) ∙ (added e refl).at_is) (step_keeps m p step stepping).0.ended

      store_of : (entry : Option Entry) → ((e : Entry) → entry ≡ Some e → IsAdded v m p e) →
          (with_entry_if_any m p entry).store ≡ store_with m.store p.call entry
      store_of None added = refl
      store_of (Some e) added = ap (λ (at : At). effect_of m.store (place_in m.store p.call at) e) (sym (added e refl).at_is)

  -- ---- the invalidation engine, for a call that has entries

  pub turned_changes : (tables : TableState) → p.before ≢ [] → Turned v m (after_effect (record m { tables = tables }) p) p None old
  turned_changes tables some = record {
    runs = runs;
    follows =
        follows m (record m { tables = tables }) p None runs reached.sound.calls
        (record {
          script = refl;
          journal = sym (append-nil m.journal);
          of_call = λ x is. absurd (none-some x is);
          count = refl;
          others = λ q differ. refl;
          ended = refl;
        });
    store = refl;
    added = λ x is. absurd (none-some x is);
    commands = λ x is none. absurd (none-some x is);
    alone = λ x is needs. absurd (none-some x is);
    going = λ unended. kept_going None old refl (λ empty through. refl)
        (λ keeps. reached.sound.holds_are.allowed process p runs keeps (begun_by_entries some));
  }

  pub turned_ends : (e : Entry) (tables : TableState) → p.before ≢ [] → IsAdded v m p e → needs_hold e ≡ false →
      Turned v m (after_ending m p e tables) p (Some e) old
  turned_ends e tables some added needs_not = record {
    runs = runs;
    follows =
        follows m (record (with_entry m p.call e p.at) { tables = tables; posted = drop 1 m.posted }) p (Some e) runs reached.sound.calls
        (record {
          script = refl;
          journal = refl;
          of_call = λ x is. ap at_of (sym (same_Some e x is)) ∙ added.at_is;
          count = refl;
          others = λ q differ. refl;
          ended = refl;
        });
    store = ap (λ (at : At). effect_of m.store (place_in m.store p.call at) e) (sym added.at_is);
    added = λ x is. subst (IsAdded v m p) (same_Some e x is) added;
    commands = λ x is none. no_commands m p reached.sound.calls runs none;
    alone = λ x is needs. absurd (both_ways (needs_hold e) needs_not (ap needs_hold (same_Some e x is) ∙ needs));
    going = λ unended. kept_going (Some e) old refl (λ empty through. absurd (some empty))
        (λ keeps. reached.sound.holds_are.allowed process p runs keeps (begun_by_entries some));
  }
