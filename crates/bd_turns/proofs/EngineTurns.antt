-- The turns of engines leave the calls sound; so does every turn.
use Rattle.std.proofs.Common.{◌≡◌, ℕ, Bool, true, false, not, cond, List, [], ◌∷◌, drop, length, Option, None, Some, refl, sym, ap, ◌∙◌, subst, ⊎_elim}
use Rattle.std.specs.Prelude.{nat_eq, position}
use Rattle.std.specs.Option.{option_map_or}
use Rattle.std.specs.List.{list_any}
use Rattle.std.specs.FinMap as fin
use Rattle.std.proofs.lemmas.Bool.{false≢true, or_cases}
use Rattle.std.proofs.lemmas.List.Folds.{list_any-append}
use Rattle.std.proofs.lemmas.Option.{none-some, same_Some}
use Rattle.bd_base.specs.declared.key.Key.{Key}
use Rattle.bd_base.specs.declared.volume.Volume.{Volume}
use Rattle.bd_entry.specs.declared.entry.Entry.{Entry}
use Rattle.bd_entry.specs.declared.entry.Entry.TheVariants as entries
use Rattle.bd_entry.specs.Actions.{is_for_device}
use Rattle.bd_entry.specs.Calls.{Place}
use Rattle.bd_entry.specs.Laws.{AreOfCall, IsHistory}
use Rattle.bd_entry.specs.Promises.{is_access_or_miss, is_whole_refusal}
use Rattle.bd_entry.proofs.CallOrder.{start_of}
use Rattle.bd_entry.proofs.DescriptorSteps.{is_close}
use Rattle.bd_entry.proofs.HistoryLaws.{history_leads}
use Rattle.bd_entry.proofs.NextActs.{then_from}
use Rattle.bd_tables.specs.declared.state.Right.{Right}
use Rattle.bd_tables.specs.declared.state.RightState.{RightState}
use Rattle.bd_tables.specs.declared.state.RightState.TheVariants as states
use Rattle.bd_tables.specs.declared.state.Walk.{Walk}
use Rattle.bd_tables.specs.Effects as effects
use Rattle.bd_tables.specs.State.{TableState, engines_in}
use Rattle.bd_turns.proofs.Cases.{Effective, Leads, turn_leads}
use Rattle.bd_turns.proofs.ClearingCalls.{clears_key}
use Rattle.bd_turns.proofs.DoneTurns.{IsDone, grown}
use Rattle.bd_turns.proofs.CommandsOfSteps.{at_none, step_access, step_all, step_commands, step_ended, step_held, step_is}
use Rattle.bd_turns.proofs.HandsOfSteps.{entry_processes, entry_script}
use Rattle.bd_turns.proofs.GrowingHistories.{history_kept}
use Rattle.bd_turns.proofs.KeptCommands.{no_commands}
use Rattle.bd_turns.proofs.LegalActs.{none_without_pieces, pieces_outstanding}
use Rattle.bd_turns.proofs.LegalDetaches.{invalidation_ends, posting}
use Rattle.bd_turns.proofs.ProcessorTurns.{adds_sound, polls_sound, posts_sound, submits_sound}
use Rattle.bd_turns.proofs.RunningPlaces.{runs_at}
use Rattle.bd_turns.proofs.StayingDescriptors.{LeavesOpen}
use Rattle.bd_turns.proofs.TurnsDone.{LeavesCalls, before_none, calls_sound, commands_now, device_now, held_before, none_leaves, same_done, set_done}
use Rattle.bd_turns.specs.Added.{by_engine, by_invalidation, by_processor, EntriesAreNext, IsAdded}
use Rattle.bd_turns.specs.declared.turn.Row.{Row}
use Rattle.bd_turns.specs.declared.turn.Row.TheVariants as rows
use Rattle.bd_turns.specs.declared.turn.Wait.{Wait}
use Rattle.bd_turns.specs.declared.turn.Wait.TheVariants as waits
use Rattle.bd_turns.specs.Engines as engines
use Rattle.bd_turns.specs.Engines.{Invalidation, Step, detach, drain, engine_step, invalidate, invalidation_of, sweep_or_detach}
use Rattle.bd_turns.specs.Reached.{IsReached}
use Rattle.bd_turns.proofs.Columns.{TurnsKeepCalls}
use Rattle.bd_turns.specs.Sound.{AreCallsSound, is_clear_at}
use Rattle.bd_turns.specs.State.{Posted, State, outstanding, progress_of, running, with_progress}
use Rattle.bd_turns.specs.Turns.{after_effect, after_ending, after_step, after_turn, posting_place, with_entry, with_entry_if_any}

-- ---- entries that clear, refuse and close nothing

-- an entry of an engine is none of these
record IsQuiet (e : Entry) : Type 0 where
  whole : is_whole_refusal e ≡ false
  clears : (key : Key) → is_clear_at key e ≡ false
  closes : is_close e ≡ false

access_quiet : (e : Entry) → is_access_or_miss e ≡ true → IsQuiet e
access_quiet (entries.Access at piece fd file index block range wrote way bytes) is =
    record { whole = refl; clears = λ key. refl; closes = refl }
access_quiet (entries.Missed at piece found) is = record { whole = refl; clears = λ key. refl; closes = refl }
access_quiet e is = absurd (false≢true is)

-- a quiet entry closes no descriptor
quiet_leaves : (e : Entry) (process fd : ℕ) → IsQuiet e → LeavesOpen e process fd
quiet_leaves e process fd quiet at by closed process_is fd_is = false≢true (sym quiet.closes ∙ ap is_close closed)

-- a quiet entry clears no right
quiet_clears : (p : Place) (o : Option Entry) (key : Key) → ((e : Entry) → o ≡ Some e → IsQuiet e) →
    list_any (is_clear_at key) (grown p o).before ≡ true → list_any (is_clear_at key) p.before ≡ true
quiet_clears p None key quiet some = before_none p (is_clear_at key) some
quiet_clears p (Some e) key quiet some =
    ⊎_elim
    (λ before. before)
    (λ now.
    ⊎_elim (λ here. absurd (false≢true (sym ((quiet e refl).clears key) ∙ here))) (λ none. absurd (false≢true none))
    (or_cases (is_clear_at key e) false now))
    (or_cases (list_any (is_clear_at key) p.before) (list_any (is_clear_at key) (e ∷ []))
    (sym (list_any-append (is_clear_at key) p.before (e ∷ [])) ∙ some))

abbrev SoundAfter : Volume → State → Type 0
SoundAfter v next = IsHistory v next.script next.journal next.store → AreCallsSound next

-- ---- device engines

steps_sound : (v : Volume) (m : State) (p : Place) (step : Step) → IsReached v m → running m p.at.process ≡ Some p →
    engine_step m p ≡ Some step → ((e : Entry) → step.entry ≡ Some e → IsAdded v m p e) → SoundAfter v (after_step m p step)
steps_sound v m p step reached is stepping added history =
    let now = progress_of m p.at.process in
    let facts = step_is m p step stepping in
    let does = facts.does in
    let base : State = record (with_entry_if_any m p step.entry) { tables = step.tables } in
    let quiet : (e : Entry) → step.entry ≡ Some e → IsQuiet e = λ e adds. access_quiet e (step_access p now step e does adds) in
    let is_done : IsDone v m (with_progress base p.at.process step.progress) p step.entry step.progress =
    set_done v m p reached is base step.entry step.progress (entry_script m p step.entry) refl refl (entry_processes m p step.entry)
    facts.walks added (step_ended p now step does) in
    let leaves : LeavesCalls m p step.entry step.progress =
    record {
      commands = step_commands p now step does (commands_now v m p reached is);
      for_device = λ goes. step_all (λ piece. is_for_device m.store p piece ≡ true) p now step does (device_now v m p reached is goes);
      whole = λ e adds whole. absurd (false≢true (sym (quiet e adds).whole ∙ whole));
      held = λ holds key some.
          step_held p now step does ∙ held_before v m p reached is key (quiet_clears p step.entry key quiet some);
      leaves = λ other q key differ runs_m some e adds. quiet_leaves e key.process key.fd (quiet e adds);
    } in
    calls_sound v m (with_progress base p.at.process step.progress) p step.entry step.progress reached is_done leaves history

-- ---- the invalidation engine

-- the walks after an invalidation's step
abbrev walks_after : TableState → Invalidation → List Walk
walks_after tables (engines.Changes row after) = after.walks
walks_after tables (engines.Ends entry after) = after.walks
walks_after tables (engines.WaitsFor wait) = tables.walks

drain_walks : (tables : TableState) (key : Key) → walks_after tables (drain tables key) ≡ tables.walks
drain_walks tables key = by (nat_eq (engines_in tables.walks key) 0) (waits.InFlight key (engines_in tables.walks key))
  where
    by : (b : Bool) (wait : Wait) →
        walks_after tables (cond b (engines.Changes rows.Drain (effects.drain tables key)) (engines.WaitsFor wait)) ≡ tables.walks
    by true wait = refl
    by false wait = refl

sweep_walks : (tables : TableState) (post : Posted) (swept : List Bool) → walks_after tables (sweep_or_detach tables post swept) ≡ tables.walks
sweep_walks tables post swept = by (position not swept)
  where
    by : (o : Option ℕ) →
        walks_after tables (option_map_or (λ line. engines.Changes (rows.Sweep line) (effects.sweep tables line post.key)) o (detach tables post))
        ≡ tables.walks
    by None = refl
    by (Some line) = refl

-- no step of the invalidation engine changes a walk
invalidation_walks : (tables : TableState) (posted : List Posted) (step : Invalidation) → invalidation_of tables posted ≡ Some step →
    walks_after tables step ≡ tables.walks
invalidation_walks tables [] step is = absurd (none-some step is)
invalidation_walks tables (post ∷ rest) step is =
    let found = then_from (λ (right : Right). invalidate tables post right.state) (fin.get tables.rights post.key) step is in
    by found.0.state found.2
  where
    by : (state : RightState) → invalidate tables post state ≡ Some step → walks_after tables step ≡ tables.walks
    by states.On same = absurd (none-some step same)
    by states.Cleared same =
        ap (walks_after tables) (sym (same_Some (drain tables post.key) step same)) ∙ drain_walks tables post.key
    by (states.Drained swept) same =
        ap (walks_after tables) (sym (same_Some (sweep_or_detach tables post swept) step same)) ∙ sweep_walks tables post swept

changes_sound : (v : Volume) (m : State) (p : Place) (row : Row) (tables : TableState) → IsReached v m → posting_place m ≡ Some p →
    invalidation_of m.tables m.posted ≡ Some (engines.Changes row tables) → SoundAfter v (after_effect (record m { tables = tables }) p)
changes_sound v m p row tables reached posting_is changing history =
    let is = (posting v m p reached posting_is).running_is in
    let now = progress_of m p.at.process in
    let base : State = record m { tables = tables } in
    let walks = invalidation_walks m.tables m.posted (engines.Changes row tables) changing in
    let is_done : IsDone v m base p None now =
    same_done v m p reached is base None refl refl refl refl (ap (λ (walks : List Walk). length walks) walks) (λ x none. none_leaves x none) in
    let leaves : LeavesCalls m p None now =
    record {
      commands = at_none p now (commands_now v m p reached is);
      for_device = device_now v m p reached is;
      whole = λ x none. none_leaves x none;
      held = λ holds key some. held_before v m p reached is key (before_none p (is_clear_at key) some);
      leaves = λ other q key differ runs_m some x none. none_leaves x none;
    } in
    calls_sound v m base p None now reached is_done leaves history

ends_sound : (v : Volume) (m : State) (p : Place) (e : Entry) (tables : TableState) → IsReached v m → posting_place m ≡ Some p →
    invalidation_of m.tables m.posted ≡ Some (engines.Ends e tables) → IsAdded v m p e → SoundAfter v (after_ending m p e tables)
ends_sound v m p e tables reached posting_is ending added history =
    let posted = posting v m p reached posting_is in
    let is = posted.running_is in
    let now = progress_of m p.at.process in
    let runs = runs_at m p.at.process p is in
    let base : State = record (with_entry m p.call e p.at) { tables = tables; posted = drop 1 m.posted } in
    let walks = invalidation_walks m.tables m.posted (engines.Ends e tables) ending in
    let entry = (invalidation_ends m.tables tables m.posted posted.post e posted.first ending).entry in
    let quiet : IsQuiet e = subst IsQuiet entry (record { whole = refl; clears = λ key. refl; closes = refl }) in
    let quiet_same : (x : Entry) → Some e ≡ Some x → IsQuiet x = λ x same. subst IsQuiet (same_Some e x same) quiet in
    let of_call : AreOfCall (start_of p.call p.at) p.before =
    subst (AreOfCall (start_of p.call p.at)) (sym runs.before_is)
    ((history_leads v m.script m.journal m.store reached.history).ordered.of_call p.at p.call runs.called) in
    let clears = clears_key (start_of p.call p.at) posted.post.key p.before of_call posted.cleared in
    let none : outstanding now ≡ [] = none_without_pieces p.call (outstanding now) (pieces_outstanding v m p reached is) clears.no_pieces in
    let is_done : IsDone v m base p (Some e) now =
    same_done v m p reached is base (Some e) refl refl refl refl (ap (λ (walks : List Walk). length walks) walks)
    (λ x same. subst (IsAdded v m p) (same_Some e x same) added) in
    let leaves : LeavesCalls m p (Some e) now =
    record {
      commands = no_commands (grown p (Some e)) now none;
      for_device = device_now v m p reached is;
      whole = λ x same whole. none;
      held = λ holds key some. held_before v m p reached is key (quiet_clears p (Some e) key quiet_same some);
      leaves = λ other q key differ runs_m some x same. quiet_leaves x key.process key.fd (quiet_same x same);
    } in
    calls_sound v m base p (Some e) now reached is_done leaves history

-- ---- every turn

effective-sound : (v : Volume) (m next : State) → IsReached v m → EntriesAreNext v m → Effective m next → SoundAfter v next
effective-sound v m next reached each (Effective.adds p row entry is acting) =
    adds_sound v m p row entry reached is acting (each p entry (by_processor row is acting))
effective-sound v m next reached each (Effective.posts p key is acting) = posts_sound v m p (record { key = key; by = p.at }) reached is
effective-sound v m next reached each (Effective.submits p piece is acting) = submits_sound v m p piece reached is acting
effective-sound v m next reached each (Effective.polls p is acting) = polls_sound v m p reached is
effective-sound v m next reached each (Effective.steps p step is stepping) =
    steps_sound v m p step reached is stepping (λ e adds. each p e (by_engine step is stepping adds))
effective-sound v m next reached each (Effective.changes p row tables is changing) = changes_sound v m p row tables reached is changing
effective-sound v m next reached each (Effective.ends p entry tables is ending) =
    ends_sound v m p entry tables reached is ending (each p entry (by_invalidation tables is ending))

led-sound : (v : Volume) (m next : State) → IsReached v m → EntriesAreNext v m → Leads m next → SoundAfter v next
led-sound v m next reached each (Leads.stays same) history = subst AreCallsSound (sym same) reached.sound.calls
led-sound v m next reached each (Leads.acts effective) history = effective-sound v m next reached each effective history

pub calls_kept : TurnsKeepCalls
calls_kept v m actor reached each is_actor =
    led-sound v m (after_turn m actor) reached each (turn_leads m actor) (history_kept v m actor reached each is_actor)
