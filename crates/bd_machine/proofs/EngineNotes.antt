-- A step of an engine that adds an entry of the command in its hand, and keeps what became of it.
use Rattle.std.proofs.Common.{◌≡◌, ℕ, ◌+◌, ◌<◌, Bool, true, false, ◌&&◌, ◌||◌, [], ◌∷◌, ◌++◌, Option, None, Some, refl, sym, ap, ◌∙◌, subst, arith}
use Rattle.std.specs.Prelude.{slice_index_or, nat_eq, IsSome}
use Rattle.std.specs.Option.{option_map, option_to_list}
use Rattle.std.proofs.lemmas.Bool.{eqb-true, or_parts}
use Rattle.std.proofs.Math.Bool.{or-false}
use Rattle.std.proofs.lemmas.List.Folds.{list_any-append}
use Rattle.std.proofs.lemmas.Option.{same_Some}
use Rattle.bd_base.specs.declared.journal.At.{At}
use Rattle.bd_base.specs.declared.limits.TheConstants.{CALLS}
use Rattle.bd_entry.specs.declared.entry.Entry.{Entry}
use Rattle.bd_entry.specs.Calls.{Place, has_missed, is_answered, is_miss_of, same_call}
use Rattle.bd_entry.specs.Effects.{after_change}
use Rattle.bd_entry.proofs.CallOrder.{entries_of-other}
use Rattle.bd_kernel.specs.Disks.{DiskState, IsDiskOf}
use Rattle.bd_kernel.specs.Turns as kernel
use Rattle.bd_machine.specs.declared.parts.Parts.{Parts}
use Rattle.bd_machine.specs.declared.process.Hand.{Hand}
use Rattle.bd_machine.specs.declared.process.Process.{Process}
use Rattle.bd_machine.specs.Engines.{Becomes, IsInPhase, TakesStep, with_answer}
use Rattle.bd_machine.specs.Logs.{AppendsEntry, LogState}
use Rattle.bd_machine.specs.Shows.{IsHandOf, IsProcessAt, Shows, hand_shown, in_hand_of, is_miss, progress_shown}
use Rattle.bd_machine.specs.Turns.{HasBegun, NotesEntry, Sight, process_in}
use Rattle.bd_machine.proofs.EngineFacts.{Working}
use Rattle.bd_machine.proofs.EnginePhases.{goes_on_with, same_passes, walks_in, walks_with}
use Rattle.bd_machine.proofs.EngineSteps.{ProcessSteps, steps_shown, still_runs}
use Rattle.bd_machine.proofs.EngineWalks.{facts, in_hand_there, phase_shown, running_there}
use Rattle.bd_machine.proofs.Showing.{AddsEntry, IsOf, engine_is_of, entry_running, entry_step, with_one_more}
use Rattle.bd_queue_pair.specs.declared.command.DoneKind.{DoneKind}
use Rattle.bd_turns.specs.declared.turn.Row.{Row}
use Rattle.bd_turns.specs.Engines.{Step, engine_step, notes}
use Rattle.bd_turns.specs.Sound.{has_told}
use Rattle.bd_turns.specs.State.{InHand, Phase, Progress, State, outstanding, progress_of, running, with_progress}
use Rattle.bd_turns.specs.State as turns
use Rattle.bd_turns.specs.Turns.{turns_per_call, with_entry}
use Rattle.bd_turns.proofs.EngineCommands.{same_outstanding}
use Rattle.bd_tables.specs.declared.sides.Tables as sides

-- ---- an entry that was noted

-- the entry's own change was made, the running call took note of it, and it was appended to the log
pub record Noted {T M P : Type 0} (x : Parts T M P) (q : ℕ) (m : State) (e : Entry) (changed : DiskState) (n : Parts T M P) (l : LogState) : Type 0 where
  pub changed_is : IsDiskOf changed (after_change m.store e)
  pub held : changed.held ≡ x.disk.held
  pub noted : NotesEntry (record x { disk = changed }) n q e
  pub log : AppendsEntry n.log e l

-- so the entry was added
pub adds_entry : {T M P : Type 0} (x : Parts T M P) (q : ℕ) (m : State) (p : Place) (e : Entry) (changed : DiskState) (n : Parts T M P)
    (l : LogState) → p.at.process ≡ q →
    Noted x q m e changed n l → AddsEntry x (record n { log = l }) p m e
adds_entry {T} {M} {P} x q m p e changed n l same s = record {
  changed = changed;
  changed_is = s.changed_is;
  held = s.held;
  noted =
      subst (λ (k : ℕ). NotesEntry (record x { disk = changed }) (record n { log = x.log }) k e) (sym same)
      (subst (λ (y : Parts T M P). NotesEntry (record x { disk = changed }) y q e) (ap (λ (k : LogState). record n { log = k }) s.noted.log) s.noted);
  entries = s.log.entries ∙ ap (λ (k : LogState). k.entries ++ e ∷ []) s.noted.log;
}

-- a number is not the next one
not_next : (n : ℕ) → nat_eq n (n + 1) ≡ false
not_next n = by (nat_eq n (n + 1)) refl
  where
    by : (b : Bool) → nat_eq n (n + 1) ≡ b → nat_eq n (n + 1) ≡ false
    by true is = absurd (let same = eqb-true n (n + 1) is in omega (arith, same))
    by false is = is

-- what is false is so with anything
and_none : (b : Bool) → (b && false) ≡ false
and_none true = refl
and_none false = refl

-- a call is not the next one of its process
next_apart : (at : At) → same_call at (record { process = at.process; call = at.call + 1 }) ≡ false
next_apart at = ap (λ (b : Bool). nat_eq at.process at.process && b) (not_next at.call) ∙ and_none (nat_eq at.process at.process)

-- ---- the step

module _ {T M P : Type 0} {K : sides.Ghosts T P} (g : Sight) (x : Parts T M P) (q : ℕ) (phase : Phase) (w : IsInPhase K g x q phase)
    (walking : walks_with (Some phase) ≡ true)
    (silent : has_told phase ≡ false) (row : Row) (e : Entry)
    (stepping : engine_step g.state (facts g x q phase w).place
    ≡ Some (notes row g.state.tables (progress_of g.state (facts g x q phase w).place.at.process) w.hand.command.piece e)) where
  abbrev known : Working K g x q w.it
  known = facts g x q phase w

  abbrev p : Place
  p = known.place

  abbrev m : State
  m = g.state

  abbrev step : Step
  step = notes row m.tables (progress_of m p.at.process) w.hand.command.piece e

  is_of : IsOf m p e
  is_of = engine_is_of w.at.reached.0 m p step e w.at.reached.1 (running_there g x q phase w) stepping refl

  begun_there : HasBegun x p.at.process
  begun_there =
      subst (HasBegun x) (sym known.process_is) (record { it = w.it; there = w.there; begun = subst IsSome (sym known.call_is) refl })

  -- the state with the entry
  abbrev m1 : State
  m1 = with_entry m p.call e p.at

  abbrev p1 : Place
  p1 = with_one_more p e

  -- nothing was told of the command before
  unmissed : has_missed w.hand.command.piece p.before ≡ false
  unmissed =
      (or_parts (is_answered w.hand.command.piece p.before) (has_missed w.hand.command.piece p.before)
      ((known.sound.calls.commands.of_running p.at.process p (running_there g x q phase w)).in_hand (in_hand_of w.hand phase)
      (in_hand_there g x q phase w) ∙ silent)).1

  missed_now : has_missed w.hand.command.piece p1.before ≡ is_miss_of w.hand.command.piece e
  missed_now =
      list_any-append (is_miss_of w.hand.command.piece) p.before (e ∷ [])
      ∙ ap (λ (b : Bool). b || (is_miss_of w.hand.command.piece e || false)) unmissed
      ∙ or-false (is_miss_of w.hand.command.piece e)

  module _ (changed : DiskState) (n : Parts T M P) (l : LogState) (s : Noted x q m e changed n l) where
    abbrev y : Parts T M P
    y = record n { log = l }

    shown : Shows K g.script y m1
    shown = entry_step g.script x y m p e w.at.shows begun_there is_of (adds_entry x q m p e changed n l known.process_is s)

    runs : running m1 q ≡ Some p1
    runs = subst (λ (k : ℕ). running m1 k ≡ Some p1) known.process_is (entry_running m p e is_of)

    pub noted_call : (d : kernel.Progress) × (process_in n q ≡ Some (record w.it { call = Some d }))
    noted_call = let mine = s.noted.mine w.it known.call w.there known.call_is in (mine.0, mine.1)

    abbrev it1 : Process P
    it1 = record w.it { call = Some noted_call.0 }

    is_at : IsProcessAt K m1 (slice_index_or n.disk.held q None) n.tables q it1
    is_at = shown.each q it1 noted_call.1

    -- the phase in which it is shown is the same
    phase_there : is_at.phase ≡ Some phase
    phase_there =
        phase_shown is_at.phase w.hand phase
        (ap (hand_shown is_at.phase) (sym w.in_hand) ∙ sym (ap (λ (k : Progress). k.hand) is_at.progress) ∙ w.entered)

    module _ (z : Parts T M P) (kind : DoneKind) (kind_is : is_miss kind ≡ is_miss_of w.hand.command.piece e)
        (b : Becomes y z q n.tables (with_answer it1 w.hand kind)) where
      abbrev last : Process P
      last = with_answer it1 w.hand kind

      abbrev old : Progress
      old = progress_of m p.at.process

      abbrev new : Progress
      new = record old { hand = Some (record { piece = w.hand.command.piece; phase = turns.Retiring }) }

      old_shown : old ≡ progress_shown (slice_index_or n.disk.held q None) (Some phase) it1
      old_shown =
          ap (progress_of m) known.process_is ∙ is_at.progress
          ∙ ap (λ (f : Option Phase). progress_shown (slice_index_or n.disk.held q None) f it1) phase_there

      hand_now : (h : Hand) → Some (record w.hand { outcome = Some kind }) ≡ Some h → IsHandOf p1 (Some turns.Retiring) h
      hand_now h is =
          subst (IsHandOf p1 (Some turns.Retiring)) (same_Some (record w.hand { outcome = Some kind }) h is)
          (record {
            command = (is_at.hand p1 w.hand runs w.in_hand).command;
            outcome = kind_is ∙ sym missed_now;
          })

      process_steps : ProcessSteps K y z m1 p1 q it1 last n.tables m1.tables new
      process_steps = record {
        phase = Some turns.Retiring;
        becomes = b;
        tables_are = shown.tables;
        passes = same_passes n.tables q;
        call = refl;
        progress = ap (λ (k : Progress). record k { hand = Some (record { piece = w.hand.command.piece; phase = turns.Retiring }) }) old_shown;
        ended = refl;
        outstanding_is =
            same_outstanding p old w.hand.command.piece phase turns.Retiring (in_hand_there g x q phase w)
            ∙ ap (λ (k : ℕ). outstanding (progress_of m k)) known.process_is;
        submitted = is_at.submitted p1 runs;
        taken = is_at.taken ∙ ap (λ (h : Option Hand). option_to_list (option_map (λ (h : Hand). h.command) h)) w.in_hand;
        hand = hand_now;
        engine =
            goes_on_with n.tables q is_at.phase (Some turns.Retiring) it1 last true
            (λ is. walks_in it1 is_at.phase w.hand w.in_hand is ∙ ap walks_with phase_there ∙ walking) refl refl refl is_at.engine;
      }

      pub notes_on : TakesStep K g x z q row
      notes_on =
          let last_shown = steps_shown g.script y z m1 p1 q it1 last n.tables m1.tables new shown runs noted_call.1 process_steps in
          let last_runs = still_runs g.script y z m1 p1 q it1 last n.tables m1.tables new shown runs noted_call.1 process_steps in
          let log_is : l.events ≡ x.log.events = s.log.events ∙ ap (λ (k : LogState). k.events) s.noted.log in
          let turns_is : l.turns ≡ x.log.turns = s.log.turns ∙ ap (λ (k : LogState). k.turns) s.noted.log in
          let room_is : l.event_room ≡ x.log.event_room = s.log.room ∙ ap (λ (k : LogState). k.event_room) s.noted.log in
          record {
            place = p;
            running_is = known.running_is;
            step = step;
            stepping = stepping;
            row_is = refl;
            shows = subst (λ (k : ℕ). Shows K g.script z (with_progress m1 k new)) (sym known.process_is) last_shown;
            before = p1.before;
            still = subst (λ (k : ℕ). running (with_progress m1 k new) k ≡ Some p1) (sym known.process_is) last_runs;
            later =
                entries_of-other m.journal e (record { process = p.at.process; call = p.at.call + 1 })
                (subst (λ (at : At). same_call at (record { process = p.at.process; call = p.at.call + 1 }) ≡ false) (sym is_of.at_is) (next_apart p.at))
                ∙ known.later;
            begun = record { it = last; there = b.mine; begun = refl };
            few = record {
              calls = λ k is. subst (λ (k : Process P). k.ended < CALLS) (same_Some last k (sym b.mine ∙ is)) (known.few.calls w.it w.there);
              turns = λ k is. subst (λ (k : Process P). k.used < turns_per_call) (same_Some last k (sym b.mine ∙ is)) (known.few.turns w.it w.there);
            };
            events = ap (λ (k : LogState). k.events) b.log ∙ log_is;
            turns = ap (λ (k : LogState). k.turns) b.log ∙ turns_is;
            room = λ room. subst (λ (k : ℕ). 0 < k) (sym room_is ∙ sym (ap (λ (k : LogState). k.event_room) b.log)) room.event;
          }
