-- The turn of a processor that adds an entry leaves the state after it.
use Rattle.std.proofs.Common.{◌≡◌, ℕ, ◌+◌, ◌<◌, Bool, true, false, ◌&&◌, cond, [], ◌∷◌, ◌++◌, length, Option, None, refl, sym, ap, ◌∙◌, subst, arith}
use Rattle.std.specs.Prelude.{is_some, nat_eq}
use Rattle.std.proofs.lemmas.Bool.{ne_eqb}
use Rattle.bd_base.specs.declared.journal.At.{At}
use Rattle.bd_base.specs.declared.script.Script.{Script}
use Rattle.bd_entry.specs.declared.act.Act.{Act}
use Rattle.bd_entry.specs.declared.entry.Entry.{Entry}
use Rattle.bd_entry.specs.Calls.{Place, at_of, entries_of, same_call}
use Rattle.bd_entry.specs.Effects.{after_change, effect_of}
use Rattle.bd_entry.specs.Refusals.{file_of}
use Rattle.bd_entry.specs.Store.{Store}
use Rattle.bd_entry.proofs.CallOrder.{entries_of-other}
use Rattle.bd_kernel.specs.Disks.{DiskState, IsDiskOf}
use Rattle.bd_kernel.specs.Turns as kernel
use Rattle.bd_machine.specs.declared.parts.Parts.{Parts}
use Rattle.bd_machine.specs.declared.process.Process.{Process}
use Rattle.bd_machine.specs.Logs.{LogState}
use Rattle.bd_machine.specs.Shows.{Shows}
use Rattle.bd_machine.specs.Turns.{AreFew, EndsTurn, HasBegun, MayHold, NotesEntry, PassesStay, TookTurn, is_built, with_hold}
use Rattle.bd_machine.proofs.ProcessorAdds.{after_is, ghost_after}
use Rattle.bd_machine.proofs.ProcessorEnds.{none_later, took_did}
use Rattle.bd_machine.proofs.ProcessorEntries.{AddsHere}
use Rattle.bd_machine.proofs.ProcessorFacts.{few_shown, is_counted, outcome_for}
use Rattle.bd_machine.proofs.ProcessorHolds.{may_hold_if, taken_alone}
use Rattle.bd_machine.proofs.ProcessorReady.{Ready, place}
use Rattle.bd_machine.proofs.ProcessorSteps.{running_kept}
use Rattle.bd_machine.proofs.ProcessorSubmits.{there_is}
use Rattle.bd_machine.proofs.Showing.{AddsEntry, IsOf, end_step, entry_begun, entry_running, entry_step, hold_step, processor_is_of, tables_step, with_one_more}
use Rattle.bd_tables.specs.Seen.{ShowsAfter}
use Rattle.bd_tables.specs.State.{TableState}
use Rattle.bd_turns.specs.declared.turn.Turn.TheVariants.{Did}
use Rattle.bd_turns.specs.Processors as processors
use Rattle.bd_turns.specs.Processors.{row_of_entry}
use Rattle.bd_turns.specs.State.{Progress, State, progress_of, with_progress}
use Rattle.bd_turns.specs.Turns.{after_adding, after_effect, holds_after, tables_after, with_entry}
use Rattle.bd_turns.proofs.AddedEntries.{added_place}
use Rattle.bd_turns.proofs.DoneTurns.{progress_of-set}
use Rattle.bd_tables.specs.declared.sides.Tables as sides

-- the entry of another call is none of the next one
other_call : (process call : ℕ) (at : At) → at ≡ record { process = process; call = call } →
    same_call at (record { process = process; call = call + 1 }) ≡ false
other_call process call at is =
    ap (λ (a : At). same_call a (record { process = process; call = call + 1 })) is
    ∙ ap (λ (b : Bool). nat_eq process process && b) (ne_eqb call (call + 1) (λ same. absurd (omega (arith, same)))) ∙ by (nat_eq process process)
  where
    by : (b : Bool) → (b && false) ≡ false
    by true = refl
    by false = refl

module _ {T M P : Type 0} {K : sides.Ghosts T P} (script : Script) (x : Parts T M P) (m : State) (process : ℕ) (y : Process P) (c : kernel.Progress)
    (act : Act) (r : Ready K script x m process y c act)
    (e : Entry) (adds : AddsHere r.v m (place script x m process y c act r) act e) where
  abbrev p : Place
  p = place script x m process y c act r

  -- what the steps of the turn made, after the entry was made and before the turn is counted
  pub record Carried (d : DiskState) (z : Parts T M P) (tables : T) (log : LogState) (held : Option ℕ) : Type 0 where
    pub changed : IsDiskOf d (after_change m.store e)
    pub same_holds : d.held ≡ x.disk.held
    pub noted : NotesEntry (record x { disk = d }) z process e
    pub tables_are : ShowsAfter K.shows z.tables tables (λ t. tables_after (ghost_after script x m process y c act r e adds) t e)
    pub passes : PassesStay K z.tables tables
    pub entries : log.entries ≡ x.log.entries ++ e ∷ []
    pub held_is : held ≡ cond (holds_after p.call (row_of_entry e)) (file_of m.store p) None

  of_place : IsOf m p e
  of_place = processor_is_of r.v m p (row_of_entry e) e r.reached r.here.runs adds.acting

  begun_here : HasBegun x process
  begun_here = record { it = y; there = r.here.there; begun = ap (λ (o : Option kernel.Progress). is_some o) r.here.call_is }

  -- the file that the process takes is held by nobody else
  pub may_take : (held : Option ℕ) → is_built p.call ≡ true → held ≡ cond (holds_after p.call (row_of_entry e)) (file_of m.store p) None →
      MayHold x.disk.held process held
  may_take held built is =
      subst (MayHold x.disk.held process) (sym is)
      (may_hold_if script x m p (holds_after p.call (row_of_entry e)) r.here.shows
      (λ after. taken_alone r.v m p act e r.reached r.here.runs r.acts.next adds.adds adds.acting adds.added built after))

  module _ (d : DiskState) (z : Parts T M P) (tables : T) (log : LogState) (held : Option ℕ) (carried : Carried d z tables log held) where
    -- the parts once the call took note of the entry, and it stands in the journal
    abbrev noted_parts : Parts T M P
    noted_parts = record z { log = log }

    abbrev noted_state : State
    noted_state = with_entry m p.call e p.at

    adds_entry : AddsEntry x noted_parts p m e
    adds_entry = record {
      changed = d;
      changed_is = carried.changed;
      held = carried.same_holds;
      noted =
          subst (λ (w : Parts T M P). NotesEntry (record x { disk = d }) w process e)
          (ap (λ (l : LogState). record z { log = l }) carried.noted.log) carried.noted;
      entries = carried.entries;
    }

    -- then the tables follow, and the process holds its file
    abbrev pub held_parts : Parts T M P
    held_parts = with_hold (record z { tables = tables; log = log }) process held

    abbrev tabled_state : State
    tabled_state = record noted_state { tables = tables_after (ghost_after script x m process y c act r e adds) m.tables e }

    abbrev held_progress : Progress
    held_progress = record (progress_of m process) { held = held }

    abbrev held_state : State
    held_state = with_progress tabled_state process held_progress

    shows_noted : Shows K script noted_parts noted_state
    shows_noted = entry_step script x noted_parts m p e r.here.shows begun_here of_place adds_entry

    there : process < length m.processes
    there = there_is script x m process y r.here.shows r.here.there

    shows_held : Shows K script held_parts held_state
    shows_held =
        let after : TableState = tables_after (ghost_after script x m process y c act r e adds) m.tables e in
        let tabled = tables_step script noted_parts noted_state tables after shows_noted carried.passes
        (carried.tables_are m.tables shows_noted.tables) in
        let within = there in
        hold_step script (record noted_parts { tables = tables }) tabled_state process held tabled (omega (arith, within, r.here.shows.progresses))

    -- what the end of the turn asks
    pub begun_held : HasBegun held_parts process
    begun_held =
        let noted = entry_begun x noted_parts m p e begun_here adds_entry in
        record { it = noted.it; there = noted.there; begun = noted.begun }

    pub few_held : AreFew held_parts process
    few_held =
        let counted = is_counted r.v m process p r.reached r.here.runs in
        let same : progress_of held_state process ≡ held_progress = progress_of-set tabled_state process held_progress there in
        few_shown script held_parts held_state process shows_held
        (record {
          ended = subst (λ (g : Progress). g.ended < 256) (sym same) counted.ended;
          used = subst (λ (g : Progress). g.used < 25000) (sym same) counted.used;
        })

    -- the state that the turn leaves is the one after it
    after_is_adding : after_effect held_state p ≡ after_adding m p (row_of_entry e) e
    after_is_adding =
        let store : ghost_after script x m process y c act r e adds ≡ noted_state.store =
        after_is script x m process y c act r e adds ∙ ap (λ (q : Place). effect_of m.store q e) (sym (added_place r.v m p e adds.added)) in
        let is : tables_after (ghost_after script x m process y c act r e adds) m.tables e ≡ tables_after noted_state.store m.tables e =
        ap (λ (s : Store). tables_after s m.tables e) store in
        ap
        (λ (t : TableState). after_effect (with_progress (record noted_state { tables = t }) process (record (progress_of m process) { held = held })) p)
        is
        ∙ ap
        (λ (h : Option ℕ). after_effect
        (with_progress (record noted_state { tables = tables_after noted_state.store m.tables e }) process (record (progress_of m process) { held = h }))
        p)
        carried.held_is

    pub took_entry : (old new : Parts T M P) → log.events ≡ old.log.events → log.turns ≡ old.log.turns →
        EndsTurn held_parts new process process (row_of_entry e) → TookTurn K script old new m process (Did (row_of_entry e))
    took_entry old new events turns ends =
        let ended : (progress_of held_state process).ended ≡ (progress_of noted_state process).ended =
        ap (λ (g : Progress). g.ended) (progress_of-set tabled_state process held_progress there) in
        let later : entries_of (record { process = process; call = p.at.call + 1 }) held_state.journal ≡ [] =
        entries_of-other m.journal e (record { process = process; call = p.at.call + 1 }) (other_call process p.at.call (at_of e) adds.added.at_is)
        ∙ none_later r.v m p r.reached r.here.runs in
        took_did script old held_parts new m process (row_of_entry e) (after_adding m p (row_of_entry e) e) (e ∷ [])
        (subst (Shows K script new) after_is_adding
        (end_step script held_parts new held_state p (with_one_more p e).before process (row_of_entry e) shows_held
        (running_kept noted_state held_state process refl refl ended ∙ entry_running m p e of_place) begun_held later ends))
        (outcome_for m process p (processors.Adds (row_of_entry e) e) r.here.runs adds.acting) events turns ends.log
