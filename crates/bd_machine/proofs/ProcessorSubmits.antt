-- The turns of a processor that submit a command or take a completion.
use Rattle.std.proofs.Common.{◌≡◌, ℕ, ◌<◌, cond, List, [], ◌∷◌, ◌++◌, length, map, drop, None, Some, refl, sym, ap, ◌∙◌, subst, arith}
use Rattle.std.specs.Prelude.{slice_index_or}
use Rattle.std.specs.Option.{option_and_then}
use Rattle.std.proofs.lemmas.Option.{slice_get_within}
use Rattle.bd_base.specs.declared.script.Script.{Script}
use Rattle.bd_base.specs.declared.volume.Volume.{Volume}
use Rattle.bd_entry.specs.declared.act.Act.TheVariants as acts
use Rattle.bd_entry.specs.Actions.{is_none_of, next_act}
use Rattle.bd_entry.specs.Calls.{Place}
use Rattle.bd_kernel.specs.Turns as kernel
use Rattle.bd_machine.specs.declared.parts.Parts.{Parts}
use Rattle.bd_machine.specs.declared.process.Process.{Process}
use Rattle.bd_machine.specs.Shows.{IsCommandOf, IsProcessAt, Shows, completed_of, progress_shown}
use Rattle.bd_machine.specs.Turns.{AreFew, EndsTurn, HasBegun, TookTurn, process_in}
use Rattle.bd_machine.proofs.ProcessorCommands.{HasRoom, RunsHere, has_room, outstanding_kept, polled_at, still_runs, submitted_at}
use Rattle.bd_machine.proofs.ProcessorEnds.{none_later, took_did}
use Rattle.bd_machine.proofs.ProcessorFacts.{few_shown, is_counted, outcome_for}
use Rattle.bd_machine.proofs.ProcessorSteps.{begun_now, own_step, with_process}
use Rattle.bd_machine.proofs.Showing.{end_step}
use Rattle.bd_queue_pair.specs.declared.command.Command.{Command}
use Rattle.bd_queue_pair.specs.declared.command.Done.{Done}
use Rattle.bd_queue_pair.specs.Queues.{Queues}
use Rattle.bd_turns.specs.declared.turn.Row.TheVariants as rows
use Rattle.bd_turns.specs.declared.turn.Turn.TheVariants.{Did}
use Rattle.bd_turns.specs.declared.turn.Wait.TheVariants as waits
use Rattle.bd_turns.specs.Processors as processors
use Rattle.bd_turns.specs.Processors.{Action, action_for, least_of, least_outstanding, next_action, running_of}
use Rattle.bd_turns.specs.Reached.{IsReached}
use Rattle.bd_turns.specs.State.{Completed, Progress, State, holder_of, outstanding, pieces_in_hand, progress_of, with_progress}
use Rattle.bd_turns.specs.Turns.{after_polling, after_submitting}
use Rattle.bd_turns.proofs.CommandSteps.{polled, with_submitted}
use Rattle.bd_turns.proofs.DoneTurns.{progress_of-set}
use Rattle.bd_tables.specs.declared.sides.Tables as sides

-- the process's progress is there
pub there_is : {T M P : Type 0} {K : sides.Ghosts T P} (script : Script) (x : Parts T M P) (m : State) (process : ℕ) (y : Process P) → Shows K script x m →
    process_in x process ≡ Some y →
    process < length m.processes
there_is script x m process y shows there =
    let within = slice_get_within x.processes.items process y there in
    omega (arith, within, shows.count, shows.progresses)

-- ---- a submission

module _ {T M P : Type 0} {K : sides.Ghosts T P} (script : Script) (x : Parts T M P) (m : State) (v : Volume) (p : Place) (y : Process P)
    (c : kernel.Progress) (here : RunsHere K script x m p y c)
    (reached : IsReached v m) (piece : ℕ) (next : next_act m.store (holder_of m) (running_of m p) ≡ Some (acts.Submit piece)) where
  pub acting_submits : next_action m p ≡ Some (processors.Submits piece)
  acting_submits = ap (option_and_then (action_for m p)) next

  pub room : HasRoom script x m p y c here v reached piece
  room = has_room script x m p y c here v reached piece acting_submits

  module _ (command : Command) (q : Queues) (d : kernel.Progress)
      (queue : q ≡ record y.queue { submitted = y.queue.submitted ++ command ∷ [] })
      (call : d ≡ record c { outstanding = c.outstanding ++ piece ∷ [] }) (of : IsCommandOf p command) (is : command.piece ≡ piece) where
    abbrev moved : Parts T M P
    moved = with_process x p.at.process (record y { queue = q; call = Some d })

    abbrev state : State
    state = with_progress m p.at.process (with_submitted (progress_of m p.at.process) piece)

    there : p.at.process < length m.processes
    there = there_is script x m p.at.process y here.shows here.there

    pub shows_submitted : Shows K script moved state
    shows_submitted =
        own_step x p.at.process y (record y { queue = q; call = Some d }) here.there script m (with_submitted (progress_of m p.at.process) piece)
        here.shows (submitted_at script x m p y c here there piece command q d queue call of is)

    -- the turn is counted, and told
    pub few_submitted : AreFew moved p.at.process
    few_submitted =
        let counted = is_counted v m p.at.process p reached here.runs in
        let same = progress_of-set m p.at.process (with_submitted (progress_of m p.at.process) piece) there in
        few_shown script moved state p.at.process shows_submitted
        (record {
          ended = subst (λ (g : Progress). g.ended < 256) (sym same) counted.ended;
          used = subst (λ (g : Progress). g.used < 25000) (sym same) counted.used;
        })

    pub begun_submitted : HasBegun moved p.at.process
    begun_submitted = begun_now x p.at.process y (record y { queue = q; call = Some d }) here.there refl

    pub took_submit : (old new : Parts T M P) → x.log.events ≡ old.log.events → x.log.turns ≡ old.log.turns →
        EndsTurn moved new p.at.process p.at.process rows.Submit → TookTurn K script old new m p.at.process (Did rows.Submit)
    took_submit old new events turns ends =
        took_did script old moved new m p.at.process rows.Submit (after_submitting m p piece) []
        (end_step script moved new state p p.before p.at.process rows.Submit shows_submitted
        (still_runs script x m p y c here there (with_submitted (progress_of m p.at.process) piece) refl ∙ here.runs)
        begun_submitted (none_later v m p reached here.runs) ends)
        (outcome_for m p.at.process p (processors.Submits piece) here.runs acting_submits) events turns ends.log

-- ---- a completion

module _ {T M P : Type 0} {K : sides.Ghosts T P} (script : Script) (x : Parts T M P) (m : State) (v : Volume) (p : Place) (y : Process P)
    (c : kernel.Progress) (here : RunsHere K script x m p y c)
    (reached : IsReached v m) (next : next_act m.store (holder_of m) (running_of m p) ≡ Some acts.Poll) where
  acting_polls : (done : List Completed) → (progress_of m p.at.process).completed ≡ done → (action : Action) →
      cond (is_none_of done) (processors.WaitsFor (waits.Completion (least_outstanding (outstanding (progress_of m p.at.process))))) processors.Polls
      ≡ action → next_action m p ≡ Some action
  acting_polls done is action for =
      ap (option_and_then (action_for m p)) next
      ∙ ap
      (λ (l : List Completed). Some (cond (is_none_of l)
      (processors.WaitsFor (waits.Completion (least_outstanding (outstanding (progress_of m p.at.process))))) processors.Polls))
      is
      ∙ ap Some for

  at_y : IsProcessAt K m (slice_index_or x.disk.held p.at.process None) x.tables p.at.process y
  at_y = here.shows.each p.at.process y here.there

  shown : progress_of m p.at.process ≡ progress_shown (slice_index_or x.disk.held p.at.process None) at_y.phase y
  shown = at_y.progress

  -- where a completion has come, a command is outstanding
  pub polled_outstanding : (done : Done) (rest : List Done) → y.queue.completed ≡ done ∷ rest → 0 < length c.outstanding
  polled_outstanding done rest first =
      let is : (progress_of m p.at.process).completed ≡ completed_of done ∷ map completed_of rest =
      ap (λ (g : Progress). g.completed) shown ∙ ap (λ (l : List Done). map completed_of l) first in
      let g = progress_of m p.at.process in
      let count : length c.outstanding ≡ length (outstanding g) = ap (λ (l : List ℕ). length l) (outstanding_kept script x m p y c here) in
      let more : length (outstanding g)
      ≡ length ((map (λ (k : Completed). k.piece) (completed_of done ∷ map completed_of rest) ++ pieces_in_hand g.hand) ++ g.submitted) =
      ap (λ (l : List Completed). length ((map (λ (k : Completed). k.piece) l ++ pieces_in_hand g.hand) ++ g.submitted)) is in
      omega (arith, count, more)

  module _ (done : Done) (q : Queues) (d : kernel.Progress) (first : y.queue.completed ≡ done ∷ q.completed)
      (submitted : q.submitted ≡ y.queue.submitted) (in_hand : q.in_hand ≡ y.queue.in_hand)
      (call : d ≡ record c { outstanding = drop 1 c.outstanding }) where
    abbrev polled_parts : Parts T M P
    polled_parts = with_process x p.at.process (record y { queue = q; call = Some d })

    abbrev polled_state : State
    polled_state = with_progress m p.at.process (polled (progress_of m p.at.process))

    polls_there : p.at.process < length m.processes
    polls_there = there_is script x m p.at.process y here.shows here.there

    pub shows_polled : Shows K script polled_parts polled_state
    shows_polled =
        own_step x p.at.process y (record y { queue = q; call = Some d }) here.there script m (polled (progress_of m p.at.process))
        here.shows (polled_at script x m p y c here polls_there done q d first submitted in_hand call)

    pub few_polled : AreFew polled_parts p.at.process
    few_polled =
        let counted = is_counted v m p.at.process p reached here.runs in
        let same = progress_of-set m p.at.process (polled (progress_of m p.at.process)) polls_there in
        few_shown script polled_parts polled_state p.at.process shows_polled
        (record {
          ended = subst (λ (g : Progress). g.ended < 256) (sym same) counted.ended;
          used = subst (λ (g : Progress). g.used < 25000) (sym same) counted.used;
        })

    pub begun_polled : HasBegun polled_parts p.at.process
    begun_polled = begun_now x p.at.process y (record y { queue = q; call = Some d }) here.there refl

    pub took_poll : (old new : Parts T M P) → x.log.events ≡ old.log.events → x.log.turns ≡ old.log.turns →
        EndsTurn polled_parts new p.at.process p.at.process rows.Poll → TookTurn K script old new m p.at.process (Did rows.Poll)
    took_poll old new events turns ends =
        let is : (progress_of m p.at.process).completed ≡ completed_of done ∷ map completed_of q.completed =
        ap (λ (g : Progress). g.completed) shown ∙ ap (λ (l : List Done). map completed_of l) first in
        took_did script old polled_parts new m p.at.process rows.Poll (after_polling m p) []
        (end_step script polled_parts new polled_state p p.before p.at.process rows.Poll shows_polled
        (still_runs script x m p y c here polls_there (polled (progress_of m p.at.process)) refl ∙ here.runs)
        begun_polled (none_later v m p reached here.runs) ends)
        (outcome_for m p.at.process p processors.Polls here.runs (acting_polls _ is processors.Polls refl)) events turns ends.log
