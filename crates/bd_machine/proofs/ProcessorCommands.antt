-- A processor submits the command of a piece, or takes a completion.
use Rattle.std.proofs.Common.{◌≡◌, ℕ, ◌+◌, ◌<◌, ◌≤◌, List, [], ◌∷◌, ◌++◌, length, map, drop, Option, None, Some, refl, sym, ap, ◌∙◌, subst, arith, append_assoc, get_or}
use Rattle.std.specs.Prelude.{slice_index_or, nat_eq, All}
use Rattle.std.specs.List.{list_any}
use Rattle.std.proofs.lemmas.List.{length-append, map-append}
use Rattle.std.proofs.lemmas.List.Elements.{All-push, All-weaker}
use Rattle.std.proofs.lemmas.Option.{none-some, same_Some, slice_get-get_or}
use Rattle.bd_base.specs.declared.script.Call.{Call}
use Rattle.bd_base.specs.declared.script.Script.{Script}
use Rattle.bd_base.specs.declared.volume.Volume.{Volume}
use Rattle.bd_base.specs.Pieces.{Piece}
use Rattle.bd_base.specs.Scripts.{IsCall}
use Rattle.bd_entry.specs.Calls.{Place, pieces_of_call}
use Rattle.bd_entry.proofs.HistoryLaws.{is_call}
use Rattle.bd_entry.proofs.RangesOfPieces.{piece_of_call-is}
use Rattle.bd_kernel.specs.Turns as kernel
use Rattle.bd_machine.specs.declared.parts.Parts.{Parts}
use Rattle.bd_machine.specs.declared.process.Process.{Process}
use Rattle.bd_machine.specs.Shows.{IsCallAt, IsCallKept, IsCommandOf, IsProcessAt, Shows, completed_of, pieces_of_commands, progress_shown, taken_shown}
use Rattle.bd_machine.specs.Turns.{process_in}
use Rattle.bd_machine.proofs.ProcessorQueues.{at_most_five, none_in_queue, queue_count}
use Rattle.bd_machine.proofs.ProcessorSteps.{running_kept}
use Rattle.bd_machine.proofs.ShowingKept.{engine_of_same}
use Rattle.bd_queue_pair.specs.declared.command.Command.{Command}
use Rattle.bd_queue_pair.specs.declared.command.Done.{Done}
use Rattle.bd_queue_pair.specs.Queues as queues
use Rattle.bd_queue_pair.specs.Queues.{Queues, outstanding_of}
use Rattle.bd_turns.specs.Processors as processors
use Rattle.bd_turns.specs.Processors.{next_action}
use Rattle.bd_turns.specs.Reached.{IsReached}
use Rattle.bd_turns.specs.Sound.{AreCommands}
use Rattle.bd_turns.specs.State.{Completed, Progress, State, outstanding, pieces_in_hand, progress_of, running, with_progress}
use Rattle.bd_turns.proofs.CommandSteps.{polled, submitted_commands, with_submitted}
use Rattle.bd_turns.proofs.DoneTurns.{progress_of-set}
use Rattle.bd_turns.proofs.ProcessorTurns.{is_fresh}
use Rattle.bd_turns.proofs.RunningPlaces.{runs_at}
use Rattle.bd_tables.specs.declared.sides.Tables as sides

-- a call has at most five pieces
piece_below : (call : Call) (number : ℕ) → IsCall call → number < length (pieces_of_call call) → number < 5
piece_below call number within below =
    let none : Piece = record { index = 0; range = record { lo = 0; hi = 0 } } in
    (piece_of_call-is call number (get_or (pieces_of_call call) number none) within
    (slice_get-get_or (pieces_of_call call) number none below)).number_is

-- ---- the process that runs a call

-- the process whose call runs at this place, and what is kept of it
pub record RunsHere {T M P : Type 0} (K : sides.Ghosts T P) (script : Script) (x : Parts T M P) (m : State) (p : Place) (y : Process P)
    (c : kernel.Progress) : Type 0 where
  pub shows : Shows K script x m
  pub runs : running m p.at.process ≡ Some p
  pub there : process_in x p.at.process ≡ Some y
  pub call_is : y.call ≡ Some c

module _ {T M P : Type 0} {K : sides.Ghosts T P} (script : Script) (x : Parts T M P) (m : State) (p : Place) (y : Process P) (c : kernel.Progress)
    (here : RunsHere K script x m p y c) where
  abbrev process : ℕ
  process = p.at.process

  abbrev held : Option ℕ
  held = slice_index_or x.disk.held process None

  pub is_at : IsProcessAt K m held x.tables process y
  is_at = here.shows.each process y here.there

  pub kept : IsCallKept m p c
  kept = subst (IsCallAt m p) here.call_is (is_at.call p here.runs)

  -- what is kept of it counts its commands
  pub outstanding_kept : c.outstanding ≡ outstanding (progress_of m process)
  outstanding_kept = kept.outstanding

  -- ---- another progress of the process

  -- the process with another queue and other commands of its call is where this progress has it
  module _ (within : process < length m.processes) (progress : Progress) (ended : progress.ended ≡ (progress_of m process).ended) where
    abbrev n : State
    n = with_progress m process progress

    progress_is : progress_of n process ≡ progress
    progress_is = progress_of-set m process progress within

    pub still_runs : running n process ≡ running m process
    still_runs = running_kept m n process refl refl (ap (λ (g : Progress). g.ended) progress_is ∙ ended)

    same_place : (q : Place) → running n process ≡ Some q → p ≡ q
    same_place q is = same_Some p q (sym here.runs ∙ sym still_runs ∙ is)

    pub moved_at : (q : Queues) (d : kernel.Progress) (out : List ℕ) → progress ≡ progress_shown held is_at.phase (record y { queue = q; call = Some d }) →
        d ≡ record c { outstanding = out } → out ≡ outstanding progress → All (IsCommandOf p) q.submitted → q.in_hand ≡ y.queue.in_hand →
        IsProcessAt K n held x.tables process (record y { queue = q; call = Some d })
    moved_at q d out shown same out_is commands in_hand = record {
      phase = is_at.phase;
      progress = progress_is ∙ shown;
      call = λ r is. subst (λ (r : Place). IsCallAt n r (Some d)) (same_place r is) call_kept;
      none = λ none. absurd (none-some p (sym none ∙ still_runs ∙ here.runs));
      submitted = λ r is. subst (λ (r : Place). All (IsCommandOf r) q.submitted) (same_place r is) commands;
      taken = in_hand ∙ is_at.taken;
      hand = λ r h is there. is_at.hand r h (sym still_runs ∙ is) there;
      engine = engine_of_same {K = K} x.tables process is_at.phase y (record y { queue = q; call = Some d }) refl refl refl is_at.engine;
    }
      where
        call_kept : IsCallKept n p d
        call_kept = record {
          call = ap (λ (k : kernel.Progress). k.call) same ∙ kept.call;
          process = ap (λ (k : kernel.Progress). k.process) same ∙ kept.process;
          uid = ap (λ (k : kernel.Progress). k.uid) same ∙ kept.uid;
          entries = subst (λ (k : kernel.Progress). kernel.AreEntriesOf k p.before) (sym same)
              (record { marks = kept.entries.marks; finished = kept.entries.finished });
          outstanding = ap (λ (k : kernel.Progress). k.outstanding) same ∙ out_is ∙ ap (λ (g : Progress). outstanding g) (sym progress_is);
        }

  -- ---- a command is submitted

  module _ (within : process < length m.processes) (piece : ℕ) (command : Command) (q : Queues) (d : kernel.Progress) where
    pub submitted_at : q ≡ record y.queue { submitted = y.queue.submitted ++ command ∷ [] } →
        d ≡ record c { outstanding = c.outstanding ++ piece ∷ [] } → IsCommandOf p command → command.piece ≡ piece →
        IsProcessAt K (with_progress m process (with_submitted (progress_of m process) piece)) held x.tables process
        (record y { queue = q; call = Some d })
    submitted_at queue call of is =
        let g = progress_of m process in
        let phase = is_at.phase in
        let base : Progress = progress_shown held phase (record y { call = Some d }) in
        let taken : List ℕ = taken_shown phase y.hand in
        let mapped : pieces_of_commands y.queue.submitted ++ piece ∷ [] ≡ pieces_of_commands (y.queue.submitted ++ command ∷ []) =
        ap (λ (n : ℕ). pieces_of_commands y.queue.submitted ++ n ∷ []) (sym is)
        ∙ sym (map-append (λ (k : Command). k.piece) y.queue.submitted (command ∷ [])) in
        let pieces : (taken ++ pieces_of_commands y.queue.submitted) ++ piece ∷ []
        ≡ taken ++ pieces_of_commands (y.queue.submitted ++ command ∷ []) =
        append_assoc taken (pieces_of_commands y.queue.submitted) (piece ∷ []) ∙ ap (λ (l : List ℕ). taken ++ l) mapped in
        let shown : with_submitted g piece ≡ progress_shown held phase (record y { queue = q; call = Some d }) =
        ap (λ (g : Progress). with_submitted g piece) is_at.progress
        ∙ ap (λ (l : List ℕ). record base { submitted = l }) pieces
        ∙ ap (λ (k : Queues). progress_shown held phase (record y { queue = k; call = Some d })) (sym queue) in
        let front : List ℕ = map (λ (k : Completed). k.piece) g.completed ++ pieces_in_hand g.hand in
        moved_at within (with_submitted g piece) refl q d (c.outstanding ++ piece ∷ []) shown call
        (ap (λ (l : List ℕ). l ++ piece ∷ []) outstanding_kept ∙ append_assoc front g.submitted (piece ∷ []))
        (subst (λ (k : Queues). All (IsCommandOf p) k.submitted) (sym queue)
        (All-push (IsCommandOf p) y.queue.submitted command (is_at.submitted p here.runs) of))
        (ap (λ (k : Queues). k.in_hand) queue)

  -- ---- a completion is taken

  module _ (within : process < length m.processes) (done : Done) (q : Queues) (d : kernel.Progress) where
    drops : (g : Progress) (w : Completed) (ws : List Completed) → g.completed ≡ w ∷ ws → drop 1 (outstanding g) ≡ outstanding (polled g)
    drops g w ws is =
        ap (λ (l : List Completed). drop 1 ((map (λ (k : Completed). k.piece) l ++ pieces_in_hand g.hand) ++ g.submitted)) is
        ∙ sym (ap (λ (l : List Completed). (map (λ (k : Completed). k.piece) (drop 1 l) ++ pieces_in_hand g.hand) ++ g.submitted) is)

    pub polled_at : y.queue.completed ≡ done ∷ q.completed → q.submitted ≡ y.queue.submitted → q.in_hand ≡ y.queue.in_hand →
        d ≡ record c { outstanding = drop 1 c.outstanding } →
        IsProcessAt K (with_progress m process (polled (progress_of m process))) held x.tables process (record y { queue = q; call = Some d })
    polled_at first submitted in_hand call =
        let g = progress_of m process in
        let phase = is_at.phase in
        let base : Progress = progress_shown held phase (record y { call = Some d }) in
        let taken : List ℕ = taken_shown phase y.hand in
        let shown : polled g ≡ progress_shown held phase (record y { queue = q; call = Some d }) =
        ap (λ (g : Progress). polled g) is_at.progress
        ∙ ap (λ (l : List Done). record base { completed = drop 1 (map completed_of l) }) first
        ∙ ap (λ (l : List Command). record base {
          submitted = taken ++ pieces_of_commands l;
          completed = map completed_of q.completed;
        }) (sym submitted) in
        let is : g.completed ≡ completed_of done ∷ map completed_of q.completed =
        ap (λ (g : Progress). g.completed) is_at.progress ∙ ap (λ (l : List Done). map completed_of l) first in
        moved_at within (polled g) refl q d (drop 1 c.outstanding) shown call
        (ap (λ (l : List ℕ). drop 1 l) outstanding_kept ∙ drops g (completed_of done) (map completed_of q.completed) is)
        (subst (λ (l : List Command). All (IsCommandOf p) l) (sym submitted) (is_at.submitted p here.runs))
        in_hand

  -- ---- there is room for one command more

  module _ (v : Volume) (reached : IsReached v m) where
    few : (progress : Progress) → AreCommands p progress → length (outstanding progress) ≤ 5
    few progress commands =
        let within = is_call m.script p.at p.call reached.sound.calls.limits (runs_at m process p here.runs).called in
        at_most_five (outstanding progress)
        (All-weaker (λ piece. piece < length (pieces_of_call p.call)) (λ piece. piece < 5) (λ piece below. piece_below p.call piece within below)
        (outstanding progress) commands.pieces)
        commands.differ

    -- where the command of a piece is submitted next
    pub record HasRoom (piece : ℕ) : Type 0 where
      pub kept : length c.outstanding < 5
      pub queue : queues.outstanding y.queue < 8
      pub fresh : outstanding_of y.queue piece ≡ 0

    pub has_room : (piece : ℕ) → next_action m p ≡ Some (processors.Submits piece) → HasRoom piece
    has_room piece acting =
        let g = progress_of m process in
        let fresh = is_fresh m p piece acting in
        let commands = submitted_commands p g piece (reached.sound.calls.commands.of_running process p here.runs) fresh.within fresh.untold fresh.fresh in
        let front : List ℕ = map (λ (k : Completed). k.piece) g.completed ++ pieces_in_hand g.hand in
        let most = few (with_submitted g piece) commands in
        let more : length (outstanding (with_submitted g piece)) ≡ length (outstanding g) + 1 =
        sym (ap (λ (l : List ℕ). length l) (append_assoc front g.submitted (piece ∷ []))) ∙ length-append (outstanding g) (piece ∷ []) in
        let shown : length (outstanding g) ≡ length (outstanding (progress_shown held is_at.phase y)) = ap
        (λ (g : Progress). length (outstanding g)) is_at.progress in
        let counted = queue_count y held is_at.phase is_at.taken in
        let mine : length c.outstanding ≡ length (outstanding g) = ap (λ (l : List ℕ). length l) outstanding_kept in
        record {
          kept = omega (arith, most, more, mine);
          queue = omega (arith, most, more, shown, counted);
          fresh =
              none_in_queue y held is_at.phase piece is_at.taken
              (ap (λ (g : Progress). list_any (nat_eq piece) (outstanding g)) (sym is_at.progress) ∙ fresh.fresh);
        }
