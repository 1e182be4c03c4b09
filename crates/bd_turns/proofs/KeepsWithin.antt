-- Each turn keeps each call within the turns that it may take.
use Rattle.std.proofs.Common.{◌≡◌, ◌≢◌, ℕ, ◌+◌, ◌<◌, ◌≤◌, true, false, not, ◌&&◌, ◌||◌, List, [], ◌∷◌, ◌++◌, length, map, Option, None, Some, refl, sym, ap, ◌∙◌, subst, arith, ⊎_elim}
use Rattle.std.specs.Prelude.{All, drop, slice_get}
use Rattle.std.specs.Option.{option_to_list}
use Rattle.std.specs.List.{list_any}
use Rattle.std.specs.FinMap as fin
use Rattle.std.proofs.lemmas.Bool.{both_ways, cases_Bool, cond-true, false≢true}
use Rattle.std.proofs.lemmas.List.{append-nil}
use Rattle.std.proofs.lemmas.List.Elements.{All-head}
use Rattle.std.proofs.lemmas.Option.{none-some, same_Some}
use Rattle.bd_base.specs.declared.journal.At.{At}
use Rattle.bd_base.specs.declared.key.Key.{Key}
use Rattle.bd_base.specs.declared.script.Call.{Call}
use Rattle.bd_base.specs.declared.script.Call.TheVariants.{Create, Read, Write, Size, RawRead, RawWrite}
use Rattle.bd_base.specs.declared.volume.Volume.{Volume}
use Rattle.bd_entry.specs.declared.entry.Entry.{Entry}
use Rattle.bd_entry.specs.declared.entry.Entry.TheVariants as entries
use Rattle.bd_entry.specs.Actions.{has_begun, is_none_of, keys_to_revoke}
use Rattle.bd_entry.specs.Calls.{Place, has_missed, is_answered, is_end_of, is_made_by, pieces_of_call}
use Rattle.bd_entry.specs.Refusals.{file_of}
use Rattle.bd_entry.specs.Store.{Store, size_in}
use Rattle.bd_entry.proofs.HistoryLaws.{is_call}
use Rattle.bd_tables.specs.declared.state.Right.{Right}
use Rattle.bd_tables.specs.State.{TableState}
use Rattle.bd_tables.specs.State.{Rights as AllRights}
use Rattle.bd_turns.specs.declared.turn.Row.{Row}
use Rattle.bd_turns.specs.declared.turn.Row.TheVariants as rows
use Rattle.bd_turns.specs.Added.{EntriesAreNext, IsAdded, by_engine, by_invalidation, by_processor}
use Rattle.bd_turns.specs.Engines as engines
use Rattle.bd_turns.specs.Engines.{Step, engine_step, invalidation_of}
use Rattle.bd_turns.specs.Processors as processors
use Rattle.bd_turns.specs.Processors.{next_action, running_of}
use Rattle.bd_turns.specs.Reached.{IsReached}
use Rattle.bd_turns.specs.Rest.{AreWithinTurns, is_by, is_on_file, piece_turns, turns_for}
use Rattle.bd_turns.specs.Sound.{is_clear_at, is_revoked, is_told}
use Rattle.bd_turns.specs.State.{Completed, Posted, Progress, State, has_ended, outstanding, pieces_in_hand, progress_of, running}
use Rattle.bd_turns.specs.Turns.{after_adding, after_effect, after_ending, after_polling, after_posting, after_step, after_submitting, after_turn, holds_throughout, posting_place, with_entry_if_any, with_hold}
use Rattle.bd_turns.proofs.ActionsOfCalls.{ahead, empty-unbegun, no_commands, passed-alone, throughout-no_pieces}
use Rattle.bd_turns.proofs.CallsAfterTurns.{GoesOn}
use Rattle.bd_turns.proofs.CallsGoOn.{create_ends, size_ends}
use Rattle.bd_turns.proofs.Cases.{Effective, Leads, acts, adds, changes, ends, polls, posts, stays, steps, submits, turn_leads}
use Rattle.bd_turns.proofs.EffectiveTurns as turned
use Rattle.bd_turns.proofs.EffectiveTurns.{Turned, has_ended-by_end}
use Rattle.bd_turns.proofs.StepsLeave.{step_keeps}
use Rattle.bd_turns.proofs.EntriesOfCalls.{added_made, cleared_by, clears-throughout, needs_hold}
use Rattle.bd_turns.proofs.FileOwn as files
use Rattle.bd_turns.proofs.FileOwn.{OwnFalls, has_pieces, no_pieces_of, revoking_falls, some_pieces}
use Rattle.bd_turns.proofs.CommandsOfSteps.{step_is}
use Rattle.bd_turns.proofs.FoundElements.{find-element}
use Rattle.bd_turns.proofs.Invalidations.{change_moves, end_detaches, posts_unposted}
use Rattle.bd_turns.proofs.KeysToRevoke.{MayRevoke, revocable}
use Rattle.bd_turns.proofs.LegalDetaches.{invalidation_ends, posting}
use Rattle.bd_turns.proofs.OwnRevocations as own
use Rattle.bd_turns.proofs.PieceEntries as kernel
use Rattle.bd_turns.proofs.PieceOwn.{PiecesFall, of_pieces, pieces_fall, polls_fall, step_falls, submits_fall}
use Rattle.bd_turns.proofs.PieceSteps.{polls_some, step_outstanding, submission_outstanding}
use Rattle.bd_turns.proofs.PieceTurns.{after}
use Rattle.bd_turns.proofs.ProcessorTurns.{is_fresh}
use Rattle.bd_turns.proofs.RightsAfterTurns as rights
use Rattle.bd_turns.proofs.RightsLeft.{leaves_adding, leaves_all, leaves_changing, leaves_ending, leaves_posting}
use Rattle.bd_turns.proofs.StepTurns.{steps_fall}
use Rattle.bd_turns.proofs.TurnBounds.{file_call_few, pieces_few}
use Rattle.bd_turns.proofs.WithinAfterTurns.{FallsOn, Takes, kept_within, unbegun-nothing}
use Rattle.bd_turns.proofs.Columns.{TurnsKeepWithin}
use Rattle.bd_turns.proofs.RunningPlaces.{runs_at}
use Rattle.bd_turns.proofs.AddedEntries.{adds_from, processors_detach_nothing}

-- ---- calls that have begun

begun_by : (before : List Entry) (outs : List ℕ) → before ≢ [] → not (is_none_of before && is_none_of outs) ≡ true
begun_by [] outs some = absurd (some refl)
begun_by (e ∷ before) outs some = refl

begun_out : (before : List Entry) (outs : List ℕ) → outs ≢ [] → not (is_none_of before && is_none_of outs) ≡ true
begun_out [] [] some = absurd (some refl)
begun_out [] (x ∷ xs) some = refl
begun_out (e ∷ before) outs some = refl

some_pushed : {X : Type 0} (xs : List X) (x : X) → xs ++ x ∷ [] ≢ []
some_pushed [] x none = let no : x ∷ [] ≡ [] = none in cc
some_pushed (y ∷ xs) x none = let no : y ∷ (xs ++ x ∷ []) ≡ [] = none in cc

module _ (v : Volume) (m next : State) (p : Place) (entry : Option Entry) (g : Progress) (reached : IsReached v m) (within : AreWithinTurns m)
    (t : Turned v m next p entry g) where
  abbrev old : Progress
  old = progress_of m p.at.process

  abbrev added : List Entry
  added = option_to_list entry

  -- a call with pieces
  own_pieces : pieces_of_call p.call ≢ [] → PiecesFall m next p added g old.held → GoesOn next p added g → FallsOn m next p added g
  own_pieces some falls goes = record {
    file = old.held;
    falls =
        subst (λ (n : ℕ). n + 1 ≤ turns_for m p p.call old.held) (sym (of_pieces next (after p added) p.call g.held some))
        (subst (λ (n : ℕ). piece_turns next (after p added) g.held + 1 ≤ n) (sym (of_pieces m p p.call old.held some))
        (pieces_fall m next p added g old.held goes.progress_is falls));
    same = λ begun. refl;
    few = λ fresh.
        subst (λ (n : ℕ). n ≤ 24577) (sym (of_pieces m p p.call old.held some))
        (pieces_few v m reached p t.runs (within.new p.at.process p t.runs fresh).1 (unbegun-nothing p.before (outstanding old) fresh));
  }

  -- a call on a file
  own_file : has_pieces p.call ≡ false → holds_throughout p.call ≡ true → (file : ℕ) → file_of m.store p ≡ Some file → g.held ≡ Some file →
      OwnFalls m next p added (Some file) → GoesOn next p added g → FallsOn m next p added g
  own_file without through file of held falls goes = record {
    file = Some file;
    falls = subst (λ (o : Option ℕ). turns_for next (after p added) p.call o + 1 ≤ turns_for m p p.call (Some file)) (sym held) falls;
    same = λ begun.
        let some : p.before ≢ [] =
        λ empty.
        both_ways (has_begun (running_of m p))
        (empty-unbegun m p empty (no_commands m p reached.sound.calls t.runs (throughout-no_pieces p.call through))) begun in
        let holds = reached.sound.holds_are.begun_holding p.at.process p t.runs through some in
        ap Some (same_Some file holds.0 (sym of ∙ holds.1)) ∙ sym holds.2;
    few = λ fresh. file_call_few v m reached p t.runs file of without (t.going goes.unended).allowed;
  }

-- ---- each kind of turn

module _ (v : Volume) (m : State) (reached : IsReached v m) (within : AreWithinTurns m) (p : Place) (runs : running m p.at.process ≡ Some p) where
  abbrev before_turn : Progress
  before_turn = progress_of m p.at.process

  some_of_call : has_pieces p.call ≡ true → pieces_of_call p.call ≢ []
  some_of_call has =
      some_pieces p.call (is_call m.script p.at p.call reached.sound.calls.limits (runs_at m p.at.process p runs).called) has

  -- a call with commands has pieces
  with_commands : outstanding before_turn ≢ [] → pieces_of_call p.call ≢ []
  with_commands some none = some (no_commands m p reached.sound.calls runs none)

  -- ---- entries of the processor

  adds_takes : (row : Row) (e : Entry) → IsAdded v m p e → next_action m p ≡ Some (processors.Adds row e) →
      Takes v m (after_adding m p row e) p (Some e) (with_hold p.call row (file_of m.store p) before_turn)
  adds_takes row e added acting =
      let next : State = after_adding m p row e in
      let g : Progress = with_hold p.call row (file_of m.store p) before_turn in
      let row_is = rights.row_is m p row e acting in
      let t : Turned v m next p (Some e) g = turned.turned_adds v m reached p runs row e added acting row_is in
      let detaches_not = processors_detach_nothing m p e (adds_from m p row e acting) in
      record {
        turned = t;
        used = refl;
        begun = begun_by (p.before ++ e ∷ []) (outstanding g) (some_pushed p.before e);
        own = λ goes.
            ⊎_elim
            (λ has.
            let some = some_of_call has in
            own_pieces v m next p (Some e) g reached within t some
            (kernel.entries_fall v m next reached p runs row e added acting row_is some goes.unended t.store) goes)
            (λ none.
            let without = no_pieces_of p.call none in
            let goes_on_not : is_end_of p.call e ≡ true → ⊥ =
            λ ends.
            both_ways (has_ended p.call (p.before ++ e ∷ []) g) goes.unended
            (has_ended-by_end p.call p.before e g ends (no_commands m p reached.sound.calls runs without)) in
            let through = throughout_or_ends p.call none e (added_made v m p e added) goes_on_not in
            let file = (t.going goes.unended).through through (some_pushed p.before e) in
            own_file v m next p (Some e) g reached within t none through file.0 file.1 file.2
            (files.entries_fall v m reached p runs row e added acting without detaches_not file.0 file.1 goes.unended) goes)
            (cases_Bool (has_pieces p.call));
        leaves = leaves_adding v m next p reached runs e added detaches_not t.store refl refl;
      }
    where
      -- a call without pieces holds its file throughout, or ends by its first entry
      throughout_or_ends : (call : Call) → has_pieces call ≡ false → (e : Entry) → is_made_by call e ≡ true → (is_end_of call e ≡ true → ⊥) →
          holds_throughout call ≡ true
      throughout_or_ends (Create name perms) none e made not_end = absurd (not_end (create_ends name perms e made))
      throughout_or_ends (Size fd) none e made not_end = absurd (not_end (size_ends fd e made))
      throughout_or_ends (Read fd off len) none e made not_end = absurd (false≢true (sym none))
      throughout_or_ends (Write fd off bytes) none e made not_end = absurd (false≢true (sym none))
      throughout_or_ends (RawRead address range) none e made not_end = absurd (false≢true (sym none))
      throughout_or_ends (RawWrite address lo bytes) none e made not_end = absurd (false≢true (sym none))
      throughout_or_ends call none e made not_end = refl

  -- ---- requests

  -- a call that holds its file throughout has no pieces
  without_pieces : holds_throughout p.call ≡ true → has_pieces p.call ≡ false
  without_pieces through =
      ⊎_elim (λ has. absurd (some_of_call has (throughout-no_pieces p.call through))) (λ none. none) (cases_Bool (has_pieces p.call))

  posts_takes : (key : Key) → next_action m p ≡ Some (processors.Posts key) →
      Takes v m (after_posting m p (record { key = key; by = p.at })) p None (with_hold p.call rows.Post (file_of m.store p) before_turn)
  posts_takes key acting =
      let post : Posted = record { key = key; by = p.at } in
      let next : State = after_posting m p post in
      let g : Progress = with_hold p.call rows.Post (file_of m.store p) before_turn in
      let t : Turned v m next p None g = turned.turned_posts v m reached p runs key acting in
      let unposted = posts_unposted m p key acting in
      let mine = own.own_unposted v m next p reached runs (λ key right. true) (λ key right state. refl) (λ key right is. refl) key unposted in
      let right : Right = mine.0 in
      let may = find-element (MayRevoke m.store p p.call) _ (keys_to_revoke m.store p p.call) key (revocable m.store p.call p.at p.before) unposted in
      let made : is_made_by p.call (entries.Cleared p.at key.process key.fd key.part) ≡ true = may.1.clears in
      let through = clears-throughout p.call p.at key.process key.fd key.part made in
      let passes = (ahead m p (processors.Posts key) acting refl).passes in
      let alone = passed-alone m p reached.sound.calls reached.sound.holds_are.held_once reached.sound.holds_are.begun_holding runs passes through in
      let revoked = reached.sound.holds_are.revoked key right mine.1.there (ap is_revoked mine.2) in
      let holder : revoked.holder ≡ p.at.process = alone right.file revoked.holder mine.1.of_file revoked.held in
      let place : revoked.place ≡ p = same_Some revoked.place p (sym revoked.running_is ∙ ap (running m) holder ∙ runs) in
      let some : p.before ≢ [] = some_cleared key p (ap (λ (x : Place). list_any (is_clear_at key) x.before) (sym place) ∙ revoked.cleared) in
      let held : g.held ≡ Some right.file = cond-true (holds_throughout p.call) (file_of m.store p) None through ∙ mine.1.of_file in
      record {
        turned = t;
        used = refl;
        begun = begun_by (p.before ++ []) (outstanding g) (λ none. some (sym (append-nil p.before) ∙ none));
        own = λ goes.
            own_file v m next p None g reached within t (without_pieces through) through right.file mine.1.of_file held
            (revoking_falls m next p [] right.file p.at key.process key.fd key.part made
            (own.posting_falls v m next p reached runs (is_on_file (Some right.file)) (λ key right state. refl)
            (own.on_file-passes m p right.file mine.1.of_file) key acting (λ other. refl) refl)
            (λ number call.
            own.posting_falls v m next p reached runs (is_by p.at.process number) (λ key right state. refl) (own.by-passes m p number call) key acting
            (λ other. refl) refl)
            refl)
            goes;
        leaves = leaves_posting m next p post (λ key. refl) refl;
      }
    where
      some_cleared : (key : Key) (x : Place) → list_any (is_clear_at key) x.before ≡ true → x.before ≢ []
      some_cleared key x some none = both_ways (list_any (is_clear_at key) x.before) (ap (list_any (is_clear_at key)) none) some

  -- ---- commands

  submits_takes : (piece : ℕ) → next_action m p ≡ Some (processors.Submits piece) →
      Takes v m (after_submitting m p piece) p None (record before_turn { submitted = before_turn.submitted ++ piece ∷ [] })
  submits_takes piece acting =
      let next : State = after_submitting m p piece in
      let g : Progress = record before_turn { submitted = before_turn.submitted ++ piece ∷ [] } in
      let t : Turned v m next p None g = turned.turned_submits v m reached p runs piece acting in
      let facts = is_fresh m p piece acting in
      let some : pieces_of_call p.call ≢ [] = some_within (pieces_of_call p.call) piece facts.within in
      record {
        turned = t;
        used = refl;
        begun = begun_out (p.before ++ []) (outstanding g)
            (λ none. some_pushed (outstanding before_turn) piece (sym (submission_outstanding before_turn piece) ∙ none));
        own = λ goes. own_pieces v m next p None g reached within t some (submits_fall v m next reached p runs piece acting refl) goes;
        leaves = leaves_all m next p None (λ key. refl) refl (λ at owner fd part is. none-some (entries.Detached at owner fd part) is);
      }
    where
      some_within : {X : Type 0} (xs : List X) (n : ℕ) → n < length xs → xs ≢ []
      some_within xs n within none = let empty : length xs ≡ 0 = ap (λ (l : List _). length l) none in omega arith

  polls_takes : next_action m p ≡ Some processors.Polls →
      Takes v m (after_polling m p) p None (record before_turn { completed = drop 1 before_turn.completed })
  polls_takes acting =
      let next : State = after_polling m p in
      let g : Progress = record before_turn { completed = drop 1 before_turn.completed } in
      let t : Turned v m next p None g = turned.turned_polls v m reached p runs acting in
      let told = told_of_one before_turn.completed refl (polls_some m p acting) (reached.sound.calls.commands.of_running p.at.process p runs).completed in
      record {
        turned = t;
        used = refl;
        begun = begun_by (p.before ++ []) (outstanding g) (λ none. told.1 (sym (append-nil p.before) ∙ none));
        own = λ goes.
            own_pieces v m next p None g reached within t (with_commands told.0) (polls_fall v m next reached p runs acting refl) goes;
        leaves = leaves_all m next p None (λ key. refl) refl (λ at owner fd part is. none-some (entries.Detached at owner fd part) is);
      }
    where
      told_some : (piece : ℕ) (before : List Entry) → (is_answered piece before || has_missed piece before) ≡ true → before ≢ []
      told_some piece [] told none = false≢true told
      told_some piece (e ∷ before) told none = let no : e ∷ before ≡ [] = none in cc

      told_of_one : (done : List Completed) → (progress_of m p.at.process).completed ≡ done → is_none_of done ≡ false →
          All (λ (c : Completed). (is_told p c.piece ≡ true) × (c.missed ≡ has_missed c.piece p.before)) done →
          (outstanding (progress_of m p.at.process) ≢ []) × (p.before ≢ [])
      told_of_one [] is some all = absurd (false≢true (sym some))
      told_of_one (c ∷ rest) is some all =
          let told = All-head (λ (c : Completed). (is_told p c.piece ≡ true) × (c.missed ≡ has_missed c.piece p.before)) c rest all in
          let g : Progress = progress_of m p.at.process in
          let list : outstanding g ≡ c.piece ∷ (map (λ (c : Completed). c.piece) rest ++ pieces_in_hand g.hand ++ g.submitted) =
          ap (λ (l : List Completed). map (λ (c : Completed). c.piece) l ++ pieces_in_hand g.hand ++ g.submitted) is in (
            λ none.
                let no : c.piece ∷ (map (λ (c : Completed). c.piece) rest ++ pieces_in_hand g.hand ++ g.submitted) ≡ [] = sym list ∙ none in
                cc,
            told_some c.piece p.before told.0,
          )

  steps_takes : (step : Step) → ((e : Entry) → step.entry ≡ Some e → IsAdded v m p e) → engine_step m p ≡ Some step →
      Takes v m (after_step m p step) p step.entry step.progress
  steps_takes step added stepping =
      let next : State = after_step m p step in
      let t : Turned v m next p step.entry step.progress = turned.turned_steps v m reached p runs step added stepping in
      let keeps = step_keeps m p step stepping in
      let falls = steps_fall m p step stepping in
      let outs : outstanding step.progress ≡ outstanding before_turn = step_outstanding p before_turn step (step_is m p step stepping).does in
      record {
        turned = t;
        used = falls.used;
        begun = begun_out (p.before ++ option_to_list step.entry) (outstanding step.progress) (λ none. keeps.1 (sym outs ∙ none));
        own = λ goes.
            own_pieces v m next p step.entry step.progress reached within t (with_commands keeps.1)
            (step_falls v m next reached p runs step stepping t.store) goes;
        leaves =
            leaves_all m next p step.entry (λ key. ap (λ (x : AllRights). fin.get x key) keeps.0.rights) (same_posted step.entry)
            (λ at owner fd part is. false≢true (keeps.0.device (entries.Detached at owner fd part) is));
      }
    where
      same_posted : (o : Option Entry) → (with_entry_if_any m p o).posted ≡ m.posted
      same_posted None = refl
      same_posted (Some e) = refl

  -- ---- the invalidation engine

  -- what is known of the call that posted the request at the front
  record Revoking : Type 0 where
    made : (at : At) × (owner : ℕ) × (fd : ℕ) × (part : ℕ) × (is_made_by p.call (entries.Cleared at owner fd part) ≡ true)
    through : holds_throughout p.call ≡ true
    file : ℕ
    of : file_of m.store p ≡ Some file
    held : before_turn.held ≡ Some file

  revoking : posting_place m ≡ Some p → p.before ≢ [] → Revoking
  revoking place some =
      let by = posting v m p reached place in
      let clears = cleared_by v m p by.post.key reached.history runs by.cleared in
      let key : Key = by.post.key in
      let through = clears-throughout p.call clears.at key.process key.fd key.part clears.made in
      let holds = reached.sound.holds_are.begun_holding p.at.process p runs through some in
      record {
        made = (clears.at, key.process, key.fd, key.part, clears.made);
        through = through;
        file = holds.0;
        of = holds.1;
        held = holds.2;
      }

  changes_takes : (row : Row) (tables : TableState) → posting_place m ≡ Some p → invalidation_of m.tables m.posted ≡ Some (engines.Changes row tables) →
      p.before ≢ [] → Takes v m (after_effect (record m { tables = tables }) p) p None before_turn
  changes_takes row tables place acting some =
      let next : State = after_effect (record m { tables = tables }) p in
      let t : Turned v m next p None before_turn = turned.turned_changes v m reached p runs tables some in
      let rev = revoking place some in
      record {
        turned = t;
        used = refl;
        begun = begun_by (p.before ++ []) (outstanding before_turn) (λ none. some (sym (append-nil p.before) ∙ none));
        own = λ goes.
            own_file v m next p None before_turn reached within t (without_pieces rev.through) rev.through rev.file rev.of rev.held
            (revoking_falls m next p [] rev.file rev.made.0 rev.made.1 rev.made.2 rev.made.3 rev.made.4
            (own.changing_falls v m next p reached runs (is_on_file (Some rev.file)) (λ key right state. refl) (own.on_file-passes m p rev.file rev.of) row
            tables place acting refl refl)
            (λ number call.
            own.changing_falls v m next p reached runs (is_by p.at.process number) (λ key right state. refl) (own.by-passes m p number call) row tables place
            acting refl refl)
            refl)
            goes;
        leaves = leaves_changing v m next p reached runs row tables place acting refl refl;
      }

  ends_takes : (e : Entry) (tables : TableState) → posting_place m ≡ Some p → invalidation_of m.tables m.posted ≡ Some (engines.Ends e tables) →
      p.before ≢ [] → IsAdded v m p e →
      ((post : Posted) → slice_get m.posted 0 ≡ Some post → e ≡ entries.Detached post.by post.key.process post.key.fd post.key.part) →
      Takes v m (after_ending m p e tables) p (Some e) before_turn
  ends_takes e tables place acting some added entry_is =
      let next : State = after_ending m p e tables in
      let by = posting v m p reached place in
      let is : e ≡ entries.Detached by.post.by by.post.key.process by.post.key.fd by.post.key.part = entry_is by.post by.first in
      let t : Turned v m next p (Some e) before_turn =
      turned.turned_ends v m reached p runs e tables some added (ap needs_hold is) in
      let rev = revoking place some in
      let size : size_in next.store rev.file ≡ size_in m.store rev.file =
      ap (λ (s : Store). size_in s rev.file) t.store ∙ files.kept_size m.store p.call e rev.file (ap files.keeps_files is) in
      record {
        turned = t;
        used = refl;
        begun = begun_by (p.before ++ e ∷ []) (outstanding before_turn) (some_pushed p.before e);
        own = λ goes.
            own_file v m next p (Some e) before_turn reached within t (without_pieces rev.through) rev.through rev.file rev.of rev.held
            (revoking_falls m next p (e ∷ []) rev.file rev.made.0 rev.made.1 rev.made.2 rev.made.3 rev.made.4
            (own.ending_falls v m next p reached runs (is_on_file (Some rev.file)) (λ key right state. refl) (own.on_file-passes m p rev.file rev.of) e tables
            place acting refl refl)
            (λ number call.
            own.ending_falls v m next p reached runs (is_by p.at.process number) (λ key right state. refl) (own.by-passes m p number call) e tables place
            acting refl refl)
            size)
            goes;
        leaves =
            leaves_ending v m next p reached runs e tables place acting refl refl
            (λ at. entry_is at.post (ap (λ (l : List Posted). slice_get l 0) at.list));
      }

-- ---- all turns

effective_within : (v : Volume) (m : State) → IsReached v m → EntriesAreNext v m → AreWithinTurns m → (next : State) → Effective m next → AreWithinTurns next
effective_within v m reached legal within next (adds p row e runs acting) =
    kept_within v m (after_adding m p row e) p (Some e) (with_hold p.call row (file_of m.store p) (progress_of m p.at.process)) reached within
    (adds_takes v m reached within p runs row e (legal p e (by_processor row runs acting)) acting)
effective_within v m reached legal within next (posts p key runs acting) =
    kept_within v m (after_posting m p (record { key = key; by = p.at })) p None
    (with_hold p.call rows.Post (file_of m.store p) (progress_of m p.at.process)) reached within (posts_takes v m reached within p runs key acting)
effective_within v m reached legal within next (submits p piece runs acting) =
    let old : Progress = progress_of m p.at.process in
    kept_within v m (after_submitting m p piece) p None (record old { submitted = old.submitted ++ piece ∷ [] }) reached within
    (submits_takes v m reached within p runs piece acting)
effective_within v m reached legal within next (polls p runs acting) =
    let old : Progress = progress_of m p.at.process in
    kept_within v m (after_polling m p) p None (record old { completed = drop 1 old.completed }) reached within
    (polls_takes v m reached within p runs acting)
effective_within v m reached legal within next (steps p step runs stepping) =
    kept_within v m (after_step m p step) p step.entry step.progress reached within
    (steps_takes v m reached within p runs step (λ e is. legal p e (by_engine step runs stepping is)) stepping)
effective_within v m reached legal within next (changes p row tables place acting) =
    let after_it : State = after_effect (record m { tables = tables }) p in
    let moved = change_moves m after_it p row tables reached.sound.holds_are.posted place acting refl refl in
    kept_within v m after_it p None (progress_of m p.at.process) reached within (changes_takes v m reached within p moved.1 row tables place acting moved.0)
effective_within v m reached legal within next (ends p e tables place acting) =
    let after_it : State = after_ending m p e tables in
    let detached = end_detaches m after_it p e tables reached.sound.holds_are.posted place acting refl refl in
    kept_within v m after_it p (Some e) (progress_of m p.at.process) reached within
    (ends_takes v m reached within p detached.1 e tables place acting detached.0 (legal p e (by_invalidation tables place acting))
    (λ post first. sym (invalidation_ends m.tables tables m.posted post e first acting).entry))

-- each turn of any actor keeps the calls within the turns that they may take
pub within_kept : TurnsKeepWithin
within_kept v m actor reached legal is = by (after_turn m actor) (turn_leads m actor)
  where
    by : (next : State) → Leads m next → AreWithinTurns next
    by next (stays same) = subst AreWithinTurns (sym same) reached.within
    by next (acts effect) = effective_within v m reached legal reached.within next effect
