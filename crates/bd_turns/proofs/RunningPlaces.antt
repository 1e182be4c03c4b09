-- What is known of the running call of a process, and what makes an entry the next one of the journal.
use Rattle.std.proofs.Common.{◌≡◌, ◌≢◌, ℕ, ◌<◌, Bool, true, false, not, ◌&&◌, List, [], ◌∷◌, length, Option, Some, refl, sym, ap, ◌∙◌, subst}
use Rattle.std.specs.Prelude.{IfSome}
use Rattle.std.proofs.lemmas.Bool.{false≢true}
use Rattle.std.proofs.lemmas.Option.{slice_get_within}
use Rattle.bd_base.specs.declared.journal.At.{At}
use Rattle.bd_base.specs.declared.script.Call.{Call}
use Rattle.bd_base.specs.declared.script.Call.TheVariants.{Enter, Unlink}
use Rattle.bd_base.specs.declared.script.How.TheVariants as hows
use Rattle.bd_base.specs.declared.volume.Volume.{Volume}
use Rattle.bd_entry.specs.declared.entry.Entry.{Entry}
use Rattle.bd_entry.specs.Actions.{has_begun, is_none_of}
use Rattle.bd_entry.specs.Calls.{Place, at_of, call_at, calls_of, entries_of, is_ended_by, pieces_of_call}
use Rattle.bd_entry.specs.NextEntries.{IsLegalAt, IsReadyPlace, IsRunning, goes_by_name, stays_allowed}
use Rattle.bd_entry.specs.NextEntries as next
use Rattle.bd_entry.specs.Rules.{EntryRule, FitsCall, FitsScript, FitsStore, NextCall, Once, place_in}
use Rattle.bd_entry.specs.RulesOfCalls.{IsFirstOfKind, IsNextCall, IsOfCall}
use Rattle.bd_entry.specs.Store.{work_of}
use Rattle.bd_entry.proofs.CallOrder.{is_finished-called}
use Rattle.bd_entry.proofs.HistoryLaws.{work_is_of_running_call}
use Rattle.bd_entry.proofs.NextActs.{map_from}
use Rattle.bd_entry.proofs.NextReady.{running_calls_are_ready}
use Rattle.bd_turns.proofs.FoundElements.{All-found, slice_get-there}
use Rattle.bd_turns.specs.Added.{IsAdded}
use Rattle.bd_turns.specs.Processors.{running_of}
use Rattle.bd_turns.specs.Reached.{IsReached}
use Rattle.bd_turns.specs.Sound.{AreInTurn, keeps_allowed}
use Rattle.bd_turns.specs.State.{State, outstanding, place_of, progress_of, running, running_at}

-- ---- the running call

-- the place is that of the first call of the process that has not ended, with its entries so far
pub record RunsAt (m : State) (process : ℕ) (p : Place) : Type 0 where
  pub at_is : p.at ≡ running_at m process
  pub called : call_at m.script p.at ≡ Some p.call
  pub before_is : p.before ≡ entries_of p.at m.journal

pub runs_at : (m : State) (process : ℕ) (p : Place) → running m process ≡ Some p → RunsAt m process p
runs_at m process p is =
    let found = map_from (place_of m (running_at m process)) (call_at m.script (running_at m process)) p is in
    subst (RunsAt m process) found.2 (record { at_is = refl; called = found.1; before_is = refl })

-- it is the first call of its process that is not finished in the journal, where it is not
pub next_call : (m : State) (p : Place) → RunsAt m p.at.process p → AreInTurn m → is_ended_by p.call p.before ≡ false →
    IsNextCall m.script m.journal p.at
next_call m p runs turn unfinished =
    let number : p.at.call ≡ (progress_of m p.at.process).ended = ap (λ (at : At). at.call) runs.at_is in
    record {
      in_script = slice_get_within (calls_of m.script p.at.process) p.at.call p.call runs.called;
      unfinished =
          is_finished-called m.script m.journal p.at p.call runs.called ∙ ap (is_ended_by p.call) (sym runs.before_is)
          ∙ unfinished;
      earlier = λ call lt. turn.finished p.at.process call (subst (λ (n : ℕ). call < n) number lt);
    }

-- a list that has an element is not empty
none_of-some : {X : Type 0} (xs : List X) → xs ≢ [] → is_none_of xs ≡ false
none_of-some [] some = absurd (some refl)
none_of-some (x ∷ xs) some = refl

-- a call that has an entry has begun
pub begun_by_entry : (m : State) (p : Place) → p.before ≢ [] → has_begun (running_of m p) ≡ true
begun_by_entry m p some =
    ap (λ (b : Bool). not (b && is_none_of (outstanding (progress_of m p.at.process)))) (none_of-some p.before some)

-- a call that finds its file by its name keeps that it is allowed
by_name-keeps : (call : Call) → goes_by_name call ≡ true → keeps_allowed call ≡ true
by_name-keeps (Enter name mode hows.Plain) by = refl
by_name-keeps (Enter name mode hows.Direct) by = absurd (false≢true by)
by_name-keeps (Unlink name) by = refl
by_name-keeps call by = absurd (false≢true by)

-- a running call is ready for what it does next
pub ready : (v : Volume) (m : State) (p : Place) → IsReached v m → running m p.at.process ≡ Some p →
    is_ended_by p.call p.before ≡ false → IsReadyPlace m.store (running_of m p)
ready v m p reached is unfinished =
    let runs = runs_at m p.at.process p is in
    let calls = reached.sound.calls in
    let commands = calls.commands.of_running p.at.process p is in
    let next_is = next_call m p runs calls.in_turn unfinished in
    let held = outstanding (progress_of m p.at.process) in
    let work : work_of m.store p.at.process ≡ p.before =
    work_is_of_running_call v m.script m.journal m.store p.at reached.history next_is ∙ sym runs.before_is in
    let running_is : IsRunning v m.script m.journal m.store p.call p.at held =
    record {
      history = reached.history;
      called = runs.called;
      next = next_is;
      of_pieces = λ number some.
          let within : number < length (pieces_of_call p.call) =
          All-found (λ piece. piece < length (pieces_of_call p.call)) held number commands.pieces some in
          slice_get-there (pieces_of_call p.call) number within;
      file_stays = λ by some.
          reached.sound.holds_are.allowed p.at.process p is (by_name-keeps p.call by)
          (begun_by_entry m p (λ none. some (work ∙ none)));
    } in
    subst (λ (entries : List Entry). IsReadyPlace m.store (next.running p.call p.at entries held)) work
    (running_calls_are_ready v m.script m.journal m.store p.call p.at held running_is)

-- ---- the next entry

-- an entry that is legal at the place of a running call that is not finished is the next one of the journal
pub legal_is_added : (v : Volume) (m : State) (p : Place) (e : Entry) → IsReached v m → running m p.at.process ≡ Some p →
    is_ended_by p.call p.before ≡ false → IsLegalAt m.store p e → IsAdded v m p e
legal_is_added v m p e reached is unfinished legal =
    let runs = runs_at m p.at.process p is in
    let next_is = next_call m p runs reached.sound.calls.in_turn unfinished in
    let work : work_of m.store p.at.process ≡ p.before =
    work_is_of_running_call v m.script m.journal m.store p.at reached.history next_is ∙ sym runs.before_is in
    let at_is : at_of e ≡ p.at = legal.of_place in
    let called : call_at m.script (at_of e) ≡ Some p.call = ap (call_at m.script) at_is ∙ runs.called in
    let in_journal : p ≡ record { call = p.call; at = at_of e; before = entries_of (at_of e) m.journal } =
    ap (λ (before : List Entry). record { call = p.call; at = p.at; before = before }) runs.before_is
    ∙ ap (λ (at : At). record { call = p.call; at = at; before = entries_of at m.journal }) (sym at_is) in
    let in_store : p ≡ place_in m.store p.call (at_of e) =
    ap (λ (before : List Entry). record { call = p.call; at = p.at; before = before }) (sym work)
    ∙ ap (place_in m.store p.call) (sym at_is) in
    record {
      running_is = is;
      at_is = at_is;
      work_is = work;
      unfinished = unfinished;
      next = record {
        history = reached.history;
        call_is = called;
        fits = fits called in_journal;
        keeps = λ rule. subst (λ (q : Place). FitsStore m.store q e rule) in_store (legal.keeps rule);
      };
    }
  where
    fits : call_at m.script (at_of e) ≡ Some p.call →
        p ≡ record { call = p.call; at = at_of e; before = entries_of (at_of e) m.journal } → (rule : EntryRule) →
        FitsScript m.script m.journal e rule
    fits called place NextCall =
        subst (IsNextCall m.script m.journal) (sym legal.of_place)
        (next_call m p (runs_at m p.at.process p is) reached.sound.calls.in_turn unfinished)
    fits called place FitsCall =
        let Fits : Call → Type 0 =
        λ call. IsOfCall (record { call = call; at = at_of e; before = entries_of (at_of e) m.journal }) e in
        subst (λ (o : Option Call). IfSome o Fits) (sym called) (subst (λ (q : Place). IsOfCall q e) place legal.of_call)
    fits called place Once = subst (λ (q : Place). IsFirstOfKind q.before e) place legal.once
    fits called place rule = tt
