-- What a turn leaves of the calls: they come one after the other, and none runs on that has ended.
use Rattle.std.proofs.Common.{◌≡◌, ℕ, ◌+◌, ◌<◌, ◌≤◌, Bool, true, false, ◌&&◌, cond, List, [], ◌∷◌, ◌++◌, length, Option, None, Some, refl, sym, ap, ◌∙◌, subst, arith, ⊎_elim}
use Rattle.std.specs.Option.{option_to_list}
use Rattle.std.specs.List.{list_any}
use Rattle.std.proofs.lemmas.Bool.{and_left, and_parts, both_ways, cases_Bool, cases_eq, cond-false, cond-true, false_from_ne_true, false≢true, or_from}
use Rattle.std.proofs.lemmas.List.{length-set}
use Rattle.std.proofs.lemmas.List.Folds.{list_any-append}
use Rattle.std.proofs.lemmas.Option.{slice_get_within}
use Rattle.bd_base.specs.declared.journal.At.{At}
use Rattle.bd_base.specs.declared.script.Call.{Call}
use Rattle.bd_base.specs.declared.script.Script.{Script}
use Rattle.bd_base.specs.declared.volume.Volume.{Volume}
use Rattle.bd_entry.specs.declared.entry.Entry.{Entry}
use Rattle.bd_entry.specs.Actions.{is_none_of}
use Rattle.bd_entry.specs.Calls.{Place, calls_of, entries_of, is_ended_by, is_finished, same_call}
use Rattle.bd_entry.specs.Promises.{is_whole_refusal}
use Rattle.bd_entry.specs.Rules.{NextCall}
use Rattle.bd_entry.proofs.CallOrder.{is_finished-called, numbered, same_at, stays_finished}
use Rattle.bd_entry.proofs.HistoryLaws.{is_call}
use Rattle.bd_entry.proofs.NextReady.{ended_by_end, whole_ends}
use Rattle.bd_turns.proofs.DoneTurns.{IsDone, RunsAfter, grown, other_entries, other_progress, own_entries, own_progress, runs_after}
use Rattle.bd_turns.proofs.RunningPlaces.{RunsAt, runs_at}
use Rattle.bd_turns.proofs.StayingDescriptors.{none_unended}
use Rattle.bd_turns.specs.Added.{IsAdded}
use Rattle.bd_turns.specs.Sound.{AreCallsSound, AreInTurn, AreUnended, AreUnrefused, HasProcesses}
use Rattle.bd_turns.specs.State.{Progress, State, has_ended, outstanding, progress_of}
use Rattle.bd_turns.specs.Turns.{after_effect, with_call_ended, with_entry_if_any, with_turn_used}

-- a list that is none has no element
none_of-is : {X : Type 0} (xs : List X) → is_none_of xs ≡ true → xs ≡ []
none_of-is [] none = refl
none_of-is (x ∷ xs) none = absurd (false≢true none)

-- what it means that a call has ended
pub ended_parts : (call : Call) (entries : List Entry) (progress : Progress) → has_ended call entries progress ≡ true →
    (is_ended_by call entries ≡ true) × (outstanding progress ≡ [])
ended_parts call entries progress ended =
    let parts = and_parts (is_ended_by call entries) (is_none_of (outstanding progress)) ended in
    (parts.0, none_of-is (outstanding progress) parts.1)

-- a call that has not ended, of which nothing is outstanding, is not ended by its entries
pub unended_by_entries : (call : Call) (entries : List Entry) (progress : Progress) → has_ended call entries progress ≡ false →
    outstanding progress ≡ [] → is_ended_by call entries ≡ false
unended_by_entries call entries progress unended none =
    false_from_ne_true (is_ended_by call entries)
    (λ ends.
    both_ways (has_ended call entries progress) unended
    (ap (λ (b : Bool). b && is_none_of (outstanding progress)) ends ∙ ap (λ (pieces : List ℕ). is_none_of pieces) none))

module _ (v : Volume) (m done : State) (p : Place) (o : Option Entry) (progress : Progress) (sound : AreCallsSound m)
    (is : IsDone v m done p o progress) where
  abbrev process : ℕ
  process = p.at.process

  abbrev next : State
  next = after_effect done p

  abbrev after : Place
  after = grown p o

  runs : RunsAt m process p
  runs = runs_at m process p is.running_is

  -- ---- how many calls have ended

  -- the call has ended, or goes on
  ended_count : (has_ended p.call after.before progress ≡ false → (progress_of next process).ended ≡ (progress_of m process).ended)
      × (has_ended p.call after.before progress ≡ true → (progress_of next process).ended ≡ (progress_of m process).ended + 1)
  ended_count =
      let own = own_progress v m done p o progress sound is in
      let ends = has_ended p.call after.before progress in (
        λ unended.
            ap (λ (x : Progress). x.ended) (own ∙ cond-false ends (with_call_ended progress) (with_turn_used progress) unended) ∙ is.ended,
        λ ended.
            ap (λ (x : Progress). x.ended) (own ∙ cond-true ends (with_call_ended progress) (with_turn_used progress) ended)
            ∙ ap (λ (n : ℕ). n + 1) is.ended,
      )

  -- no fewer calls have ended than before
  ended_grows : (other : ℕ) → (progress_of m other).ended ≤ (progress_of next other).ended
  ended_grows other =
      ⊎_elim {C = (progress_of m other).ended ≤ (progress_of next other).ended}
      (λ same.
      subst (λ (n : ℕ). (progress_of m n).ended ≤ (progress_of next n).ended) (sym same)
      (⊎_elim {C = (progress_of m process).ended ≤ (progress_of next process).ended}
      (λ ended. omega (ended_count.1 ended, arith))
      (λ unended. omega (ended_count.0 unended, arith))
      (cases_Bool (has_ended p.call after.before progress))))
      (λ differ. omega (ap (λ (x : Progress). x.ended) (other_progress v m done p o progress sound is other differ), arith))
      (cases_eq other process)

  -- ---- processes

  pub processes_kept : HasProcesses next
  processes_kept =
      let count = ap (λ (s : Script). length s.processes) is.script in
      record {
        progress =
            length-set done.processes process
            (cond (has_ended p.call (entries_of p.at done.journal) (progress_of done process))
            (with_call_ended (progress_of done process)) (with_turn_used (progress_of done process)))
            ∙ is.count ∙ sound.processes.progress ∙ sym count;
        walks = is.walks ∙ sound.processes.walks ∙ sym count;
        ended = λ other. subst (λ (s : Script). (progress_of next other).ended ≤ length (calls_of s other)) (sym is.script) (most other);
      }
    where
      most_own : (progress_of next process).ended ≤ length (calls_of m.script process)
      most_own =
          let number : p.at.call ≡ (progress_of m process).ended = ap (λ (at : At). at.call) runs.at_is in
          let within : p.at.call < length (calls_of m.script process) =
          slice_get_within (calls_of m.script process) p.at.call p.call runs.called in
          ⊎_elim {C = (progress_of next process).ended ≤ length (calls_of m.script process)}
          (λ ended. omega (ended_count.1 ended, number, within, arith))
          (λ unended. omega (ended_count.0 unended, number, within, arith))
          (cases_Bool (has_ended p.call after.before progress))

      most : (other : ℕ) → (progress_of next other).ended ≤ length (calls_of m.script other)
      most other =
          ⊎_elim {C = (progress_of next other).ended ≤ length (calls_of m.script other)}
          (λ same. subst (λ (n : ℕ). (progress_of next n).ended ≤ length (calls_of m.script n)) (sym same) most_own)
          (λ differ.
          omega
          (ap (λ (x : Progress). x.ended) (other_progress v m done p o progress sound is other differ), sound.processes.ended other, arith))
          (cases_eq other process)

  -- ---- calls in turn

  finished_in : (o : Option Entry) → ((e : Entry) → o ≡ Some e → IsAdded v m p e) → (at : At) → is_finished m.script m.journal at ≡ true →
      is_finished m.script (with_entry_if_any m p o).journal at ≡ true
  finished_in None added at finished = finished
  finished_in (Some e) added at finished = stays_finished m.script m.journal e at ((added e refl).next.fits NextCall) finished

  -- a finished call stays so
  finished_stays : (at : At) → is_finished m.script m.journal at ≡ true → is_finished next.script next.journal at ≡ true
  finished_stays at finished =
      ap (λ (s : Script). is_finished s next.journal at) is.script
      ∙ ap (λ (journal : List Entry). is_finished m.script journal at) is.journal ∙ finished_in o is.added at finished

  -- the call is finished once it has ended
  own_finished : has_ended p.call after.before progress ≡ true → is_finished next.script next.journal p.at ≡ true
  own_finished ended =
      ap (λ (s : Script). is_finished s next.journal p.at) is.script
      ∙ is_finished-called m.script next.journal p.at p.call runs.called
      ∙ ap (is_ended_by p.call) (own_entries v m done p o progress sound is) ∙ (ended_parts p.call after.before progress ended).0

  finished_own : (call : ℕ) → call < (progress_of next process).ended → is_finished next.script next.journal (numbered process call) ≡ true
  finished_own call lt =
      ⊎_elim
      (λ ended.
      ⊎_elim
      (λ last.
      let same : numbered process call ≡ p.at = ap (numbered process) last ∙ sym runs.at_is in
      ap (λ (at : At). is_finished next.script next.journal at) same ∙ own_finished ended)
      (λ differ.
      finished_stays (numbered process call)
      (sound.in_turn.finished process call (omega (lt, ended_count.1 ended, differ, arith))))
      (cases_eq call (progress_of m process).ended))
      (λ unended.
      finished_stays (numbered process call) (sound.in_turn.finished process call (omega (lt, ended_count.0 unended, arith))))
      (cases_Bool (has_ended p.call after.before progress))

  pub in_turn_kept : AreInTurn next
  in_turn_kept = record {
    finished = λ other call lt.
        ⊎_elim
        (λ same.
        subst (λ (n : ℕ). is_finished next.script next.journal (numbered n call) ≡ true) (sym same)
        (finished_own call (subst (λ (n : ℕ). call < (progress_of next n).ended) same lt)))
        (λ differ.
        let count = ap (λ (x : Progress). x.ended) (other_progress v m done p o progress sound is other differ) in
        finished_stays (numbered other call) (sound.in_turn.finished other call (omega (lt, count, arith))))
        (cases_eq other process);
    later = λ other call lt.
        let grows = ended_grows other in
        let another : same_call p.at (numbered other call) ≡ false =
        false_from_ne_true (same_call p.at (numbered other call))
        (λ same.
        let at_is : p.at ≡ numbered other call = same_at p.at (numbered other call) same in
        let number : call ≡ (progress_of m other).ended =
        ap (λ (at : At). at.call) (sym at_is) ∙ ap (λ (at : At). at.call) runs.at_is
        ∙ ap (λ (at : At). (progress_of m at.process).ended) at_is in
        omega (number, lt, grows, arith)) in
        other_entries v m done p o progress sound is (numbered other call) another
        ∙ sound.in_turn.later other call (omega (lt, grows, arith));
  }

  -- ---- running calls

  pub unended_kept : AreUnended next
  unended_kept other q runs_next = by (runs_after v m done p o progress sound is other q runs_next)
    where
      by : RunsAfter v m done p o progress sound is other q → has_ended q.call q.before (progress_of next other) ≡ false
      by (RunsAfter.of_other differ runs_m same) = ap (has_ended q.call q.before) same ∙ sound.unended other q runs_m
      by (RunsAfter.goes_on here place same unended) =
          ap (λ (n : ℕ). has_ended q.call q.before (progress_of next n)) here ∙ ap (has_ended q.call q.before) same
          ∙ ap (λ (x : Place). has_ended x.call x.before (with_turn_used progress)) place ∙ unended
      by (RunsAfter.begins here empty called same ended) =
          ap (λ (entries : List Entry). has_ended q.call entries (progress_of next other)) empty
          ∙ and_left (is_ended_by q.call []) (is_none_of (outstanding (progress_of next other)))
          (none_unended q.call q.at (is_call m.script q.at q.call sound.limits called))

  refused_in : (o : Option Entry) → ((e : Entry) → o ≡ Some e → is_whole_refusal e ≡ false) →
      list_any is_whole_refusal p.before ≡ false → list_any is_whole_refusal (p.before ++ option_to_list o) ≡ false
  refused_in None none whole = list_any-append is_whole_refusal p.before [] ∙ or_from (list_any is_whole_refusal p.before) false whole refl
  refused_in (Some e) none whole =
      list_any-append is_whole_refusal p.before (e ∷ [])
      ∙ or_from (list_any is_whole_refusal p.before) (list_any is_whole_refusal (e ∷ [])) whole
      (or_from (is_whole_refusal e) false (none e refl) refl)

  -- a call that goes on was not refused as a whole, where nothing is outstanding as that is done
  unrefused_on : ((e : Entry) → o ≡ Some e → is_whole_refusal e ≡ true → outstanding progress ≡ []) →
      has_ended p.call after.before progress ≡ false → (e : Entry) → o ≡ Some e → is_whole_refusal e ≡ false
  unrefused_on quiet unended e adds =
      false_from_ne_true (is_whole_refusal e)
      (λ whole.
      let goes_on = unended_by_entries p.call after.before progress unended (quiet e adds whole) in
      let ends : is_ended_by p.call after.before ≡ true =
      ap (λ (x : Option Entry). is_ended_by p.call (p.before ++ option_to_list x)) adds
      ∙ ended_by_end p.call p.before e (whole_ends p.call e whole) in
      both_ways (is_ended_by p.call after.before) goes_on ends)

  pub unrefused_kept : ((e : Entry) → o ≡ Some e → is_whole_refusal e ≡ true → outstanding progress ≡ []) → AreUnrefused next
  unrefused_kept quiet other q runs_next = by (runs_after v m done p o progress sound is other q runs_next)
    where
      by : RunsAfter v m done p o progress sound is other q → list_any is_whole_refusal q.before ≡ false
      by (RunsAfter.of_other differ runs_m same) = sound.unrefused other q runs_m
      by (RunsAfter.goes_on here place same unended) =
          ap (λ (x : Place). list_any is_whole_refusal x.before) place
          ∙ refused_in o (unrefused_on quiet unended) (sound.unrefused process p is.running_is)
      by (RunsAfter.begins here empty called same ended) = ap (list_any is_whole_refusal) empty
