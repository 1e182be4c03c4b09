-- The state after an effective turn in the name of a call: how far each process is, and which calls run.
use Rattle.std.proofs.Common.{◌≡◌, ◌≢◌, ℕ, ◌+◌, ◌<◌, true, false, cond, List, [], ◌∷◌, ◌++◌, length, Option, None, Some, refl, sym, ap, ◌∙◌, subst, arith, ⊎_elim}
use Rattle.std.specs.Prelude.{nat_eq}
use Rattle.std.specs.Option.{option_map, option_to_list}
use Rattle.std.proofs.lemmas.Bool.{and_right, cases_Bool, cases_eq, cond-false, cond-true, ne_eqb}
use Rattle.std.proofs.lemmas.List.{append-nil, get_or-set_other, get_or-set_same}
use Rattle.std.proofs.lemmas.Option.{none-some, same_Some}
use Rattle.bd_base.specs.declared.journal.At.{At}
use Rattle.bd_base.specs.declared.script.Call.{Call}
use Rattle.bd_base.specs.declared.script.Script.{Script}
use Rattle.bd_base.specs.declared.volume.Volume.{Volume}
use Rattle.bd_entry.specs.declared.entry.Entry.{Entry}
use Rattle.bd_entry.specs.Calls.{Place, at_of, call_at, entries_of, same_call}
use Rattle.bd_entry.proofs.CallOrder.{entries_of-joined, entries_of-other, numbered, other_process, same_self}
use Rattle.bd_entry.proofs.HistoryLaws.{process_there}
use Rattle.bd_entry.proofs.NextActs.{map_from}
use Rattle.bd_turns.proofs.RunningPlaces.{RunsAt, runs_at}
use Rattle.bd_turns.specs.Added.{IsAdded}
use Rattle.bd_turns.specs.Sound.{AreCallsSound}
use Rattle.bd_turns.specs.State.{Progress, State, has_ended, new_progress, place_of, progress_of, running, running_at, with_progress}
use Rattle.bd_turns.specs.Turns.{after_effect, with_call_ended, with_entry_if_any, with_turn_used}

-- ---- progress

pub progress_of-set : (m : State) (process : ℕ) (progress : Progress) → process < length m.processes →
    progress_of (with_progress m process progress) process ≡ progress
progress_of-set m process progress within = get_or-set_same m.processes process progress new_progress within

pub progress_of-other : (m : State) (process : ℕ) (progress : Progress) (other : ℕ) → other ≢ process →
    progress_of (with_progress m process progress) other ≡ progress_of m other
progress_of-other m process progress other differ = get_or-set_other m.processes process other progress new_progress differ

-- ---- what a turn has done

-- the place after the entry that a turn adds, if any
abbrev pub grown : Place → Option Entry → Place
grown p o = record p { before = p.before ++ option_to_list o }

-- what a turn of a running call has done before it is looked at whether the call has ended: it may have added an entry,
-- and its process has come so far
pub record IsDone (v : Volume) (m done : State) (p : Place) (o : Option Entry) (progress : Progress) : Type 0 where
  pub running_is : running m p.at.process ≡ Some p
  pub script : done.script ≡ m.script
  pub journal : done.journal ≡ (with_entry_if_any m p o).journal
  pub store : done.store ≡ (with_entry_if_any m p o).store
  pub added : (e : Entry) → o ≡ Some e → IsAdded v m p e
  pub own : progress_of done p.at.process ≡ progress
  pub others : (process : ℕ) → process ≢ p.at.process → progress_of done process ≡ progress_of m process
  pub count : length done.processes ≡ length m.processes
  pub walks : length done.tables.walks ≡ length m.tables.walks
  pub ended : progress.ended ≡ (progress_of m p.at.process).ended

module _ (v : Volume) (m done : State) (p : Place) (o : Option Entry) (progress : Progress) (sound : AreCallsSound m)
    (is : IsDone v m done p o progress) where
  abbrev process : ℕ
  process = p.at.process

  -- the state after the turn
  abbrev next : State
  next = after_effect done p

  runs : RunsAt m process p
  runs = runs_at m process p is.running_is

  -- the process is one of the script
  pub there : process < length m.processes
  there = omega (process_there m.script p.at p.call runs.called, sound.processes.progress, arith)

  -- ---- the entries of calls

  journal_of : (o : Option Entry) → ((e : Entry) → o ≡ Some e → at_of e ≡ p.at) →
      entries_of p.at (with_entry_if_any m p o).journal ≡ p.before ++ option_to_list o
  journal_of None of = sym runs.before_is ∙ sym (append-nil p.before)
  journal_of (Some e) of =
      entries_of-joined m.journal e p.at (subst (λ (at : At). same_call at p.at ≡ true) (sym (of e refl)) (same_self p.at))
      ∙ ap (λ (before : List Entry). before ++ e ∷ []) (sym runs.before_is)

  -- the entries of the call are those before, and the one that was added
  pub own_entries : entries_of p.at next.journal ≡ (grown p o).before
  own_entries = ap (entries_of p.at) is.journal ∙ journal_of o (λ e adds. (is.added e adds).at_is)

  other_journal : (o : Option Entry) (at : At) → ((e : Entry) → o ≡ Some e → at_of e ≡ p.at) → same_call p.at at ≡ false →
      entries_of at (with_entry_if_any m p o).journal ≡ entries_of at m.journal
  other_journal None at of differ = refl
  other_journal (Some e) at of differ =
      entries_of-other m.journal e at (ap (λ (a : At). same_call a at) (of e refl) ∙ differ)

  -- those of another call stay
  pub other_entries : (at : At) → same_call p.at at ≡ false → entries_of at next.journal ≡ entries_of at m.journal
  other_entries at differ = ap (entries_of at) is.journal ∙ other_journal o at (λ e adds. (is.added e adds).at_is) differ

  -- ---- how far the processes are

  -- the process goes on with its call, or with the next one
  pub own_progress : progress_of next process
      ≡ cond (has_ended p.call (grown p o).before progress) (with_call_ended progress) (with_turn_used progress)
  own_progress =
      let within : process < length done.processes = omega (there, is.count, arith) in
      let after : Progress → Progress =
      λ q. cond (has_ended p.call (entries_of p.at done.journal) q) (with_call_ended q) (with_turn_used q) in
      progress_of-set done process (after (progress_of done process)) within ∙ ap after is.own
      ∙ ap (λ (before : List Entry). cond (has_ended p.call before progress) (with_call_ended progress) (with_turn_used progress))
      own_entries

  pub other_progress : (other : ℕ) → other ≢ process → progress_of next other ≡ progress_of m other
  other_progress other differ =
      let after : Progress = cond (has_ended p.call (entries_of p.at done.journal) (progress_of done process))
      (with_call_ended (progress_of done process)) (with_turn_used (progress_of done process)) in
      progress_of-other done process after other differ ∙ is.others other differ

  -- ---- which calls run

  -- a running call after the turn: one of another process, as before; the call of the turn, which goes on; or the next
  -- call of its process, which has no entry
  pub data RunsAfter (other : ℕ) (q : Place) : Type 0 where
    of_other : other ≢ process → running m other ≡ Some q → progress_of next other ≡ progress_of m other → RunsAfter other q
    goes_on : other ≡ process → q ≡ grown p o → progress_of next process ≡ with_turn_used progress →
        has_ended p.call (grown p o).before progress ≡ false → RunsAfter other q
    begins : other ≡ process → q.before ≡ [] → call_at m.script q.at ≡ Some q.call →
        progress_of next process ≡ with_call_ended progress → has_ended p.call (grown p o).before progress ≡ true →
        RunsAfter other q

  other_runs : (other : ℕ) (q : Place) → other ≢ process → running next other ≡ Some q → running m other ≡ Some q
  other_runs other q differ runs_next =
      let progress_is = other_progress other differ in
      let at : At = running_at m other in
      let at_is : running_at next other ≡ at = ap (λ (x : Progress). numbered other x.ended) progress_is in
      let place_is : (call : Call) → place_of next (running_at next other) call ≡ place_of m at call =
      λ call.
      ap (λ (a : At). place_of next a call) at_is
      ∙ ap (λ (before : List Entry). record { call = call; at = at; before = before })
      (other_entries at (other_process p.at at differ)) in
      let found = map_from (place_of next (running_at next other)) (call_at next.script (running_at next other)) q runs_next in
      let called : call_at m.script at ≡ Some found.0 =
      sym (ap (call_at m.script) at_is) ∙ sym (ap (λ (s : Script). call_at s (running_at next other)) is.script) ∙ found.1 in
      ap (option_map (place_of m at)) called ∙ ap Some (sym (place_is found.0) ∙ found.2)

  -- where the running call of the process is after the turn
  own_at : (after : Progress) (q : Place) → progress_of next process ≡ after → running next process ≡ Some q →
      q.at ≡ numbered process after.ended
  own_at after q progress_is runs_next =
      (runs_at next process q runs_next).at_is ∙ ap (λ (x : Progress). numbered process x.ended) progress_is

  -- its place after the turn
  called_next : (q : Place) → running next process ≡ Some q → call_at m.script q.at ≡ Some q.call
  called_next q runs_next = ap (λ (s : Script). call_at s q.at) (sym is.script) ∙ (runs_at next process q runs_next).called

  own_goes_on : (q : Place) → running next process ≡ Some q → has_ended p.call (grown p o).before progress ≡ false →
      RunsAfter process q
  own_goes_on q runs_next unended =
      let progress_is : progress_of next process ≡ with_turn_used progress =
      own_progress
      ∙ cond-false (has_ended p.call (grown p o).before progress) (with_call_ended progress) (with_turn_used progress) unended in
      let at_is : q.at ≡ p.at =
      own_at (with_turn_used progress) q progress_is runs_next ∙ ap (numbered process) is.ended ∙ sym runs.at_is in
      let call_is : q.call ≡ p.call =
      same_Some q.call p.call (sym (called_next q runs_next) ∙ ap (call_at m.script) at_is ∙ runs.called) in
      let before_is : q.before ≡ (grown p o).before =
      (runs_at next process q runs_next).before_is ∙ ap (λ (at : At). entries_of at next.journal) at_is ∙ own_entries in
      let place : Call → At → List Entry → Place = λ call at before. record { call = call; at = at; before = before } in
      let same : q ≡ grown p o =
      ap (λ (call : Call). place call q.at q.before) call_is ∙ ap (λ (at : At). place p.call at q.before) at_is
      ∙ ap (place p.call p.at) before_is in
      goes_on refl same progress_is unended

  own_begins : (q : Place) → running next process ≡ Some q → has_ended p.call (grown p o).before progress ≡ true →
      RunsAfter process q
  own_begins q runs_next ended =
      let progress_is : progress_of next process ≡ with_call_ended progress =
      own_progress
      ∙ cond-true (has_ended p.call (grown p o).before progress) (with_call_ended progress) (with_turn_used progress) ended in
      let at_is : q.at ≡ numbered process (progress.ended + 1) = own_at (with_call_ended progress) q progress_is runs_next in
      let number : p.at.call ≡ progress.ended = ap (λ (at : At). at.call) runs.at_is ∙ sym is.ended in
      let another : same_call p.at (numbered process (progress.ended + 1)) ≡ false =
      and_right (nat_eq process process) (nat_eq p.at.call (progress.ended + 1))
      (ne_eqb p.at.call (progress.ended + 1) (λ same. omega (number, same, arith))) in
      let later : (progress_of m process).ended < progress.ended + 1 = omega (is.ended, arith) in
      let empty : q.before ≡ [] =
      (runs_at next process q runs_next).before_is ∙ ap (λ (at : At). entries_of at next.journal) at_is
      ∙ other_entries (numbered process (progress.ended + 1)) another
      ∙ sound.in_turn.later process (progress.ended + 1) later in
      begins refl empty (called_next q runs_next) progress_is ended

  pub runs_after : (other : ℕ) (q : Place) → running next other ≡ Some q → RunsAfter other q
  runs_after other q runs_next =
      ⊎_elim
      (λ same.
      let here : running next process ≡ Some q = ap (running next) (sym same) ∙ runs_next in
      subst (λ (n : ℕ). RunsAfter n q) (sym same)
      (⊎_elim (λ ended. own_begins q here ended) (λ unended. own_goes_on q here unended)
      (cases_Bool (has_ended p.call (grown p o).before progress))))
      (λ differ. of_other differ (other_runs other q differ runs_next) (other_progress other differ))
      (cases_eq other process)

  -- a process without a running call after the turn is another one that had none, or its call has ended
  pub data NoneRunsAfter (other : ℕ) : Type 0 where
    none_of_other : other ≢ process → running m other ≡ None → progress_of next other ≡ progress_of m other → NoneRunsAfter other
    none_begins : other ≡ process → progress_of next process ≡ with_call_ended progress →
        has_ended p.call (grown p o).before progress ≡ true → NoneRunsAfter other

  none_runs_other : (other : ℕ) → other ≢ process → running next other ≡ None → running m other ≡ None
  none_runs_other other differ none = by (running m other) refl
    where
      by : (r : Option Place) → running m other ≡ r → r ≡ None
      by None runs_m = refl
      by (Some q) runs_m =
          let progress_is = other_progress other differ in
          let at_is : running_at next other ≡ running_at m other = ap (λ (x : Progress). numbered other x.ended) progress_is in
          let found = map_from (place_of m (running_at m other)) (call_at m.script (running_at m other)) q runs_m in
          let called : call_at next.script (running_at next other) ≡ Some found.0 =
          ap (λ (s : Script). call_at s (running_at next other)) is.script ∙ ap (call_at m.script) at_is ∙ found.1 in
          absurd
          (none-some (place_of next (running_at next other) found.0)
          (sym none ∙ ap (option_map (place_of next (running_at next other))) called))

  none_runs_own : running next process ≡ None → has_ended p.call (grown p o).before progress ≡ true
  none_runs_own none =
      ⊎_elim
      (λ ended. ended)
      (λ unended.
      let progress_is : progress_of next process ≡ with_turn_used progress =
      own_progress
      ∙ cond-false (has_ended p.call (grown p o).before progress) (with_call_ended progress) (with_turn_used progress) unended in
      let at_is : running_at next process ≡ p.at =
      ap (λ (x : Progress). numbered process x.ended) progress_is ∙ ap (numbered process) is.ended ∙ sym runs.at_is in
      let called : call_at next.script (running_at next process) ≡ Some p.call =
      ap (λ (s : Script). call_at s (running_at next process)) is.script ∙ ap (call_at m.script) at_is ∙ runs.called in
      absurd
      (none-some (place_of next (running_at next process) p.call)
      (sym none ∙ ap (option_map (place_of next (running_at next process))) called)))
      (cases_Bool (has_ended p.call (grown p o).before progress))

  pub none_runs_after : (other : ℕ) → running next other ≡ None → NoneRunsAfter other
  none_runs_after other none =
      ⊎_elim
      (λ same.
      let ended = none_runs_own (ap (running next) (sym same) ∙ none) in
      none_begins same
      (own_progress
      ∙ cond-true (has_ended p.call (grown p o).before progress) (with_call_ended progress) (with_turn_used progress) ended)
      ended)
      (λ differ. none_of_other differ (none_runs_other other differ none) (other_progress other differ))
      (cases_eq other process)
