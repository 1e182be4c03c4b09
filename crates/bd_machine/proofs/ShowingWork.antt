-- A process whose calls are all finished has no entries of a running call.
use Rattle.std.proofs.Common.{◌≡◌, ◌≢◌, ℕ, zero, suc, ◌+◌, ◌<◌, ◌≤◌, true, false, cond, List, [], ◌∷◌, ◌++◌, length, map, Option, None, Some, refl, sym, ap, ◌∙◌, subst, append_assoc, arith, ⊎_elim}
use Rattle.std.specs.Prelude.{slice_get, slice_index_or, slice_set}
use Rattle.std.specs.Option.{option_map_or}
use Rattle.std.proofs.lemmas.Bool.{cases_Bool, cases_eq, cases_lt, cond-false, cond-true}
use Rattle.std.proofs.lemmas.List.{append-nil, get_or-set_other, get_or-set_same}
use Rattle.std.proofs.lemmas.Option.{none-some, slice_get_within}
use Rattle.bd_base.specs.declared.journal.At.{At}
use Rattle.bd_base.specs.declared.script.Call.{Call}
use Rattle.bd_base.specs.declared.script.Process.{Process}
use Rattle.bd_base.specs.declared.script.Script.{Script}
use Rattle.bd_base.specs.declared.volume.Volume.{Volume}
use Rattle.bd_base.specs.Scripts.{IsWithinLimits}
use Rattle.bd_entry.specs.declared.entry.Entry.{Entry}
use Rattle.bd_entry.specs.Calls.{at_of, call_at, calls_of, entries_of, is_ended_by, is_finished}
use Rattle.bd_entry.specs.History.{InOrderFrom, Legal, Step}
use Rattle.bd_entry.specs.Laws.{IsHistory}
use Rattle.bd_entry.specs.Rules.{NextCall, place_in}
use Rattle.bd_entry.specs.RulesOfCalls.{IsNextCall}
use Rattle.bd_entry.specs.Store.{Store, start_store, work_of}
use Rattle.bd_entry.proofs.CallOrder.{entries_of-joined, entries_of-other, is_finished-called, numbered, other_process, same_self}
use Rattle.bd_entry.proofs.CallWork.{effect_of-work}
use Rattle.bd_entry.proofs.HistoryLaws.{IsLed, history_leads, led-push, led_at_start, process_there}
use Rattle.bd_entry.proofs.Slots.{some_of}
use Rattle.bd_turns.proofs.FoundElements.{slice_get-there}
use Rattle.bd_turns.specs.Sound.{AreInTurn}
use Rattle.bd_turns.specs.State.{State, progress_of}

-- all calls of the process are finished
abbrev AreAllFinished : Script → List Entry → ℕ → Type 0
AreAllFinished script journal process =
    (call : ℕ) → call < length (calls_of script process) → is_finished script journal (numbered process call) ≡ true

-- a process of which all calls are finished has no work
abbrev IsRested : Script → List Entry → Store → Type 0
IsRested script journal s = (process : ℕ) → AreAllFinished script journal process → work_of s process ≡ []

-- one more entry leaves it so
module _ (script : Script) (before : List Entry) (s : Store) (call : Call) (e : Entry) (t : Store) (led : IsLed script before s)
    (rested : IsRested script before s) (next : IsNextCall script before (at_of e)) (called : call_at script (at_of e) ≡ Some call)
    (step : Step s (place_in s call (at_of e)) e t) where
  abbrev mine : At
  mine = at_of e

  abbrev after : List Entry
  after = before ++ e ∷ []

  abbrev entries : List Entry
  entries = work_of s mine.process ++ e ∷ []

  abbrev row : List Entry
  row = cond (is_ended_by call entries) [] entries

  work : t.work ≡ slice_set s.work mine.process row
  work = ap (λ (x : Store). x.work) step.after ∙ effect_of-work s call e

  there : mine.process < length s.work
  there = subst (λ (k : ℕ). mine.process < k) (sym led.rows) (process_there script mine call called)

  joined : entries ≡ entries_of mine after
  joined =
      ap (λ (all : List Entry). all ++ e ∷ []) (led.running mine next)
      ∙ sym (entries_of-joined before e mine (same_self mine))

  -- the process of the entry
  here : AreAllFinished script after mine.process → slice_index_or (slice_set s.work mine.process row) mine.process [] ≡ []
  here finished =
      get_or-set_same s.work mine.process row [] there
      ∙ cond-true (is_ended_by call entries) [] entries
      (ap (is_ended_by call) joined ∙ sym (is_finished-called script after mine call called)
      ∙ finished mine.call next.in_script)

  -- and another
  other : (process : ℕ) → process ≢ mine.process → AreAllFinished script after process →
      slice_index_or (slice_set s.work mine.process row) process [] ≡ []
  other process differ finished =
      get_or-set_other s.work mine.process process row [] differ
      ∙ rested process
      (λ number lt.
      sym
      (ap (λ (all : List Entry). option_map_or (λ (c : Call). is_ended_by c all) (call_at script (numbered process number)) false)
      (entries_of-other before e (numbered process number) (other_process mine (numbered process number) differ)))
      ∙ finished number lt)

  rested-push : IsRested script after t
  rested-push process finished =
      ap (λ (x : List (List Entry)). slice_index_or x process []) work
      ∙ ⊎_elim {C = slice_index_or (slice_set s.work mine.process row) process [] ≡ []}
      (λ same.
      subst (λ (k : ℕ). slice_index_or (slice_set s.work mine.process row) k [] ≡ []) (sym same)
      (here (subst (AreAllFinished script after) same finished)))
      (λ differ. other process differ finished)
      (cases_eq process mine.process)

-- so does a journal
rested_on : (script : Script) (before : List Entry) (s : Store) (journal : List Entry) (t : Store) → IsWithinLimits script →
    IsLed script before s → IsRested script before s → Legal script s journal t → InOrderFrom script before journal →
    IsRested script (before ++ journal) t
rested_on script before s [] t limits led rested same order =
    subst (λ (all : List Entry). IsRested script all t) (sym (append-nil before)) (subst (IsRested script before) same rested)
rested_on script before s (e ∷ journal) t limits led rested legal order =
    subst (λ (all : List Entry). IsRested script all t) (append_assoc before (e ∷ []) journal)
    (rested_on script (before ++ e ∷ []) legal.1 journal t limits
    (led-push script before s legal.0 e legal.1 limits led order.0 legal.2 legal.3)
    (rested-push script before s legal.0 e legal.1 led rested (order.0 NextCall) legal.2 legal.3) legal.4 order.1)

nothing_at_start : (processes : List Process) (process : ℕ) →
    let none : Process → List Entry = λ p. [] in
    slice_index_or (map none processes) process [] ≡ []
nothing_at_start [] process = refl
nothing_at_start (p ∷ processes) zero = refl
nothing_at_start (p ∷ processes) (suc process) = nothing_at_start processes process

-- in a store that a history leads to, a process of which all calls are finished has no work
pub finished_rest : (v : Volume) (script : Script) (journal : List Entry) (s : Store) → IsHistory v script journal s →
    IsRested script journal s
finished_rest v script journal s history =
    rested_on script [] (start_store v script) journal s history.limits
    (led_at_start v script history.sound history.limits) (λ process finished. nothing_at_start script.processes process)
    history.legal history.in_order

-- a list has an element at each place within it
none_past : {X : Type 0} (xs : List X) (i : ℕ) → slice_get xs i ≡ None → i < length xs → ⊥
none_past xs i none within =
    let there = some_of (slice_get xs i) (slice_get-there xs i within) in
    none-some there.0 (sym none ∙ there.1)

-- a process whose running call is finished has none either, as its later calls have no entry
module _ (v : Volume) (m : State) (history : IsHistory v m.script m.journal m.store) (turn : AreInTurn m) (process : ℕ) where
  abbrev ended : ℕ
  ended = (progress_of m process).ended

  abbrev calls : ℕ
  calls = length (calls_of m.script process)

  -- all calls before this one are finished
  abbrev AreFinishedTo : ℕ → Type 0
  AreFinishedTo k = (call : ℕ) → call < k → is_finished m.script m.journal (numbered process call) ≡ true

  finished_next : (k : ℕ) → AreFinishedTo k → is_finished m.script m.journal (numbered process k) ≡ true → AreFinishedTo (k + 1)
  finished_next k before here call lt =
      ⊎_elim {C = is_finished m.script m.journal (numbered process call) ≡ true}
      (λ same. ap (λ (j : ℕ). is_finished m.script m.journal (numbered process j)) same ∙ here)
      (λ differ. before call (omega (arith, lt, differ)))
      (cases_eq call k)

  rest_from : (fuel k : ℕ) → calls ≤ k + fuel → ended < k → AreFinishedTo k → work_of m.store process ≡ []
  rest_from zero k most later finished =
      finished_rest v m.script m.journal m.store history process (λ call lt. finished call (omega (arith, lt, most)))
  rest_from (suc fuel) k most later finished =
      ⊎_elim {C = work_of m.store process ≡ []}
      (λ within.
      ⊎_elim {C = work_of m.store process ≡ []}
      (λ here. rest_from fuel (k + 1) (omega (arith, most)) (omega (arith, later)) (finished_next k finished here))
      (λ here.
      (history_leads v m.script m.journal m.store history).running (numbered process k)
      (record { in_script = within; unfinished = here; earlier = finished })
      ∙ turn.later process k later)
      (cases_Bool (is_finished m.script m.journal (numbered process k))))
      (λ past. finished_rest v m.script m.journal m.store history process (λ call lt. finished call (omega (arith, lt, past))))
      (cases_lt k calls)

  abbrev at : At
  at = numbered process ended

  abbrev entries_at : List Entry
  entries_at = entries_of at m.journal

  -- the entries that the store keeps of the process
  pub work_is : work_of m.store process
      ≡ option_map_or (λ (call : Call). cond (is_ended_by call entries_at) [] entries_at) (call_at m.script at) []
  work_is = by (call_at m.script at) refl
    where
      by : (o : Option Call) → call_at m.script at ≡ o →
          work_of m.store process ≡ option_map_or (λ (call : Call). cond (is_ended_by call entries_at) [] entries_at) o []
      by None none =
          finished_rest v m.script m.journal m.store history process
          (λ call lt.
          turn.finished process call
          (⊎_elim {C = call < ended} (λ less. less)
          (λ most. absurd (none_past (calls_of m.script process) ended none (omega (arith, lt, most)))) (cases_lt call ended)))
      by (Some call) called =
          ⊎_elim {C = work_of m.store process ≡ cond (is_ended_by call entries_at) [] entries_at}
          (λ ends.
          rest_from calls (ended + 1) (omega arith) (omega arith)
          (finished_next ended (turn.finished process) (is_finished-called m.script m.journal at call called ∙ ends))
          ∙ sym (cond-true (is_ended_by call entries_at) [] entries_at ends))
          (λ goes_on.
          (history_leads v m.script m.journal m.store history).running at
          (record {
            in_script = slice_get_within (calls_of m.script process) ended call called;
            unfinished = is_finished-called m.script m.journal at call called ∙ goes_on;
            earlier = turn.finished process;
          })
          ∙ sym (cond-false (is_ended_by call entries_at) [] entries_at goes_on))
          (cases_Bool (is_ended_by call entries_at))
