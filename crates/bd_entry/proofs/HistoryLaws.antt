-- Every legal journal in order leads from a sound volume to a valid store.
use Rattle.std.proofs.Common.{◌≡◌, ℕ, ◌<◌, true, false, cond, List, [], ◌∷◌, ◌++◌, map, length, zero, suc, Option, None, Some, refl, sym, ap, ◌∙◌, subst, append_assoc, arith, ⊎_elim}
use Rattle.std.specs.Prelude.{nat_eq, slice_get, slice_index_or, slice_set}
use Rattle.std.specs.Option.{option_map_or}
use Rattle.std.proofs.lemmas.Bool.{and_right, both_ways, cases_eq, cases_order, cond-false, cond-true, ne_eqb}
use Rattle.std.proofs.lemmas.List.{append-nil, get_or-set_other, get_or-set_same, length-map, length-set}
use Rattle.std.proofs.lemmas.Option.{none-some, slice_get_cases}
use Rattle.bd_base.specs.declared.script.Call.{Call}
use Rattle.bd_base.specs.declared.script.Process.{Process}
use Rattle.bd_base.specs.declared.script.Script.{Script}
use Rattle.bd_base.specs.declared.journal.At.{At}
use Rattle.bd_base.specs.declared.volume.Volume.{Volume}
use Rattle.bd_base.specs.Scripts.{IsCall, IsProcess, IsWithinLimits}
use Rattle.bd_base.specs.Volumes.{IsSoundVolume}
use Rattle.bd_entry.specs.declared.entry.Entry.{Entry}
use Rattle.bd_entry.specs.Calls.{at_of, call_at, entries_of, is_ended_by, is_finished, same_call}
use Rattle.bd_entry.specs.History.{InOrderFrom, Legal, Step}
use Rattle.bd_entry.specs.Laws.{AreOfCall, HistoriesKeepValid, IsHistory, IsNextEntry, WorkIsOfRunningCall}
use Rattle.bd_entry.specs.Rules.{EntryRule, FitsScript, NextCall, place_in}
use Rattle.bd_entry.specs.RulesOfCalls.{IsNextCall}
use Rattle.bd_entry.specs.Store.{Store, Valid, start_store, work_of}
use Rattle.bd_entry.proofs.CallOrder.{IsOrdered, entries_of-joined, entries_of-other, is_finished-called, next-other, numbered, ordered-push, ordered_at_start, other_process, same_self, start_of, stays_finished}
use Rattle.bd_entry.proofs.CallPieces.{All-slice_get}
use Rattle.bd_entry.proofs.CallWork.{effect_of-work}
use Rattle.bd_entry.proofs.StoreLaws.{start_is_valid, step_keeps_valid}

-- a process that has a call is in the script
pub process_there : (script : Script) (at : At) (call : Call) → call_at script at ≡ Some call → at.process < length script.processes
process_there script at call called =
    ⊎_elim
    (λ there. there.1)
    (λ past. absurd (none-some call (sym (ap (λ (o : Option Process). slice_get (option_map_or (λ (p : Process). p.calls) o []) at.call) past.1)
    ∙ called)))
    (slice_get_cases script.processes at.process).1

-- a call of a script within the limits is within them
pub is_call : (script : Script) (at : At) (call : Call) → IsWithinLimits script → call_at script at ≡ Some call → IsCall call
is_call script at call limits called = of_process (slice_get script.processes at.process) refl called
  where
    of_process : (o : Option Process) → slice_get script.processes at.process ≡ o →
        slice_get (option_map_or (λ (p : Process). p.calls) o []) at.call ≡ Some call → IsCall call
    of_process None none call_is = absurd (none-some call call_is)
    of_process (Some p) is call_is =
        All-slice_get IsCall p.calls at.call call (All-slice_get IsProcess script.processes at.process p limits.processes is).calls call_is

-- a store to which the entries before led: the running call of each process is its next one, with the entries of that
pub record IsLed (script : Script) (before : List Entry) (s : Store) : Type 0 where
  pub valid : Valid s
  pub rows : length s.work ≡ length script.processes
  pub ordered : IsOrdered script before
  pub running : (at : At) → IsNextCall script before at → work_of s at.process ≡ entries_of at before

-- the entries of the call with the new one are those that the journal then has of it
joined_work : (script : Script) (before : List Entry) (s : Store) (e : Entry) → IsLed script before s → IsNextCall script before (at_of e) →
    work_of s (at_of e).process ++ e ∷ [] ≡ entries_of (at_of e) (before ++ e ∷ [])
joined_work script before s e led next =
    ap (λ (entries : List Entry). entries ++ e ∷ []) (led.running (at_of e) next) ∙ sym (entries_of-joined before e (at_of e) (same_self (at_of e)))

-- the entry is the next one of its call
pub next_entry : (script : Script) (before : List Entry) (s : Store) (call : Call) (e : Entry) → IsLed script before s →
    ((rule : EntryRule) → FitsScript script before e rule) → call_at script (at_of e) ≡ Some call → IsNextEntry s call e
next_entry script before s call e led fits called =
    let next : IsNextCall script before (at_of e) = fits NextCall in
    record {
      of_call =
          subst (AreOfCall (start_of call (at_of e))) (sym (joined_work script before s e led next))
          ((ordered-push script before e led.ordered fits).of_call (at_of e) call called);
      unfinished = ap (is_ended_by call) (led.running (at_of e) next) ∙ sym (is_finished-called script before (at_of e) call called) ∙ next.unfinished;
    }

-- after the entry, the next call of its process: it is the same call as long as that is not finished, and else a later one that has no entries
next_here : (script : Script) (before : List Entry) (s : Store) (call : Call) (e : Entry) → IsLed script before s → IsNextCall script before (at_of e) →
    call_at script (at_of e) ≡ Some call → (number : ℕ) → IsNextCall script (before ++ e ∷ []) (numbered (at_of e).process number) →
    let entries = work_of s (at_of e).process ++ e ∷ [] in
    cond (is_ended_by call entries) [] entries ≡ entries_of (numbered (at_of e).process number) (before ++ e ∷ [])
next_here script before s call e led next called number then =
    let mine = at_of e in
    let after = before ++ e ∷ [] in
    let entries = work_of s mine.process ++ e ∷ [] in
    let joined : entries ≡ entries_of mine after = joined_work script before s e led next in
    let ends : is_finished script after mine ≡ is_ended_by call entries =
    is_finished-called script after mine call called ∙ ap (is_ended_by call) (sym joined) in
    ⊎_elim
    (λ same.
    let is : numbered mine.process number ≡ mine = ap (λ (n : ℕ). numbered mine.process n) same in
    let unfinished : is_ended_by call entries ≡ false = sym ends ∙ subst (λ (at : At). is_finished script after at ≡ false) is then.unfinished in
    cond-false (is_ended_by call entries) [] entries unfinished ∙ joined ∙ ap (λ (at : At). entries_of at after) (sym is))
    (⊎_elim
    (λ earlier.
    absurd (both_ways (is_finished script after (numbered mine.process number)) then.unfinished
    (stays_finished script before e (numbered mine.process number) next (next.earlier number earlier))))
    (λ later.
    let finished : is_ended_by call entries ≡ true = sym ends ∙ then.earlier mine.call later in
    let another : same_call mine (numbered mine.process number) ≡ false =
    and_right (nat_eq mine.process mine.process) (nat_eq mine.call number) (ne_eqb mine.call number (λ same. omega arith)) in
    cond-true (is_ended_by call entries) [] entries finished
    ∙ sym
    (entries_of-other before e (numbered mine.process number) another ∙ led.ordered.none_yet (numbered mine.process number) mine.call later next.unfinished)))
    (cases_order number mine.call)

-- one more entry that is legal and in order
pub led-push : (script : Script) (before : List Entry) (s : Store) (call : Call) (e : Entry) (t : Store) → IsWithinLimits script → IsLed script before s →
    ((rule : EntryRule) → FitsScript script before e rule) → call_at script (at_of e) ≡ Some call → Step s (place_in s call (at_of e)) e t →
    IsLed script (before ++ e ∷ []) t
led-push script before s call e t limits led fits called step =
    let mine = at_of e in
    let next : IsNextCall script before mine = fits NextCall in
    let entries = work_of s mine.process ++ e ∷ [] in
    let row = cond (is_ended_by call entries) [] entries in
    let work : t.work ≡ slice_set s.work mine.process row = ap (λ (x : Store). x.work) step.after ∙ effect_of-work s call e in
    let there : mine.process < length script.processes = process_there script mine call called in
    let rows : length s.work ≡ length script.processes = led.rows in
    let within : mine.process < length s.work = omega arith in
    record {
      valid = step_keeps_valid s call e t led.valid (is_call script (at_of e) call limits called) (next_entry script before s call e led fits called) step;
      rows = ap (λ (x : List (List Entry)). length x) work ∙ length-set s.work mine.process row ∙ rows;
      ordered = ordered-push script before e led.ordered fits;
      running = λ at then.
          ap (λ (x : List (List Entry)). slice_index_or x at.process []) work
          ∙ ⊎_elim
          (λ same.
          let is : at ≡ numbered mine.process at.call = ap (λ (process : ℕ). numbered process at.call) same in
          ap (λ (process : ℕ). slice_index_or (slice_set s.work mine.process row) process []) same
          ∙ get_or-set_same s.work mine.process row [] within
          ∙ next_here script before s call e led next called at.call (subst (IsNextCall script (before ++ e ∷ [])) is then)
          ∙ ap (λ (a : At). entries_of a (before ++ e ∷ [])) (sym is))
          (λ differ.
          get_or-set_other s.work mine.process at.process row [] differ
          ∙ led.running at (next-other script before e at differ then)
          ∙ sym (entries_of-other before e at (other_process (at_of e) at differ)))
          (cases_eq at.process mine.process);
    }

-- a store that leads to another by a legal journal in order
led_on : (script : Script) (before : List Entry) (s : Store) (journal : List Entry) (t : Store) → IsWithinLimits script → IsLed script before s →
    Legal script s journal t → InOrderFrom script before journal → IsLed script (before ++ journal) t
led_on script before s [] t limits led same order =
    subst (λ (all : List Entry). IsLed script all t) (sym (append-nil before)) (subst (IsLed script before) same led)
led_on script before s (e ∷ journal) t limits led legal order =
    subst (λ (all : List Entry). IsLed script all t) (append_assoc before (e ∷ []) journal)
    (led_on script (before ++ e ∷ []) legal.1 journal t limits
    (led-push script before s legal.0 e legal.1 limits led order.0 legal.2 legal.3) legal.4 order.1)

-- no call has entries at the start
none_at_start : (processes : List Process) (process : ℕ) →
    let none : Process → List Entry = λ p. [] in
    slice_index_or (map none processes) process [] ≡ []
none_at_start [] process = refl
none_at_start (p ∷ processes) zero = refl
none_at_start (p ∷ processes) (suc process) = none_at_start processes process

pub led_at_start : (v : Volume) (script : Script) → IsSoundVolume v → IsWithinLimits script → IsLed script [] (start_store v script)
led_at_start v script sound limits = record {
  valid = start_is_valid v script sound limits;
  rows = length-map script.processes (λ (p : Process). []);
  ordered = ordered_at_start script;
  running = λ at next. none_at_start script.processes at.process;
}

-- the store that a history leads to
pub history_leads : (v : Volume) (script : Script) (journal : List Entry) (s : Store) → IsHistory v script journal s → IsLed script journal s
history_leads v script journal s history =
    led_on script [] (start_store v script) journal s history.limits (led_at_start v script history.sound history.limits) history.legal history.in_order

pub histories_keep_valid : HistoriesKeepValid
histories_keep_valid v script journal s history = (history_leads v script journal s history).valid

pub work_is_of_running_call : WorkIsOfRunningCall
work_is_of_running_call v script journal s at history next = (history_leads v script journal s history).running at next
