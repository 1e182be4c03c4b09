-- The entries of running calls after an entry, and which calls are then the next of their processes.
use Rattle.std.proofs.Common.{◌≡◌, ◌≢◌, ℕ, Bool, true, false, cond, List, [], ◌∷◌, ◌++◌, zero, suc, refl, sym, ap, ◌∙◌, subst, ⊎_elim}
use Rattle.std.specs.Prelude.{slice_index_or, slice_set}
use Rattle.std.proofs.lemmas.Bool.{both_ways, cases_Bool, cases_eq, cases_order}
use Rattle.bd_base.specs.declared.script.Call.{Call}
use Rattle.bd_base.specs.declared.script.Script.{Script}
use Rattle.bd_base.specs.declared.volume.Volume.{Volume}
use Rattle.bd_base.specs.declared.journal.At.{At}
use Rattle.bd_entry.specs.declared.entry.Entry.{Entry}
use Rattle.bd_entry.specs.Calls.{at_of, entries_of, is_ended_by, is_finished}
use Rattle.bd_entry.specs.Effects.{effect_of}
use Rattle.bd_entry.specs.Laws.{IsNextOf}
use Rattle.bd_entry.specs.Rules.{NextCall, place_in}
use Rattle.bd_entry.specs.RulesOfCalls.{IsNextCall}
use Rattle.bd_entry.specs.Store.{Store, work_of}
use Rattle.bd_entry.proofs.Accesses.{work-is_of_call}
use Rattle.bd_entry.proofs.CallOrder.{entries_of-joined, is_finished-called, next-other, numbered, same_self, stays_finished}
use Rattle.bd_entry.proofs.CallWork.{effect_of-work}
use Rattle.bd_entry.proofs.DescriptorSteps.{index_or-set_cases}

-- ---- the entries of running calls

-- the entries of another process's call stay
pub work-other : (s : Store) (call : Call) (e : Entry) (process : ℕ) → process ≢ (at_of e).process →
    work_of (effect_of s (place_in s call (at_of e)) e) process ≡ work_of s process
work-other s call e process differ =
    let entries = work_of s (at_of e).process ++ e ∷ [] in
    ap (λ (work : List (List Entry)). slice_index_or work process []) (effect_of-work s call e)
    ∙ ⊎_elim (λ same. same) (λ new. absurd (differ new.0))
    (index_or-set_cases s.work (at_of e).process (cond (is_ended_by call entries) [] entries) process [])

-- a row of a list set to nothing is nothing
index_or-set_none : {X : Type 0} (rows : List (List X)) (i : ℕ) → slice_index_or (slice_set rows i []) i [] ≡ []
index_or-set_none [] i = refl
index_or-set_none (row ∷ rows) zero = refl
index_or-set_none (row ∷ rows) (suc i) = index_or-set_none rows i

-- a call that ended leaves no entries
pub work-ended : (s : Store) (call : Call) (e : Entry) → is_ended_by call (work_of s (at_of e).process ++ e ∷ []) ≡ true →
    work_of (effect_of s (place_in s call (at_of e)) e) (at_of e).process ≡ []
work-ended s call e ended =
    let process = (at_of e).process in
    let entries = work_of s process ++ e ∷ [] in
    ap (λ (work : List (List Entry)). slice_index_or work process []) (effect_of-work s call e)
    ∙ ap (λ (ends : Bool). slice_index_or (slice_set s.work process (cond ends [] entries)) process []) ended
    ∙ index_or-set_none s.work process

-- ---- the next call of a process

-- a process has one next call
pub one_next : (script : Script) (journal : List Entry) (a b : At) → IsNextCall script journal a → IsNextCall script journal b → a.process ≡ b.process
    → a ≡ b
one_next script journal a b next_a next_b same =
    let is : a ≡ numbered b.process a.call = ap (λ (process : ℕ). numbered process a.call) same in
    let back : b ≡ numbered a.process b.call = ap (λ (process : ℕ). numbered process b.call) (sym same) in
    ⊎_elim
    (λ equal. is ∙ ap (numbered b.process) equal)
    (λ order.
    ⊎_elim
    (λ below.
    absurd (both_ways (is_finished script journal a) next_a.unfinished
    (subst (λ (at : At). is_finished script journal at ≡ true) (sym is) (next_b.earlier a.call below))))
    (λ above.
    absurd (both_ways (is_finished script journal b) next_b.unfinished
    (subst (λ (at : At). is_finished script journal at ≡ true) (sym back) (next_a.earlier b.call above))))
    order)
    (cases_order a.call b.call)

-- a call that an entry does not end is still the next one of its process
pub still_next : (v : Volume) (script : Script) (before : List Entry) (s : Store) (call : Call) (e : Entry) → IsNextOf v script before s call e →
    is_ended_by call (work_of s (at_of e).process ++ e ∷ []) ≡ false → IsNextCall script (before ++ e ∷ []) (at_of e)
still_next v script before s call e next running =
    let mine = at_of e in
    let was : IsNextCall script before mine = next.fits NextCall in
    let entries : entries_of mine (before ++ e ∷ []) ≡ work_of s mine.process ++ e ∷ [] =
    entries_of-joined before e mine (same_self mine) ∙ ap (λ (es : List Entry). es ++ e ∷ []) (sym (work-is_of_call v script before s call e next)) in
    record {
      in_script = was.in_script;
      unfinished = is_finished-called script (before ++ e ∷ []) mine call next.call_is ∙ ap (is_ended_by call) entries ∙ running;
      earlier = λ number lt. stays_finished script before e (numbered mine.process number) was (was.earlier number lt);
    }

-- what is so of the call of each process that is running after an entry: another process's was so, and that of the entry is so if it goes on
pub running_cases : (v : Volume) (script : Script) (before : List Entry) (s : Store) (call : Call) (e : Entry) → IsNextOf v script before s call e →
    (at : At) → IsNextCall script (before ++ e ∷ []) at → work_of (effect_of s (place_in s call (at_of e)) e) at.process ≢ [] → (Result : Type 0) →
    (at.process ≢ (at_of e).process → IsNextCall script before at → work_of s at.process ≢ [] → Result) →
    (at ≡ at_of e → is_ended_by call (work_of s (at_of e).process ++ e ∷ []) ≡ false → Result) → Result
running_cases v script before s call e next at then some Result other mine =
    ⊎_elim
    (λ same.
    ⊎_elim
    (λ ended.
    absurd (some (ap (work_of (effect_of s (place_in s call (at_of e)) e)) same ∙ work-ended s call e ended)))
    (λ running. mine (one_next script (before ++ e ∷ []) at (at_of e) then (still_next v script before s call e next running) same) running)
    (cases_Bool (is_ended_by call (work_of s (at_of e).process ++ e ∷ []))))
    (λ differ. other differ (next-other script before e at differ then) (λ none. some (work-other s call e at.process differ ∙ none)))
    (cases_eq at.process (at_of e).process)
