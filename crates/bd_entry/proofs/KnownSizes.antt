-- What a process knows of a descriptor is what the descriptor was told as a call ended.
use Rattle.std.proofs.Common.{◌≡◌, ◌≢◌, ℕ, zero, suc, Bool, false, List, [], ◌∷◌, ◌++◌, map, Option, None, Some, ◌⊎◌, inl, inr, refl, sym, ap, ◌∙◌, subst, ⊎_elim}
use Rattle.std.specs.Prelude.{replicate, slice_index_or}
use Rattle.std.specs.Option.{option_map}
use Rattle.std.proofs.lemmas.Bool.{cases_Bool, cases_eq}
use Rattle.std.proofs.lemmas.Option.{none-some, same_Some}
use Rattle.bd_base.specs.declared.limits.TheConstants.{DESCRIPTORS}
use Rattle.bd_base.specs.declared.script.Call.{Call}
use Rattle.bd_base.specs.declared.script.Process.{Process}
use Rattle.bd_base.specs.declared.script.Script.{Script}
use Rattle.bd_base.specs.declared.volume.Volume.{Volume}
use Rattle.bd_base.specs.declared.journal.At.{At}
use Rattle.bd_entry.specs.declared.entry.Entry.{Entry}
use Rattle.bd_entry.specs.Calls.{at_of, call_at, fd_of_call, is_ended_by}
use Rattle.bd_entry.specs.Effects.{after_call, after_change, after_telling, effect_of, tells_size, with_known_size, with_told_size}
use Rattle.bd_entry.specs.Laws.{IsNextOf}
use Rattle.bd_entry.specs.Promises.{KnownChangesAtEnd, KnownIsTold}
use Rattle.bd_entry.specs.Rules.{IsOpen, NextCall, place_in}
use Rattle.bd_entry.specs.RulesOfCalls.{IsNextCall}
use Rattle.bd_entry.specs.Store.{Descriptor, Store, descriptor_at, in_slot, start_store, work_of}
use Rattle.bd_entry.proofs.Accesses.{work-is_of_call}
use Rattle.bd_entry.proofs.HistoryLaws.{work_is_of_running_call}
use Rattle.bd_entry.proofs.CallOrder.{entries_of-joined, next-other, same_self}
use Rattle.bd_entry.proofs.CallEntries.{fd_of_call-append}
use Rattle.bd_entry.proofs.Descriptors.{changed_slot}
use Rattle.bd_entry.proofs.DescriptorSteps.{Becomes, Keeps, after_call-cases, after_call-ended, after_change-becomes, after_telling-cases}
use Rattle.bd_entry.proofs.Histories.{history-push, history_holds}
use Rattle.bd_entry.proofs.RunningCalls.{one_next, still_next, work-other}

-- ---- what changes at the end of a call

-- an open descriptor that an entry left open kept what is known of it
known_by_change : (e : Entry) (process : ℕ) (old slot : Option Descriptor) (d new : Descriptor) → Becomes e process old slot → old ≡ Some d
    → slot ≡ Some new →
    new.known ≡ d.known
known_by_change e process old slot d new becomes is_old is_new =
    ⊎_elim
    (λ same.
    let is : same.0 d ≡ new = same_Some (same.0 d) new (sym (same.2 ∙ ap (option_map same.0) is_old) ∙ is_new) in
    ap (λ (x : Descriptor). x.known) (sym is) ∙ (same.1 d).known)
    (λ others.
    ⊎_elim
    (λ fresh. absurd (none-some d (sym fresh.0 ∙ is_old)))
    (λ gone. absurd (none-some new (sym gone.2 ∙ is_new)))
    others)
    becomes

pub known_changes_at_end : KnownChangesAtEnd
known_changes_at_end v script before s call e process fd d new next is_old is_new =
    let p = (at_of e).process in
    let entries = work_of s p ++ e ∷ [] in
    let of = fd_of_call call entries in
    let changed = after_change s e in
    let told = after_telling (tells_size e) changed p of in
    let becomes = after_change-becomes s call e (next.keeps IsOpen) process fd in
    ⊎_elim
    (λ same_end.
    let was_told : descriptor_at told process fd ≡ Some new = sym same_end ∙ is_new in
    inl (⊎_elim
    (λ same.
    known_by_change e process (descriptor_at s process fd) (descriptor_at changed process fd) d new becomes is_old (sym same ∙ was_told))
    (λ tells.
    let from = changed_slot (with_told_size changed) (descriptor_at changed process fd) new (sym tells.2 ∙ was_told) in
    ap (λ (x : Descriptor). x.known) (sym from.2)
    ∙ known_by_change e process (descriptor_at s process fd) (descriptor_at changed process fd) d from.0 becomes is_old from.1)
    (after_telling-cases (tells_size e) changed p of process fd)))
    (λ ended.
    let from = changed_slot with_known_size (descriptor_at told process fd) new (sym ended.3 ∙ is_new) in
    inr (
      record { of_process = ended.0; of_descriptor = ended.1; ends = ended.2 },
      ap (λ (x : Descriptor). x.known) (sym from.2) ∙ ap (λ (x : Descriptor). x.told) from.2,
    ))
    (after_call-cases (is_ended_by call entries) told p of entries process fd)

-- ---- between calls

-- whether an option is this number
cases_some : (o : Option ℕ) (n : ℕ) → (o ≡ Some n) ⊎ (o ≢ Some n)
cases_some None n = inr (λ same. none-some n same)
cases_some (Some m) n = ⊎_elim (λ same. inl (ap Some same)) (λ other. inr (λ same. other (same_Some m n same))) (cases_eq m n)

-- the descriptor is the one of its process's running call
record IsRunningBy (script : Script) (before : List Entry) (s : Store) (process fd : ℕ) : Type 0 where
  pub some : work_of s process ≢ []
  pub by : (at : At) (call : Call) → at.process ≡ process → IsNextCall script before at → call_at script at ≡ Some call →
      fd_of_call call (work_of s process) ≡ Some fd

-- what is known of each descriptor is what it was told, but for that of a running call
record KnowsWhatTold (script : Script) (before : List Entry) (s : Store) : Type 0 where
  pub known : (process fd : ℕ) (d : Descriptor) → descriptor_at s process fd ≡ Some d → (d.known ≡ d.told) ⊎ IsRunningBy script before s process fd

-- the entries of a call that goes on are those before, and the new one
pub work-grown : (v : Volume) (script : Script) (before : List Entry) (s : Store) (call : Call) (e : Entry) → IsNextOf v script before s call e →
    is_ended_by call (work_of s (at_of e).process ++ e ∷ []) ≡ false →
    work_of (effect_of s (place_in s call (at_of e)) e) (at_of e).process ≡ work_of s (at_of e).process ++ e ∷ []
work-grown v script before s call e next running =
    work_is_of_running_call v script (before ++ e ∷ []) (effect_of s (place_in s call (at_of e)) e) (at_of e) (history-push v script before s call e next)
    (still_next v script before s call e next running)
    ∙ entries_of-joined before e (at_of e) (same_self (at_of e))
    ∙ ap (λ (entries : List Entry). entries ++ e ∷ []) (sym (work-is_of_call v script before s call e next))

-- a list with an element at its end is not empty
some_at_end : (entries : List Entry) (e : Entry) → entries ++ e ∷ [] ≢ []
some_at_end [] e none = let no : e ∷ [] ≡ [] = none in cc
some_at_end (x ∷ entries) e none = let no : x ∷ (entries ++ e ∷ []) ≡ [] = none in cc

-- the descriptor of the call knows what it was told as the call ends
known-mine : (v : Volume) (script : Script) (before : List Entry) (s : Store) (call : Call) (e : Entry) → IsNextOf v script before s call e →
    (fd : ℕ) (new : Descriptor) → descriptor_at (effect_of s (place_in s call (at_of e)) e) (at_of e).process fd ≡ Some new →
    fd_of_call call (work_of s (at_of e).process ++ e ∷ []) ≡ Some fd →
    (new.known ≡ new.told) ⊎ IsRunningBy script (before ++ e ∷ []) (effect_of s (place_in s call (at_of e)) e) (at_of e).process fd
known-mine v script before s call e next fd new is_new is_mine =
    let p = (at_of e).process in
    let entries = work_of s p ++ e ∷ [] in
    let of = fd_of_call call entries in
    let told = after_telling (tells_size e) (after_change s e) p of in
    let t = effect_of s (place_in s call (at_of e)) e in
    ⊎_elim
    (λ ended.
    let slot : descriptor_at t p fd ≡ option_map with_known_size (descriptor_at told p fd) =
    ap (λ (ends : Bool). descriptor_at (after_call ends told p of entries) p fd) ended ∙ after_call-ended told p fd of entries is_mine in
    let from = changed_slot with_known_size (descriptor_at told p fd) new (sym slot ∙ is_new) in
    inl (ap (λ (x : Descriptor). x.known) (sym from.2) ∙ ap (λ (x : Descriptor). x.told) from.2))
    (λ running.
    let work : work_of t p ≡ entries = work-grown v script before s call e next running in
    inr (record {
      some = λ none. some_at_end (work_of s p) e (sym work ∙ none);
      by = λ at other same then called.
          let mine : at ≡ at_of e = one_next script (before ++ e ∷ []) at (at_of e) then (still_next v script before s call e next running) same in
          let one : call ≡ other = same_Some call other (sym next.call_is ∙ ap (call_at script) (sym mine) ∙ called) in
          ap (λ (c : Call). fd_of_call c (work_of t p)) (sym one) ∙ ap (fd_of_call call) work ∙ is_mine;
    }))
    (cases_Bool (is_ended_by call entries))

-- another descriptor keeps what is known of it and what it was told
known-other : (v : Volume) (script : Script) (before : List Entry) (s : Store) (call : Call) (e : Entry) → IsNextOf v script before s call e →
    KnowsWhatTold script before s → (process fd : ℕ) (new : Descriptor) →
    descriptor_at (effect_of s (place_in s call (at_of e)) e) process fd ≡ Some new →
    (process ≡ (at_of e).process → fd_of_call call (work_of s (at_of e).process ++ e ∷ []) ≡ Some fd → ⊥) →
    (new.known ≡ new.told) ⊎ IsRunningBy script (before ++ e ∷ []) (effect_of s (place_in s call (at_of e)) e) process fd
known-other v script before s call e next holds process fd new is_new not_mine =
    let p = (at_of e).process in
    let entries = work_of s p ++ e ∷ [] in
    let of = fd_of_call call entries in
    let changed = after_change s e in
    let told = after_telling (tells_size e) changed p of in
    let t = effect_of s (place_in s call (at_of e)) e in
    let at_end : descriptor_at t process fd ≡ descriptor_at told process fd =
    ⊎_elim (λ same. same) (λ ended. absurd (not_mine ended.0 ended.1)) (after_call-cases (is_ended_by call entries) told p of entries process fd) in
    let at_telling : descriptor_at told process fd ≡ descriptor_at changed process fd =
    ⊎_elim (λ same. same) (λ tells. absurd (not_mine tells.0 tells.1)) (after_telling-cases (tells_size e) changed p of process fd) in
    let slot : descriptor_at changed process fd ≡ Some new = sym (at_end ∙ at_telling) ∙ is_new in
    ⊎_elim
    (λ same.
    let from = changed_slot same.0 (descriptor_at s process fd) new (sym same.2 ∙ slot) in
    let kept : Keeps from.0 new = subst (Keeps from.0) from.2 (same.1 from.0) in
    ⊎_elim
    (λ known. inl (kept.known ∙ known ∙ sym kept.told))
    (λ running.
    inr (⊎_elim
    (λ mine.
    absurd (not_mine mine
    (fd_of_call-append call (work_of s p) (e ∷ []) fd
    (ap (λ (n : ℕ). fd_of_call call (work_of s n)) (sym mine) ∙ running.by (at_of e) call (sym mine) (next.fits NextCall) next.call_is))))
    (λ differ.
    let work : work_of t process ≡ work_of s process = work-other s call e process differ in
    record {
      some = λ none. running.some (sym work ∙ none);
      by = λ at other same_process then called.
          ap (fd_of_call other) work
          ∙ running.by at other same_process (next-other script before e at (λ mine. differ (sym same_process ∙ mine)) then) called;
    })
    (cases_eq process p)))
    (holds.known process fd from.0 from.1))
    (λ others.
    ⊎_elim
    (λ fresh.
    let is : fresh.1.0 ≡ new = same_Some fresh.1.0 new (sym fresh.1.1 ∙ slot) in
    inl (subst (λ (x : Descriptor). x.known ≡ x.told) is fresh.1.2))
    (λ gone. absurd (none-some new (sym gone.2 ∙ slot)))
    others)
    (after_change-becomes s call e (next.keeps IsOpen) process fd)

known-push : (v : Volume) (script : Script) (before : List Entry) (s : Store) (call : Call) (e : Entry) → IsNextOf v script before s call e →
    KnowsWhatTold script before s → KnowsWhatTold script (before ++ e ∷ []) (effect_of s (place_in s call (at_of e)) e)
known-push v script before s call e next holds = record {
  known = λ process fd new is_new.
      let p = (at_of e).process in
      let t = effect_of s (place_in s call (at_of e)) e in
      let of = fd_of_call call (work_of s p ++ e ∷ []) in
      ⊎_elim
      (λ same.
      ⊎_elim
      (λ mine.
      subst (λ (n : ℕ). (new.known ≡ new.told) ⊎ IsRunningBy script (before ++ e ∷ []) t n fd) (sym same)
      (known-mine v script before s call e next fd new (ap (λ (n : ℕ). descriptor_at t n fd) (sym same) ∙ is_new) mine))
      (λ not_mine. known-other v script before s call e next holds process fd new is_new (λ here. not_mine))
      (cases_some of fd))
      (λ differ. known-other v script before s call e next holds process fd new is_new (λ here mine. differ here))
      (cases_eq process p);
}

-- nothing is open at the start
none_in_row : (n fd : ℕ) → in_slot {X = Descriptor} (replicate n None) fd ≡ None
none_in_row zero fd = refl
none_in_row (suc n) zero = refl
none_in_row (suc n) (suc fd) = none_in_row n fd

pub none_open_at_start : (v : Volume) (script : Script) (process fd : ℕ) → descriptor_at (start_store v script) process fd ≡ None
none_open_at_start v script process fd = none script.processes process
  where
    none : (processes : List Process) (process : ℕ) →
        let row : Process → List (Option Descriptor) = λ p. replicate DESCRIPTORS None in
        in_slot (slice_index_or (map row processes) process []) fd ≡ None
    none [] process = refl
    none (p ∷ processes) zero = none_in_row DESCRIPTORS fd
    none (p ∷ processes) (suc process) = none processes process

pub known_is_told : KnownIsTold
known_is_told v script journal s process fd d history none is =
    let holds : KnowsWhatTold script journal s =
    history_holds v script (KnowsWhatTold script)
    (record { known = λ process fd d is. absurd (none-some d (sym (none_open_at_start v script process fd) ∙ is)) })
    (known-push v script) journal s history in
    ⊎_elim (λ known. known) (λ running. absurd (running.some none)) (holds.known process fd d is)
