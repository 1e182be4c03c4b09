-- The entries of running calls, followed through a journal.
use Rattle.std.proofs.Common.{◌≡◌, ℕ, ◌+◌, ◌<◌, ◌≤◌, cond, List, [], ◌∷◌, ◌++◌, Option, Some, length, map, take, refl, sym, ap, ◌∙◌, subst, arith, inl, inr}
use Rattle.std.specs.Prelude.{slice_get, slice_index_or, slice_set}
use Rattle.std.specs.Option.{option_map_or}
use Rattle.std.proofs.lemmas.List.{take_more}
use Rattle.std.proofs.lemmas.Option.{get_or_from_slice_get, slice_get_cases, slice_get_within}
use Rattle.bd_base.specs.declared.script.Call.{Call}
use Rattle.bd_base.specs.declared.script.Process.{Process}
use Rattle.bd_base.specs.declared.script.Script.{Script}
use Rattle.bd_base.specs.Scripts.{IsWithinLimits}
use Rattle.bd_base.specs.Volumes.{IsSoundVolume}
use Rattle.bd_entry.specs.declared.entry.Entry.{Entry}
use Rattle.bd_entry.specs.Calls.{at_of, call_at, is_ended_by}
use Rattle.bd_entry.specs.Effects.{effect_of}
use Rattle.bd_entry.specs.Rules.{place_in}
use Rattle.bd_base.specs.declared.volume.Volume.{Volume}
use Rattle.bd_entry.specs.Laws.{IsHistory}
use Rattle.bd_entry.specs.Store.{Store, start_store}
use Rattle.bd_entry.proofs.Histories.{history-push}
use Rattle.bd_store.specs.Kept.{Kept, Represents, store_of}
use Rattle.bd_store.specs.Verdicts.{AreFinished, IsTaken}
use Rattle.bd_entry.proofs.CallWork.{effect_of-work}

-- there is an element within a list
pub some_at : {X : Type 0} (xs : List X) (n : ℕ) → n < length xs → (x : X) × (slice_get xs n ≡ Some x)
some_at {X} xs n within =
    elim (slice_get_cases xs n).1 [
      | inl there ↦ (there.0, there.2)
      | inr past ↦ let past_end : length xs ≤ n = past.0 in absurd (omega arith)
    ]

-- one more of a list is taken
pub take-push : {X : Type 0} (xs : List X) (n : ℕ) (x : X) → slice_get xs n ≡ Some x → take (n + 1) xs ≡ take n xs ++ x ∷ []
take-push {X} xs n x is =
    take_more xs n x (slice_get_within xs n x is) ∙ ap (λ (y : X). take n xs ++ y ∷ []) (get_or_from_slice_get xs n x x is)

-- no call has entries
abbrev pub start_work : Script → List (List Entry)
start_work script = map (λ (p : Process). []) script.processes

-- after an entry of a call
abbrev pub work_of_call : List (List Entry) → Entry → Call → List (List Entry)
work_of_call work e call =
    let process = (at_of e).process in
    let entries = slice_index_or work process [] ++ e ∷ [] in
    slice_set work process (cond (is_ended_by call entries) [] entries)

-- after an entry of a script
abbrev pub work_with : Script → List (List Entry) → Entry → List (List Entry)
work_with script work e = option_map_or (work_of_call work e) (call_at script (at_of e)) work

-- after these entries
abbrev pub work_after : Script → List (List Entry) → List Entry → List (List Entry)
work_after script work [] = work
work_after script work (e ∷ entries) = work_after script (work_with script work e) entries

pub work_after-push : (script : Script) (work : List (List Entry)) (before : List Entry) (e : Entry) →
    work_after script work (before ++ e ∷ []) ≡ work_with script (work_after script work before) e
work_after-push script work [] e = refl
work_after-push script work (first ∷ before) e = work_after-push script (work_with script work first) before e

-- the entries that a store keeps of running calls, after an entry
pub effect-work_with : (script : Script) (s : Store) (call : Call) (e : Entry) → call_at script (at_of e) ≡ Some call →
    (effect_of s (place_in s call (at_of e)) e).work ≡ work_with script s.work e
effect-work_with script s call e called =
    effect_of-work s call e ∙ sym (ap (λ (o : Option Call). option_map_or (work_of_call s.work e) o s.work) called)

-- the store to which the entries lead, of which this is kept
abbrev pub led_to : Script → List Entry → Kept → Store
led_to script before k = store_of k (work_after script (start_work script) before)

-- what is kept is what the entries lead to, and so many calls are finished in them
pub record IsFollowed (v : Volume) (script : Script) (before : List Entry) (k : Kept) (finished : List ℕ) : Type 0 where
  pub history : IsHistory v script before (led_to script before k)
  pub kept : Represents k (led_to script before k)
  pub counts : AreFinished script before finished

-- a store that stands for what is kept is the one of its entries
same_store : (s : Store) (k : Kept) (work : List (List Entry)) → Represents k s → s.work ≡ work → s ≡ store_of k work
same_store s k work kept same = kept.store ∙ ap (store_of k) same

-- so it is before the first entry
pub followed_at_start : (v : Volume) (script : Script) (k : Kept) (finished : List ℕ) → IsSoundVolume v → IsWithinLimits script →
    Represents k (start_store v script) → AreFinished script [] finished → IsFollowed v script [] k finished
followed_at_start v script k finished sound limits kept counts =
    let same : start_store v script ≡ led_to script [] k = same_store (start_store v script) k (start_work script) kept refl in
    record {
      history = subst (IsHistory v script []) same (record { sound = sound; limits = limits; legal = refl; in_order = tt });
      kept = subst (Represents k) same kept;
      counts = counts;
    }

-- and after one more that is taken
pub followed-push : (v : Volume) (script : Script) (before : List Entry) (e : Entry) (k next : Kept) (finished more : List ℕ) →
    IsFollowed v script before k finished → IsTaken script before (led_to script before k) e next → AreFinished script (before ++ e ∷ []) more →
    IsFollowed v script (before ++ e ∷ []) next more
followed-push v script before e k next finished more followed taken counts =
    let s = led_to script before k in
    let t = effect_of s (place_in s taken.call (at_of e)) e in
    let work : t.work ≡ work_after script (start_work script) (before ++ e ∷ []) =
    effect-work_with script s taken.call e taken.call_is ∙ sym (work_after-push script (start_work script) before e) in
    let same : t ≡ led_to script (before ++ e ∷ []) next = same_store t next (work_after script (start_work script) (before ++ e ∷ [])) taken.after work in
    record {
      history = subst (IsHistory v script (before ++ e ∷ [])) same
          (history-push v script before s taken.call e
          (record { history = followed.history; call_is = taken.call_is; fits = taken.fits; keeps = taken.keeps }));
      kept = subst (Represents next) same taken.after;
      counts = counts;
    }

-- after one more of a list of entries
pub followed_on : (v : Volume) (script : Script) (entries : List Entry) (number : ℕ) (k next : Kept) (finished more : List ℕ) →
    number < length entries → IsFollowed v script (take number entries) k finished →
    ((e : Entry) → slice_get entries number ≡ Some e → IsTaken script (take number entries) (led_to script (take number entries) k) e next) →
    AreFinished script (take (number + 1) entries) more → IsFollowed v script (take (number + 1) entries) next more
followed_on v script entries number k next finished more within followed taken counts =
    let it = some_at entries number within in
    let longer = take-push entries number it.0 it.1 in
    subst (λ (journal : List Entry). IsFollowed v script journal next more) (sym longer)
    (followed-push v script (take number entries) it.0 k next finished more followed (taken it.0 it.1)
    (subst (λ (journal : List Entry). AreFinished script journal more) longer counts))
