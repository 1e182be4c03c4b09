-- The next entry of a journal as it is taken: the entries with it, and whether its call is then finished.
use Rattle.std.proofs.Common.{◌≡◌, ◌≢◌, ◌↔◌, ℕ, ◌+◌, ◌^◌, ◌<◌, ◌≤◌, Bool, true, false, cond, not, List, [], ◌∷◌, ◌++◌, Option, None, Some, length, get_or, refl, sym, ap, ◌∙◌, arith, inl, inr, Bor}
use Rattle.std.specs.Prelude.{nat_lt, slice_get, slice_index, slice_index_or, slice_set}
use Rattle.std.specs.Option.{option_copied}
use Rattle.std.proofs.lemmas.Bool.{both_ways, lt-ltb}
use Rattle.std.proofs.lemmas.List.{get_or-set_same, get_or_read, length_push}
use Rattle.std.proofs.lemmas.Option.{get_or_from_slice_get, none-some, slice_get-get_or, slice_get_cases}
use Rattle.std.proofs.Math.Bool.{not-not}
use Rattle.bd_base.specs.declared.script.Call.{Call}
use Rattle.bd_base.specs.declared.script.Script.{Script}
use Rattle.bd_base.specs.declared.journal.At.{At}
use Rattle.bd_base.specs.declared.volume.Volume.{Volume}
use Rattle.bd_base.specs.Scripts.{IsCall, IsWithinLimits}
use Rattle.bd_entry.specs.declared.entry.Entry.{Entry}
use Rattle.bd_entry.specs.Calls.{at_of, call_at, calls_of, entries_of, is_ended_by, is_finished}
use Rattle.bd_entry.specs.Effects.{effect_of}
use Rattle.bd_entry.specs.Laws.{IsHistory, IsNextEntry}
use Rattle.bd_entry.specs.Rules.{BreaksRule, EntryRule, FitsScript, FitsStore, place_in}
use Rattle.bd_entry.specs.RulesOfCalls.{IsFirstOfKind, IsNextCall, IsOfCall}
use Rattle.bd_entry.specs.Store.{Store, work_of}
use Rattle.bd_entry.proofs.CallOrder.{entries_of-joined, is_finished-called, same_self}
use Rattle.bd_entry.proofs.CallWork.{effect_of-work}
use Rattle.bd_entry.proofs.HistoryLaws.{IsLed, history_leads, is_call, led-push, next_entry, process_there}
use Rattle.bd_entry.proofs.RangesOfEntries.{few_calls}
use Rattle.bd_store.specs.Kept.{BreaksAt, Kept, Represents, marks_at}
use Rattle.bd_kernel.specs.Marks.{AreMarksOf, Marks}
use Rattle.bd_store.specs.Verdicts.{AreFinished, IsTaken}
use Rattle.bd_store.proofs.NextEntries.{breaks_call, breaks_next, breaks_once, breaks_store, finished-ended, finished-next, finished-other, finished-running, fits_script, next-marks, user_there}

-- there are entries of a call unless it is ended
some_unless : (ended : Bool) (before : List Entry) (e : Entry) → nat_lt 0 (length (cond ended [] (before ++ e ∷ []))) ≡ not ended
some_unless true before e = refl
some_unless false before e = lt-ltb 0 (length (before ++ e ∷ [])) (omega (arith, length_push before e))

-- an entry ends its call where that has no entries after it
pub finished-told : (script : Script) (before : List Entry) (s : Store) (e : Entry) (call : Call) (k : Kept) → IsLed script before s →
    call_at script (at_of e) ≡ Some call → IsNextCall script before (at_of e) → Represents k (effect_of s (place_in s call (at_of e)) e) →
    is_finished script (before ++ e ∷ []) (at_of e) ≡ not (marks_at k (at_of e).process).begun
finished-told script before s e call k led called next after =
    let process = (at_of e).process in
    let entries = work_of s process ++ e ∷ [] in
    let ended = is_ended_by call entries in
    let there : process < length script.processes = process_there script (at_of e) call called in
    let rows : length s.work ≡ length script.processes = led.rows in
    let row : slice_index_or (effect_of s (place_in s call (at_of e)) e).work process [] ≡ cond ended [] entries =
    ap (λ (work : List (List Entry)). slice_index_or work process []) (effect_of-work s call e)
    ∙ get_or-set_same s.work process (cond ended [] entries) [] (omega arith) in
    let begun : (marks_at k process).begun ≡ not ended =
    (after.marked process).begun ∙ ap (λ (es : List Entry). nat_lt 0 (length es)) row ∙ some_unless ended (work_of s process) e in
    let joined : entries_of (at_of e) (before ++ e ∷ []) ≡ entries =
    entries_of-joined before e (at_of e) (same_self (at_of e)) ∙ ap (λ (es : List Entry). es ++ e ∷ []) (sym (led.running (at_of e) next)) in
    is_finished-called script (before ++ e ∷ []) (at_of e) call called ∙ ap (is_ended_by call) joined ∙ sym (not-not ended) ∙ ap not (sym begun)

-- an element that was read is that of its index
pub read-at : {X : Type 0} (xs : List X) (n : ℕ) (read x : X) → read ≡ get_or xs n read → slice_get xs n ≡ Some x → read ≡ x
read-at xs n read x is there = is ∙ get_or_from_slice_get xs n x read there

pub read-there : {X : Type 0} (xs : List X) (n : ℕ) (read : X) → n < length xs → read ≡ get_or xs n read → slice_get xs n ≡ Some read
read-there {X} xs n read within is = slice_get-get_or xs n read within ∙ ap (λ (x : X). Some x) (sym is)

-- the call that was found
pub called-from : (script : Script) (at mine : At) (found : Option (Bor Call)) (call : Bor Call) → at ≡ mine → option_copied found ≡ call_at script at →
    found ≡ Some call → call_at script mine ≡ Some call.now
called-from script at mine found call same is some = ap (call_at script) (sym same) ∙ sym is ∙ ap option_copied some

-- the number that was read is how many calls of the process are finished
pub read-finished : (finished : List ℕ) (at mine : At) (index read : ℕ) → at ≡ mine → index ≡ at.process → mine.process < length finished →
    read ≡ get_or finished index read → read ≡ slice_index finished mine.process
read-finished finished at mine index read same is there value =
    let here : index ≡ mine.process = is ∙ ap (λ (a : At). a.process) same in
    let within : index < length finished = omega arith in
    get_or_read finished index read within value 0 ∙ ap (slice_index finished) here

-- the entries before lead to a store, of which this is kept, and so many calls are finished in them
pub record IsSoFar (script : Script) (before : List Entry) (s : Store) (k : Kept) (finished : List ℕ) : Type 0 where
  pub limits : IsWithinLimits script
  pub history : (v : Volume) × IsHistory v script before s
  pub kept : Represents k s
  pub counts : AreFinished script before finished

module _ (script : Script) (before : List Entry) (s : Store) (k : Kept) (finished : List ℕ) (e : Entry) (so : IsSoFar script before s k finished) where
  led : IsLed script before s
  led = history_leads so.history.0 script before s so.history.1

  -- there is no such call
  pub breaks_none : call_at script (at_of e) ≡ None → BreaksRule script before s e 1
  breaks_none none =
      breaks_next script before s e
      (λ next.
      elim (slice_get_cases (calls_of script (at_of e).process) (at_of e).call).1 [
        | inl there ↦ none-some there.0 (sym none ∙ there.2)
        | inr past ↦ let past : length (calls_of script (at_of e).process) ≤ (at_of e).call = past.0 in omega (arith, next.in_script)
      ])

  module _ (call : Call) (called : call_at script (at_of e) ≡ Some call) where
    pub process_counted : (at_of e).process < length finished
    process_counted = omega (arith, process_there script (at_of e) call called, so.counts.count)

    pub user_kept : (at_of e).process < length k.uids
    user_kept = user_there script before s k (at_of e) call led so.kept called

    pub call_within : IsCall call
    call_within = is_call script (at_of e) call so.limits called

    -- it is another call than the next one
    pub breaks_other : (at_of e).call ≢ slice_index finished (at_of e).process → BreaksRule script before s e 1
    breaks_other differ = breaks_next script before s e (finished-other script before finished so.counts (at_of e) differ)

    module _ (same : (at_of e).call ≡ slice_index finished (at_of e).process) where
      next : IsNextCall script before (at_of e)
      next = finished-next script before finished so.counts (at_of e) call called same

      -- so the number of finished calls can grow
      pub counts_on : slice_index finished (at_of e).process + 1 < 2 ^ 16
      counts_on = omega (arith, next.in_script, few_calls script so.limits (at_of e).process)

      module _ (m : Marks) (is : m ≡ marks_at k (at_of e).process) where
        marked : AreMarksOf m (entries_of (at_of e) before)
        marked = next-marks script before s k (at_of e) m led so.kept next is

        -- it does not fit its call
        pub breaks_fields : (answer : Bool) →
            ((entries : List Entry) → AreMarksOf m entries → (answer ≡ true) ↔ IsOfCall (record { call = call; at = at_of e; before = entries }) e) →
            answer ≡ false → BreaksRule script before s e 2
        breaks_fields answer tells denied =
            breaks_call script before s e call called next
            (λ of_call. both_ways answer denied ((tells (entries_of (at_of e) before) marked).1 of_call))

        module _ (fits : Bool)
            (tells : (entries : List Entry) → AreMarksOf m entries → (fits ≡ true) ↔ IsOfCall (record { call = call; at = at_of e; before = entries }) e)
            (yes : fits ≡ true) where
          of_call : IsOfCall (record { call = call; at = at_of e; before = entries_of (at_of e) before }) e
          of_call = (tells (entries_of (at_of e) before) marked).0 yes

          -- something is done twice
          pub breaks_first_of_kind : (answer : Bool) →
              ((entries : List Entry) → AreMarksOf m entries → (answer ≡ true) ↔ IsFirstOfKind entries e) → answer ≡ false → BreaksRule script before s e 3
          breaks_first_of_kind answer first denied =
              breaks_once script before s e call called next of_call
              (λ is_first. both_ways answer denied ((first (entries_of (at_of e) before) marked).1 is_first))

          module _ (once : Bool) (first : (entries : List Entry) → AreMarksOf m entries → (once ≡ true) ↔ IsFirstOfKind entries e)
              (is_first : once ≡ true) where
            fits_all : (rule : EntryRule) → FitsScript script before e rule
            fits_all = fits_script script before s e call called next of_call ((first (entries_of (at_of e) before) marked).0 is_first)

            -- so it is the next one of its running call
            pub is_next : IsNextEntry s call e
            is_next = next_entry script before s call e led fits_all called

            -- the least rule that it breaks in the store is the least of all
            pub breaks_in_store : (number : ℕ) → BreaksAt s (place_in s call (at_of e)) e number → BreaksRule script before s e number
            breaks_in_store = breaks_store script before s e call called next of_call ((first (entries_of (at_of e) before) marked).0 is_first)

            module _ (k2 : Kept) (keeps : (rule : EntryRule) → FitsStore s (place_in s call (at_of e)) e rule)
                (after : Represents k2 (effect_of s (place_in s call (at_of e)) e)) where
              pub is_taken : IsTaken script before s e k2
              is_taken = record { call = call; call_is = called; fits = fits_all; keeps = keeps; after = after }

              -- its process still has a user
              pub user_stays : (at_of e).process < length k2.uids
              user_stays =
                  let t = effect_of s (place_in s call (at_of e)) e in
                  user_there script (before ++ e ∷ []) t k2 (at_of e) call
                  (led-push script before s call e t so.limits led fits_all called (record { keeps = keeps; after = refl })) after called

              told : is_finished script (before ++ e ∷ []) (at_of e) ≡ not (marks_at k2 (at_of e).process).begun
              told = finished-told script before s e call k2 led called next after

              -- the call runs on, and as many are finished as before
              pub counts-running : (marks_at k2 (at_of e).process).begun ≡ true → AreFinished script (before ++ e ∷ []) finished
              counts-running begun = finished-running script before finished so.counts e next same (told ∙ ap not begun)

              -- or it has ended, and one more is finished
              pub counts-ended : (marks_at k2 (at_of e).process).begun ≡ false →
                  AreFinished script (before ++ e ∷ [])
                  (slice_set finished (at_of e).process (slice_index finished (at_of e).process + 1))
              counts-ended ended = finished-ended script before finished so.counts e next same so.limits led.ordered process_counted (told ∙ ap not ended)
