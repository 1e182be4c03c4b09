-- What a whole journal is.
use Rattle.std.specs.Prelude.{◌≡◌, ℕ, ◌<◌, ◌≤◌, true, false, Option, None, Some, List, ◌∷◌, ◌++◌, length, slice_index}
use Rattle.bd_base.specs.declared.journal.At.{At}
use Rattle.bd_base.specs.declared.script.Script.{Script}
use Rattle.bd_base.specs.declared.volume.Volume.{Volume}
use Rattle.bd_entry.specs.declared.entry.Entry.{Entry}
use Rattle.bd_base.specs.declared.script.Call.{Call}
use Rattle.bd_entry.specs.Calls.{at_of, call_at, calls_of, is_finished}
use Rattle.bd_entry.specs.Effects.{effect_of}
use Rattle.bd_entry.specs.History.{InOrder, InOrderSoFar, Legal}
use Rattle.bd_entry.specs.Rules.{BreaksRule, EntryRule, FitsScript, FitsStore, place_in}
use Rattle.bd_entry.specs.Store.{Store, start_store}
use Rattle.bd_store.specs.Kept.{Kept, Represents}

-- the journal is legal from the volume with nothing open, and in order
pub record IsLegalInOrder (v : Volume) (script : Script) (journal : List Entry) : Type 0 where
  pub store : Store
  pub legal : Legal script (start_store v script) journal store
  pub in_order : InOrder script journal

-- the entry of this number is the first that breaks a rule, and the least that it breaks has this number
pub record BreaksFirst (v : Volume) (script : Script) (journal : List Entry) (number rule : ℕ) : Type 0 where
  pub before : List Entry
  pub entry : Entry
  pub after : List Entry
  pub parts : journal ≡ before ++ entry ∷ after
  pub number_is : length before ≡ number
  pub store : Store
  pub legal : Legal script (start_store v script) before store
  pub in_order : InOrderSoFar script before
  pub broken : BreaksRule script before store entry rule

-- each entry keeps all rules, and this call is the first unfinished one, by process and then by call
pub record LacksEndOf (v : Volume) (script : Script) (journal : List Entry) (process call : ℕ) : Type 0 where
  pub store : Store
  pub legal : Legal script (start_store v script) journal store
  pub in_order : InOrderSoFar script journal
  pub there : call < length (calls_of script process)
  pub unfinished : is_finished script journal (record { process = process; call = call }) ≡ false
  pub earlier_calls :
      (earlier : ℕ) → earlier < call → is_finished script journal (record { process = process; call = earlier }) ≡ true
  pub earlier_processes :
      (earlier number : ℕ) → earlier < process → number < length (calls_of script earlier) →
      is_finished script journal (record { process = earlier; call = number }) ≡ true

-- so many calls of each process are finished; this one is the first that is not, none where all are
abbrev pub IsFirstLess : List ℕ → Script → Option At → Type 0
IsFirstLess finished script None =
    (process : ℕ) → process < length script.processes →
    length (calls_of script process) ≤ slice_index finished process
IsFirstLess finished script (Some at) =
    (at.call < length (calls_of script at.process)) × (at.call ≡ slice_index finished at.process)
    × ((earlier : ℕ) → earlier < at.process → length (calls_of script earlier) ≤ slice_index finished earlier)

-- ---- a journal so far

-- so many calls of each process are finished in the journal, and the next one is not
pub record AreFinished (script : Script) (journal : List Entry) (finished : List ℕ) : Type 0 where
  pub count : length finished ≡ length script.processes
  pub done :
      (process call : ℕ) → call < slice_index finished process →
      is_finished script journal (record { process = process; call = call }) ≡ true
  pub next :
      (process : ℕ) →
      is_finished script journal (record { process = process; call = slice_index finished process }) ≡ false

-- the entry keeps all rules after those before it, and this is kept of what it leads to
pub record IsTaken (script : Script) (before : List Entry) (s : Store) (e : Entry) (k : Kept) : Type 0 where
  pub call : Call
  pub call_is : call_at script (at_of e) ≡ Some call
  pub fits : (rule : EntryRule) → FitsScript script before e rule
  pub keeps : (rule : EntryRule) → FitsStore s (place_in s call (at_of e)) e rule
  pub after : Represents k (effect_of s (place_in s call (at_of e)) e)
