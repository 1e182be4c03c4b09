-- Laws of stores, journals and rules: each is the contract of a function of src/laws.rt.
use Rattle.std.specs.Prelude.{◌≡◌, ◌⊎◌, ℕ, ◌↔◌, false, List, [], ◌∷◌, ◌++◌, Some}
use Rattle.bd_base.specs.declared.script.Call.{Call}
use Rattle.bd_base.specs.declared.script.Script.{Script}
use Rattle.bd_base.specs.declared.journal.At.{At}
use Rattle.bd_base.specs.declared.volume.Volume.{Volume}
use Rattle.bd_base.specs.Scripts.{IsCall, IsWithinLimits}
use Rattle.bd_base.specs.Volumes.{IsSoundVolume}
use Rattle.bd_entry.specs.declared.entry.Entry.{Entry}
use Rattle.bd_entry.specs.Calls.{Place, at_of, call_at, entries_of, is_ended_by}
use Rattle.bd_entry.specs.History.{InOrderFrom, InOrderSoFar, Legal, Step}
use Rattle.bd_entry.specs.Ranges.{AreEntries}
use Rattle.bd_entry.specs.Rules.{BreaksRule, EntryRule, FitsScript, FitsStore, KeepsRule, entry_rule_number, place_in}
use Rattle.bd_entry.specs.RulesOfCalls.{IsFirstOfKind, IsNextCall, IsOfCall}
use Rattle.bd_entry.specs.Store.{Store, Valid, start_store, work_of}

-- ---- steps and valid stores

-- each of these entries is one that the call makes after those before it, and none is done twice
abbrev pub AreOfCall : Place → List Entry → Type 0
AreOfCall p [] = Unit {0}
AreOfCall p (e ∷ entries) =
    IsOfCall p e × IsFirstOfKind p.before e × AreOfCall (record p { before = p.before ++ e ∷ [] }) entries

-- the entry is the next one of the running call: it and those before it are of the call, which is not ended by them
pub record IsNextEntry (s : Store) (call : Call) (e : Entry) : Type 0 where
  pub of_call : AreOfCall (record { call = call; at = at_of e; before = [] }) (work_of s (at_of e).process ++ e ∷ [])
  pub unfinished : is_ended_by call (work_of s (at_of e).process) ≡ false

-- a step of a running call within the limits leads from a valid store to a valid one
abbrev pub StepKeepsValid : Type 0
StepKeepsValid =
    (s : Store) (call : Call) (e : Entry) (t : Store) →
    Valid s → IsCall call → IsNextEntry s call e → Step s (place_in s call (at_of e)) e t → Valid t

-- the store that begins with a sound volume is valid
abbrev pub StartIsValid : Type 0
StartIsValid =
    (v : Volume) (script : Script) → IsSoundVolume v → IsWithinLimits script → Valid (start_store v script)

-- a journal that is legal and in order so far, from a sound volume and a script within the limits, leads to this store
pub record IsHistory (v : Volume) (script : Script) (journal : List Entry) (s : Store) : Type 0 where
  pub sound : IsSoundVolume v
  pub limits : IsWithinLimits script
  pub legal : Legal script (start_store v script) journal s
  pub in_order : InOrderSoFar script journal

-- such a journal leads to a valid store
abbrev pub HistoriesKeepValid : Type 0
HistoriesKeepValid =
    (v : Volume) (script : Script) (journal : List Entry) (s : Store) → IsHistory v script journal s → Valid s

-- the entry is the next of such a journal: it is of this call, and keeps every rule at its place
pub record IsNextOf (v : Volume) (script : Script) (before : List Entry) (s : Store) (call : Call)
    (e : Entry) : Type 0 where
  pub history : IsHistory v script before s
  pub call_is : call_at script (at_of e) ≡ Some call
  pub fits : (rule : EntryRule) → FitsScript script before e rule
  pub keeps : (rule : EntryRule) → FitsStore s (place_in s call (at_of e)) e rule

-- the entries that the store keeps of a process's running call are those that the journal has of it
abbrev pub WorkIsOfRunningCall : Type 0
WorkIsOfRunningCall =
    (v : Volume) (script : Script) (journal : List Entry) (s : Store) (at : At) →
    IsHistory v script journal s → IsNextCall script journal at → work_of s at.process ≡ entries_of at journal

-- every entry of such a journal is that of a line, so what is printed of it can be read again
abbrev pub HistoriesHaveReadings : Type 0
HistoriesHaveReadings =
    (v : Volume) (script : Script) (journal : List Entry) (s : Store) → IsHistory v script journal s →
    AreEntries journal

-- ---- journals in parts

-- a journal in two parts leads where the first part and then the second lead
abbrev pub LegalInParts : Type 0
LegalInParts =
    (script : Script) (front back : List Entry) (s t : Store) →
    Legal script s (front ++ back) t ↔ ((middle : Store) × Legal script s front middle × Legal script middle back t)

-- a journal in two parts is in order where the first part is, and the second after it
abbrev pub InOrderInParts : Type 0
InOrderInParts =
    (script : Script) (before front back : List Entry) →
    InOrderFrom script before (front ++ back) ↔
    (InOrderFrom script before front × InOrderFrom script (before ++ front) back)

-- a legal journal leads to one store only
abbrev pub LeadsToOneStore : Type 0
LeadsToOneStore =
    (script : Script) (s : Store) (journal : List Entry) (t u : Store) →
    Legal script s journal t → Legal script s journal u → t ≡ u

-- ---- rules by their numbers

-- no two rules have one number
abbrev pub NumbersDiffer : Type 0
NumbersDiffer = (p q : EntryRule) → entry_rule_number p ≡ entry_rule_number q → p ≡ q

-- an entry at its place has one least broken rule at most
abbrev pub OneLeastRule : Type 0
OneLeastRule =
    (script : Script) (before : List Entry) (s : Store) (e : Entry) (m n : ℕ) →
    BreaksRule script before s e m → BreaksRule script before s e n → m ≡ n

-- an entry at its place keeps all rules, or breaks a least one
abbrev pub KeepsOrBreaks : Type 0
KeepsOrBreaks =
    (script : Script) (before : List Entry) (s : Store) (e : Entry) →
    ((rule : EntryRule) → KeepsRule script before s e rule)
    ⊎ ((number : ℕ) × BreaksRule script before s e number)
