-- Steps of the plain store, and legal journals.
use Rattle.std.specs.Prelude.{◌≡◌, ℕ, ◌<◌, true, List, [], ◌∷◌, ◌++◌, length, Some}
use Rattle.bd_base.specs.declared.script.Call.{Call}
use Rattle.bd_base.specs.declared.script.Script.{Script}
use Rattle.bd_entry.specs.declared.entry.Entry.{Entry}
use Rattle.bd_entry.specs.Calls.{Place, at_of, call_at, calls_of, is_finished}
use Rattle.bd_entry.specs.Effects.{effect_of}
use Rattle.bd_entry.specs.Rules.{EntryRule, FitsScript, FitsStore, place_in}
use Rattle.bd_entry.specs.Store.{Store}

-- the entry at its place is a step from one store to the next
pub record Step (s : Store) (p : Place) (e : Entry) (t : Store) : Type 0 where
  pub keeps : (rule : EntryRule) → FitsStore s p e rule
  pub after : t ≡ effect_of s p e

-- the journal leads from one store to another, each entry a step of the call that it names
abbrev pub Legal : Script → Store → List Entry → Store → Type 0
Legal script s [] t = s ≡ t
Legal script s (e ∷ journal) t =
    (call : Call) × (next : Store) × (call_at script (at_of e) ≡ Some call)
    × Step s (place_in s call (at_of e)) e next
    × Legal script next journal t

-- each of these entries keeps the rules of the script after the entries before it
abbrev pub InOrderFrom : Script → List Entry → List Entry → Type 0
InOrderFrom script before [] = Unit {0}
InOrderFrom script before (e ∷ journal) =
    ((rule : EntryRule) → FitsScript script before e rule) × InOrderFrom script (before ++ e ∷ []) journal

-- each process's calls come one after the other, each entry fits its call, and nothing is done twice
abbrev pub InOrderSoFar : Script → List Entry → Type 0
InOrderSoFar script journal = InOrderFrom script [] journal

-- and every call is finished
pub record InOrder (script : Script) (journal : List Entry) : Type 0 where
  pub so_far : InOrderSoFar script journal
  pub finished :
      (process call : ℕ) → call < length (calls_of script process) →
      is_finished script journal (record { process = process; call = call }) ≡ true
