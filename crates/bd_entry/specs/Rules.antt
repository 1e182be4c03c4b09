-- When an entry is legal: thirteen rules, in their order. The first three look at the script and at the entries before
-- it, the others at the store.
use Rattle.std.specs.Prelude.{ℕ, List, IfSome}
use Rattle.bd_base.specs.declared.script.Call.{Call}
use Rattle.bd_base.specs.declared.script.Script.{Script}
use Rattle.bd_base.specs.declared.journal.At.{At}
use Rattle.bd_base.specs.Rules.{IsLeastBroken}
use Rattle.bd_entry.specs.declared.entry.Entry.{Entry}
use Rattle.bd_entry.specs.Calls.{Place, at_of, call_at, entries_of}
use Rattle.bd_entry.specs.Store.{Store, work_of}
use Rattle.bd_entry.specs.RulesOfCalls.{IsFirstOfKind, IsNextCall, IsOfCall}
use Rattle.bd_entry.specs.RulesOfRights.{HasNoPlain, HasRightDescriptor, HasRightFile, HasRightWay, HasRights, IsAllowed}
use Rattle.bd_entry.specs.RulesOfContents.{HasRightBlock, HasRightBytes, HasRightReason, IsWithinLimit}

-- the rules by what each is about
pub data EntryRule : Type 0 where
  NextCall : EntryRule
  FitsCall : EntryRule
  Once : EntryRule
  RightWay : EntryRule
  IsOpen : EntryRule
  RightFile : EntryRule
  Allowed : EntryRule
  Rights : EntryRule
  NoPlain : EntryRule
  RightBlock : EntryRule
  WithinLimit : EntryRule
  RightBytes : EntryRule
  NotRefused : EntryRule

-- the number of a rule, as it is told
abbrev pub entry_rule_number : EntryRule → ℕ
entry_rule_number NextCall = 1
entry_rule_number FitsCall = 2
entry_rule_number Once = 3
entry_rule_number RightWay = 4
entry_rule_number IsOpen = 5
entry_rule_number RightFile = 6
entry_rule_number Allowed = 7
entry_rule_number Rights = 8
entry_rule_number NoPlain = 9
entry_rule_number RightBlock = 10
entry_rule_number WithinLimit = 11
entry_rule_number RightBytes = 12
entry_rule_number NotRefused = 13

-- ---- all rules

-- the place of a process's next entry: its running call, and the entries of it that the store keeps
abbrev pub place_in : Store → Call → At → Place
place_in s call at = record { call = call; at = at; before = work_of s at.process }

-- the entry keeps the rule, as far as the script and the journal before it tell
abbrev pub FitsScript : Script → List Entry → Entry → EntryRule → Type 0
FitsScript script before e NextCall = IsNextCall script before (at_of e)
FitsScript script before e FitsCall =
    IfSome (call_at script (at_of e))
    (λ call. IsOfCall (record { call = call; at = at_of e; before = entries_of (at_of e) before }) e)
FitsScript script before e Once = IsFirstOfKind (entries_of (at_of e) before) e
FitsScript script before e rule = Unit {0}

-- the entry keeps the rule, as far as the store and its place tell
abbrev pub FitsStore : Store → Place → Entry → EntryRule → Type 0
FitsStore s p e NextCall = Unit {0}
FitsStore s p e FitsCall = Unit {0}
FitsStore s p e Once = Unit {0}
FitsStore s p e RightWay = HasRightWay s p e
FitsStore s p e IsOpen = HasRightDescriptor s p e
FitsStore s p e RightFile = HasRightFile s p e
FitsStore s p e Allowed = IsAllowed s p e
FitsStore s p e Rights = HasRights s p e
FitsStore s p e NoPlain = HasNoPlain s p e
FitsStore s p e RightBlock = HasRightBlock s p e
FitsStore s p e WithinLimit = IsWithinLimit s p e
FitsStore s p e RightBytes = HasRightBytes s p e
FitsStore s p e NotRefused = HasRightReason s p e

-- the entry keeps the rule at its place
abbrev pub KeepsRule : Script → List Entry → Store → Entry → EntryRule → Type 0
KeepsRule script before s e rule =
    FitsScript script before e rule
    × IfSome (call_at script (at_of e)) (λ call. FitsStore s (place_in s call (at_of e)) e rule)

-- of the rules that the entry breaks at its place, the least is the one of this number
abbrev pub BreaksRule : Script → List Entry → Store → Entry → ℕ → Type 0
BreaksRule script before s e =
    IsLeastBroken EntryRule entry_rule_number (KeepsRule script before s e)
    (λ rule. ¬ KeepsRule script before s e rule)
