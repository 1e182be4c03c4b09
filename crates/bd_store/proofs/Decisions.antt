-- The least of the rules of the store that an entry breaks, found rule by rule.
use Rattle.std.proofs.Common.{◌≡◌, ℕ, ◌+◌, ◌<◌, Bool, true, false, ◌↔◌, refl, sym, ◌∙◌, subst, arith, inl, inr}
use Rattle.std.proofs.lemmas.Bool.{cases_eq, true≢false}
use Rattle.bd_entry.specs.declared.entry.Entry.{Entry}
use Rattle.bd_entry.specs.Calls.{Place}
use Rattle.bd_entry.specs.Rules.{Allowed, EntryRule, FitsCall, FitsStore, IsOpen, NextCall, NoPlain, NotRefused, Once, RightBlock, RightBytes, RightFile, RightWay, Rights, WithinLimit, entry_rule_number}
use Rattle.bd_entry.specs.Store.{Store}
use Rattle.bd_entry.proofs.RuleLaws.{numbers_differ}
use Rattle.bd_store.specs.Kept.{BreaksAt}

-- the rules of lesser numbers are kept
abbrev pub KeptTo : Store → Place → Entry → ℕ → Type 0
KeptTo s p e number = (other : EntryRule) → entry_rule_number other < number → FitsStore s p e other

-- those that look at the script ask nothing of the store
pub kept_first : (s : Store) (p : Place) (e : Entry) → KeptTo s p e 4
kept_first s p e NextCall less = tt
kept_first s p e FitsCall less = tt
kept_first s p e Once less = tt
kept_first s p e RightWay less = absurd (omega arith)
kept_first s p e IsOpen less = absurd (omega arith)
kept_first s p e RightFile less = absurd (omega arith)
kept_first s p e Allowed less = absurd (omega arith)
kept_first s p e Rights less = absurd (omega arith)
kept_first s p e NoPlain less = absurd (omega arith)
kept_first s p e RightBlock less = absurd (omega arith)
kept_first s p e WithinLimit less = absurd (omega arith)
kept_first s p e RightBytes less = absurd (omega arith)
kept_first s p e NotRefused less = absurd (omega arith)

pub kept_more : (s : Store) (p : Place) (e : Entry) (rule : EntryRule) → KeptTo s p e (entry_rule_number rule) → FitsStore s p e rule →
    KeptTo s p e (entry_rule_number rule + 1)
kept_more s p e rule kept here other less =
    elim (cases_eq (entry_rule_number other) (entry_rule_number rule)) [
      | inl same ↦ subst (λ (r : EntryRule). FitsStore s p e r) (sym (numbers_differ other rule same)) here
      | inr differ ↦ kept other (omega arith)
    ]

pub all_kept : (s : Store) (p : Place) (e : Entry) → KeptTo s p e 14 → (rule : EntryRule) → FitsStore s p e rule
all_kept s p e kept NextCall = kept NextCall (omega arith)
all_kept s p e kept FitsCall = kept FitsCall (omega arith)
all_kept s p e kept Once = kept Once (omega arith)
all_kept s p e kept RightWay = kept RightWay (omega arith)
all_kept s p e kept IsOpen = kept IsOpen (omega arith)
all_kept s p e kept RightFile = kept RightFile (omega arith)
all_kept s p e kept Allowed = kept Allowed (omega arith)
all_kept s p e kept Rights = kept Rights (omega arith)
all_kept s p e kept NoPlain = kept NoPlain (omega arith)
all_kept s p e kept RightBlock = kept RightBlock (omega arith)
all_kept s p e kept WithinLimit = kept WithinLimit (omega arith)
all_kept s p e kept RightBytes = kept RightBytes (omega arith)
all_kept s p e kept NotRefused = kept NotRefused (omega arith)

-- the first rule that is not kept is the least
pub breaks : (s : Store) (p : Place) (e : Entry) (rule : EntryRule) → KeptTo s p e (entry_rule_number rule) → ¬ FitsStore s p e rule →
    BreaksAt s p e (entry_rule_number rule)
breaks s p e rule kept broken = record { rule = rule; number_is = refl; broken = broken; lesser = kept }

-- what is answered no does not hold
pub answered_no : {P : Type 0} (b : Bool) → (b ≡ true) ↔ P → b ≡ false → ¬ P
answered_no b iff fails holds = true≢false (sym (iff.1 holds) ∙ fails)
