-- Rules by their numbers.
use Rattle.std.specs.Prelude.{nat_eq, cond}
use Rattle.std.proofs.Common.{◌≡◌, ℕ, ◌≤◌, refl, arith}
use Rattle.bd_base.proofs.Rules.{all-or-least, numbers-differ, one-number}
use Rattle.bd_entry.specs.Laws.{KeepsOrBreaks, NumbersDiffer, OneLeastRule}
use Rattle.bd_entry.specs.Rules.{EntryRule, KeepsRule, NextCall, FitsCall, Once, RightWay, IsOpen, RightFile, Allowed, Rights, NoPlain, RightBlock, WithinLimit, RightBytes, NotRefused, entry_rule_number}
use Rattle.bd_entry.proofs.DecidedRules.{decided-keeps_rule}

-- the rule of a number
abbrev rule_of : ℕ → EntryRule
rule_of n =
    cond (nat_eq n 1) NextCall (cond (nat_eq n 2) FitsCall (cond (nat_eq n 3) Once (cond (nat_eq n 4) RightWay (cond (nat_eq n 5) IsOpen
    (cond (nat_eq n 6) RightFile (cond (nat_eq n 7) Allowed (cond (nat_eq n 8) Rights (cond (nat_eq n 9) NoPlain (cond (nat_eq n 10) RightBlock
    (cond (nat_eq n 11) WithinLimit (cond (nat_eq n 12) RightBytes NotRefused)))))))))))

back : (rule : EntryRule) → rule_of (entry_rule_number rule) ≡ rule
back NextCall = refl
back FitsCall = refl
back Once = refl
back RightWay = refl
back IsOpen = refl
back RightFile = refl
back Allowed = refl
back Rights = refl
back NoPlain = refl
back RightBlock = refl
back WithinLimit = refl
back RightBytes = refl
back NotRefused = refl

pub numbers_differ : NumbersDiffer
numbers_differ = numbers-differ EntryRule entry_rule_number rule_of back

pub one_least_rule : OneLeastRule
one_least_rule script before s e m n first second =
    let Keeps : EntryRule → Type 0 = KeepsRule script before s e in
    let Breaks : EntryRule → Type 0 = λ rule. ¬ Keeps rule in
    one-number EntryRule entry_rule_number Keeps Breaks Breaks m n (λ rule broken. broken) (λ rule broken. broken) first second

-- there are thirteen rules
entry_rule_number-le : (rule : EntryRule) → entry_rule_number rule ≤ 13
entry_rule_number-le NextCall = omega arith
entry_rule_number-le FitsCall = omega arith
entry_rule_number-le Once = omega arith
entry_rule_number-le RightWay = omega arith
entry_rule_number-le IsOpen = omega arith
entry_rule_number-le RightFile = omega arith
entry_rule_number-le Allowed = omega arith
entry_rule_number-le Rights = omega arith
entry_rule_number-le NoPlain = omega arith
entry_rule_number-le RightBlock = omega arith
entry_rule_number-le WithinLimit = omega arith
entry_rule_number-le RightBytes = omega arith
entry_rule_number-le NotRefused = omega arith

pub keeps_or_breaks : KeepsOrBreaks
keeps_or_breaks script before s e =
    all-or-least EntryRule entry_rule_number rule_of (KeepsRule script before s e) 13 back entry_rule_number-le (decided-keeps_rule script before s e)
