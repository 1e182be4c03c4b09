-- The five rules of the policy, and the least of them that denies.
use Rattle.std.specs.Prelude.{◌≡◌, ◌≢◌, ◌<◌, ℕ, false, Option, MatchOption}
use Rattle.bd_base.specs.Policy.{has_permission}
use Rattle.bd_base.specs.Rules.{IsLeastBroken}
use Rattle.bd_fs.specs.declared.policy.Ask.{Ask}
use Rattle.bd_fs.specs.declared.policy.Ask.TheVariants.{Read, ReadWrite, Unlink}

-- the rules, by who needs what
pub data PolicyRule : Type 0 where
  OwnerNeedsRead : PolicyRule
  OwnerNeedsWrite : PolicyRule
  OtherNeedsRead : PolicyRule
  OtherNeedsWrite : PolicyRule
  UnlinkNeedsOwner : PolicyRule

-- the number of a rule, as it is told
abbrev pub policy_rule_number : PolicyRule → ℕ
policy_rule_number OwnerNeedsRead = 1
policy_rule_number OwnerNeedsWrite = 2
policy_rule_number OtherNeedsRead = 3
policy_rule_number OtherNeedsWrite = 4
policy_rule_number UnlinkNeedsOwner = 5

-- what is asked, by which user, of a file of which owner and perms
pub record Question : Type 0 where
  pub ask : Ask
  pub uid : ℕ
  pub owner : ℕ
  pub perms : ℕ

-- the rule denies it: opening to read or to read and write asks for read, and the second asks for write too
abbrev pub Denies : Question → PolicyRule → Type 0
Denies q OwnerNeedsRead = (q.ask ≢ Unlink) × (q.uid ≡ q.owner) × (has_permission q.perms 1 ≡ false)
Denies q OwnerNeedsWrite = (q.ask ≡ ReadWrite) × (q.uid ≡ q.owner) × (has_permission q.perms 2 ≡ false)
Denies q OtherNeedsRead = (q.ask ≢ Unlink) × (q.uid ≢ q.owner) × (has_permission q.perms 4 ≡ false)
Denies q OtherNeedsWrite = (q.ask ≡ ReadWrite) × (q.uid ≢ q.owner) × (has_permission q.perms 8 ≡ false)
Denies q UnlinkNeedsOwner = (q.ask ≡ Unlink) × (q.uid ≢ q.owner)

-- no rule of a number below this one denies it
abbrev pub NoneDeniesBelow : Question → ℕ → Type 0
NoneDeniesBelow q number = (rule : PolicyRule) → policy_rule_number rule < number → ¬ Denies q rule

-- the answer is the number of the least rule that denies it, and none where no rule does
abbrev pub IsLeastDenial : Question → Option ℕ → Type 0
IsLeastDenial q answer =
    MatchOption answer ((rule : PolicyRule) → ¬ Denies q rule)
    (IsLeastBroken PolicyRule policy_rule_number (λ rule. ¬ Denies q rule) (Denies q))
