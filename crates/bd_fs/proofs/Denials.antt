-- The answer of the policy is the least rule that denies.
use Rattle.std.proofs.Common.{◌≡◌, ◌≢◌, ℕ, ◌<◌, true, false, nat_eq, Some, None, inl, inr, refl, sym, ◌∙◌, arith}
use Rattle.std.proofs.lemmas.Bool.{both_ways, cases_Bool, cases_eq, eq-eqb, ne_eqb}
use Rattle.bd_base.specs.Policy.{has_permission}
use Rattle.bd_fs.specs.declared.policy.Ask.{Ask}
use Rattle.bd_fs.specs.declared.policy.Ask.TheVariants.{Read, ReadWrite, Unlink}
use Rattle.bd_fs.specs.Asks.{denial_of}
use Rattle.bd_fs.specs.PolicyRules.{Denies, IsLeastDenial, NoneDeniesBelow, PolicyRule, Question, policy_rule_number}
use Rattle.bd_fs.specs.PolicyRules.{OwnerNeedsRead, OwnerNeedsWrite, OtherNeedsRead, OtherNeedsWrite, UnlinkNeedsOwner}

-- asks differ
read_no_write : Read ≢ ReadWrite
read_no_write same = cc

read_no_unlink : Read ≢ Unlink
read_no_unlink same = cc

write_no_unlink : ReadWrite ≢ Unlink
write_no_unlink same = cc

-- the rules below a number, one by one
each_below : (q : Question) (n : ℕ) → (1 < n → ¬ Denies q OwnerNeedsRead) → (2 < n → ¬ Denies q OwnerNeedsWrite)
    → (3 < n → ¬ Denies q OtherNeedsRead) → (4 < n → ¬ Denies q OtherNeedsWrite) → (5 < n → ¬ Denies q UnlinkNeedsOwner)
    → NoneDeniesBelow q n
each_below q n one two three four five OwnerNeedsRead less = one less
each_below q n one two three four five OwnerNeedsWrite less = two less
each_below q n one two three four five OtherNeedsRead less = three less
each_below q n one two three four five OtherNeedsWrite less = four less
each_below q n one two three four five UnlinkNeedsOwner less = five less

number-small : (rule : PolicyRule) → policy_rule_number rule < 6
number-small OwnerNeedsRead = omega arith
number-small OwnerNeedsWrite = omega arith
number-small OtherNeedsRead = omega arith
number-small OtherNeedsWrite = omega arith
number-small UnlinkNeedsOwner = omega arith

-- no rule denies
none : (q : Question) → NoneDeniesBelow q 6 → IsLeastDenial q None
none q below rule = below rule (number-small rule)

-- this rule is the least that denies
least : (q : Question) (rule : PolicyRule) → Denies q rule → NoneDeniesBelow q (policy_rule_number rule)
    → IsLeastDenial q (Some (policy_rule_number rule))
least q rule denies below = record { rule = rule; number_is = refl; broken = denies; lesser = below }

module _ (uid owner perms : ℕ) where
  abbrev of : Ask → Question
  of ask = record { ask = ask; uid = uid; owner = owner; perms = perms }

  -- the owner asks
  module _ (same : uid ≡ owner) where
    others : (ask : Ask) (n : ℕ) → (1 < n → ¬ Denies (of ask) OwnerNeedsRead) → (2 < n → ¬ Denies (of ask) OwnerNeedsWrite)
        → NoneDeniesBelow (of ask) n
    others ask n one two = each_below (of ask) n one two (λ _ h. h.1 same) (λ _ h. h.1 same) (λ _ h. h.1 same)

    owner_reads : IsLeastDenial (of Read) (denial_of Read uid owner perms)
    owner_reads =
        elim (cases_Bool (has_permission perms 1)) [
          | inl has ↦
              rw (eq-eqb uid owner same, has)
              (none (of Read) (others Read 6 (λ _ h. both_ways _ h.2 has) (λ _ h. read_no_write h.0)))
          | inr lacks ↦
              rw (eq-eqb uid owner same, lacks)
              (least (of Read) OwnerNeedsRead (read_no_unlink, same, lacks)
              (others Read 1 (λ less. absurd (omega arith)) (λ less. absurd (omega arith))))
        ]

    owner_writes : IsLeastDenial (of ReadWrite) (denial_of ReadWrite uid owner perms)
    owner_writes =
        elim (cases_Bool (has_permission perms 1)) [
          | inl has ↦
              elim (cases_Bool (has_permission perms 2)) [
                | inl writes ↦
                    rw (eq-eqb uid owner same, has, writes)
                    (none (of ReadWrite) (others ReadWrite 6 (λ _ h. both_ways _ h.2 has) (λ _ h. both_ways _ h.2 writes)))
                | inr lacks ↦
                    rw (eq-eqb uid owner same, has, lacks)
                    (least (of ReadWrite) OwnerNeedsWrite (refl, same, lacks)
                    (others ReadWrite 2 (λ _ h. both_ways _ h.2 has) (λ less. absurd (omega arith))))
              ]
          | inr lacks ↦
              rw (eq-eqb uid owner same, lacks)
              (least (of ReadWrite) OwnerNeedsRead (write_no_unlink, same, lacks)
              (others ReadWrite 1 (λ less. absurd (omega arith)) (λ less. absurd (omega arith))))
        ]

    owner_unlinks : IsLeastDenial (of Unlink) (denial_of Unlink uid owner perms)
    owner_unlinks =
        rw (eq-eqb uid owner same)
        (none (of Unlink) (others Unlink 6 (λ _ h. h.0 refl) (λ _ h. write_no_unlink (sym h.0))))

  -- another asks
  module _ (other : uid ≢ owner) where
    owners : (ask : Ask) (n : ℕ) → (3 < n → ¬ Denies (of ask) OtherNeedsRead) → (4 < n → ¬ Denies (of ask) OtherNeedsWrite)
        → (5 < n → ¬ Denies (of ask) UnlinkNeedsOwner) → NoneDeniesBelow (of ask) n
    owners ask n three four five = each_below (of ask) n (λ _ h. other h.1) (λ _ h. other h.1) three four five

    other_reads : IsLeastDenial (of Read) (denial_of Read uid owner perms)
    other_reads =
        elim (cases_Bool (has_permission perms 4)) [
          | inl has ↦
              rw (ne_eqb uid owner other, has)
              (none (of Read)
              (owners Read 6 (λ _ h. both_ways _ h.2 has) (λ _ h. read_no_write h.0) (λ _ h. read_no_unlink h.0)))
          | inr lacks ↦
              rw (ne_eqb uid owner other, lacks)
              (least (of Read) OtherNeedsRead (read_no_unlink, other, lacks)
              (owners Read 3 (λ less. absurd (omega arith)) (λ less. absurd (omega arith)) (λ less. absurd (omega arith))))
        ]

    other_writes : IsLeastDenial (of ReadWrite) (denial_of ReadWrite uid owner perms)
    other_writes =
        elim (cases_Bool (has_permission perms 4)) [
          | inl has ↦
              elim (cases_Bool (has_permission perms 8)) [
                | inl writes ↦
                    rw (ne_eqb uid owner other, has, writes)
                    (none (of ReadWrite)
                    (owners ReadWrite 6 (λ _ h. both_ways _ h.2 has) (λ _ h. both_ways _ h.2 writes) (λ _ h. write_no_unlink h.0)))
                | inr lacks ↦
                    rw (ne_eqb uid owner other, has, lacks)
                    (least (of ReadWrite) OtherNeedsWrite (refl, other, lacks)
                    (owners ReadWrite 4 (λ _ h. both_ways _ h.2 has) (λ less. absurd (omega arith)) (λ less. absurd (omega arith))))
              ]
          | inr lacks ↦
              rw (ne_eqb uid owner other, lacks)
              (least (of ReadWrite) OtherNeedsRead (write_no_unlink, other, lacks)
              (owners ReadWrite 3 (λ less. absurd (omega arith)) (λ less. absurd (omega arith)) (λ less. absurd (omega arith))))
        ]

    other_unlinks : IsLeastDenial (of Unlink) (denial_of Unlink uid owner perms)
    other_unlinks =
        rw (ne_eqb uid owner other)
        (least (of Unlink) UnlinkNeedsOwner (refl, other)
        (owners Unlink 5 (λ _ h. h.0 refl) (λ _ h. write_no_unlink (sym h.0)) (λ less. absurd (omega arith))))

pub least_denial : (ask : Ask) (uid owner perms : ℕ)
    → IsLeastDenial (record { ask = ask; uid = uid; owner = owner; perms = perms }) (denial_of ask uid owner perms)
least_denial Read uid owner perms =
    elim (cases_eq uid owner) [ inl same ↦ owner_reads uid owner perms same | inr other ↦ other_reads uid owner perms other ]
least_denial ReadWrite uid owner perms =
    elim (cases_eq uid owner) [ inl same ↦ owner_writes uid owner perms same | inr other ↦ other_writes uid owner perms other ]
least_denial Unlink uid owner perms =
    elim (cases_eq uid owner) [ inl same ↦ owner_unlinks uid owner perms same | inr other ↦ other_unlinks uid owner perms other ]
