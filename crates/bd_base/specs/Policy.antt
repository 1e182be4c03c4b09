-- Who may do what with a file. Its perms are a sum of 1 owner read, 2 owner write, 4 other read, 8 other write.
use Rattle.std.specs.Prelude.{ℕ, ◌/◌, ◌%◌, Bool, nat_eq, cond, Option, Some, None}
use Rattle.bd_base.specs.declared.script.Mode.{Mode}
use Rattle.bd_base.specs.declared.script.Mode.TheVariants.{R, Rw}

-- whether perms contain the permission of this value, a power of two
abbrev pub has_permission : ℕ → ℕ → Bool
has_permission perms value = nat_eq (perms / value % 2) 1

-- the rule by which reading is denied: 1 to an owner, 3 to another
abbrev pub read_denial : ℕ → ℕ → ℕ → Option ℕ
read_denial uid owner perms =
    cond (nat_eq uid owner)
    (cond (has_permission perms 1) None (Some 1))
    (cond (has_permission perms 4) None (Some 3))

-- the rule by which writing is denied: 2 to an owner, 4 to another
abbrev pub write_denial : ℕ → ℕ → ℕ → Option ℕ
write_denial uid owner perms =
    cond (nat_eq uid owner)
    (cond (has_permission perms 2) None (Some 2))
    (cond (has_permission perms 8) None (Some 4))

-- the first of two rules that denies
abbrev pub first_denial : Option ℕ → Option ℕ → Option ℕ
first_denial None second = second
first_denial (Some rule) second = Some rule

-- the least rule by which an open in this mode is denied, None where it is allowed
abbrev pub open_denial : Mode → ℕ → ℕ → ℕ → Option ℕ
open_denial R uid owner perms = read_denial uid owner perms
open_denial Rw uid owner perms = first_denial (read_denial uid owner perms) (write_denial uid owner perms)

-- only the owner may unlink: rule 5
abbrev pub unlink_denial : ℕ → ℕ → Option ℕ
unlink_denial uid owner = cond (nat_eq uid owner) None (Some 5)
