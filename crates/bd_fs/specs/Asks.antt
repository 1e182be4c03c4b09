-- What the policy is asked, and why it denies.
use Rattle.std.specs.Prelude.{ℕ, Option}
use Rattle.bd_base.specs.declared.script.Mode.TheVariants.{R, Rw}
use Rattle.bd_base.specs.declared.volume.Inode.{Inode}
use Rattle.bd_base.specs.Policy.{open_denial, unlink_denial}
use Rattle.bd_fs.specs.declared.policy.Ask.{Ask}
use Rattle.bd_fs.specs.declared.policy.Ask.TheVariants.{Read, ReadWrite, Unlink}

-- the least rule by which this is denied to a user, None where it is allowed
abbrev pub denial_of : Ask → ℕ → ℕ → ℕ → Option ℕ
denial_of Read uid owner perms = open_denial R uid owner perms
denial_of ReadWrite uid owner perms = open_denial Rw uid owner perms
denial_of Unlink uid owner perms = unlink_denial uid owner

-- the least rule by which this is denied to a user of a file, None where it is allowed
abbrev pub denial_to : ℕ → Ask → Inode → Option ℕ
denial_to uid ask file = denial_of ask uid file.owner file.perms
