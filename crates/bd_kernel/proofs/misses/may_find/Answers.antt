-- A walk finds no directory exactly where its right does not stand.
use Rattle.std.proofs.Common.{◌≡◌, ◌↔◌, ℕ, true, not, subst, rules}
use Rattle.bd_entry.specs.RulesOfRights.{Stands, part_of}
use Rattle.bd_kernel.proofs.DecidedMisses.{not-iff}
use Rattle.bd_kernel.proofs.misses.may_find.Goals as goal

pub returns-in-NoDirectory : goal.returns-in-NoDirectory
returns-in-NoDirectory c =
    let part : c.part_of-part.result ≡ part_of c.args.piece.index = search rules in
    rw c.in-NoDirectory.is
    (subst (λ (n : ℕ). (not c.stands.result ≡ true) ↔ (¬ Stands n c.args.descriptor.now)) part (not-iff c.stands.result c.stands.ensures))
