-- The part on which a descriptor can be given a right next.
use Rattle.std.proofs.Common.{◌≡◌, ℕ, Bool, ◌&&◌, not, cond, None, Some, refl}
use Rattle.bd_entry.specs.Store.{Descriptor, Store, has_fragment, has_plain, lowest_unattached, next_part}

-- it is the lowest without one, where a right can be given on that
pub next_part-is : (s : Store) (d : Descriptor) (part : ℕ) → lowest_unattached s d ≡ Some part → (allowed : Bool) →
    (not (has_plain s d.file) && has_fragment s d.file part) ≡ allowed → next_part s d ≡ cond allowed (Some part) None
next_part-is s d part low allowed is = rw (low, is) refl
