-- What the parts of a pool have to do with each other.
use Rattle.std.specs.Prelude.{◌≡◌, ℕ, ◌+◌, ◌*◌, ◌<◌, Option, None, Some, List, length, map, count_by}
use Rattle.std.proofs.Common.{get_or}
use Rattle.std.specs.FinMap as fin
use Rattle.bd_base.specs.declared.limits.TheConstants.{FILES, FRAGMENTS, PARTS, PART_BLOCKS}
use Rattle.bd_base.specs.Keys.{pair_cmp, pair_of}
use Rattle.bd_base.specs.Slots.{slots_map}
use Rattle.bd_file_table.specs.declared.pool.Owner.{Owner}
use Rattle.bd_file_table.specs.declared.pool.Slot.{Slot}
use Rattle.bd_file_table.specs.Fragments.{Book, Fragment}
use Rattle.bd_file_table.specs.Slots.{is_owned, slot_at}

-- the fragment of this number, where there is a number
abbrev pub fragment_at : List Slot → Option ℕ → Option Fragment
fragment_at slots None = None
fragment_at slots (Some number) = Some (record { number = number; cells = (slot_at slots number).cells })

-- the fragments of all pairs, by the numbers of the pairs
abbrev pub fragments : List Slot → List (Option ℕ) → List (Option Fragment)
fragments slots numbers = map (fragment_at slots) numbers

-- the fragments as a finite map
abbrev pub book_of : List Slot → List (Option ℕ) → Book
book_of slots numbers = slots_map pair_cmp pair_of (fragments slots numbers)

-- the pair that owns a fragment
abbrev pub owner_of : ℕ → Owner
owner_of n = record { file = (pair_of n).file; part = (pair_of n).part }

-- the pairs know their fragments, the fragments their owners, and so many are in use
pub record IsPool (slots : List Slot) (numbers : List (Option ℕ)) (used : ℕ) : Type 0 where
  pub places : length slots ≡ FRAGMENTS
  pub pairs : length numbers ≡ FILES * PARTS
  pub owned : (pair number : ℕ) → get_or numbers pair None ≡ Some number → number < FRAGMENTS
  pub owner : (pair number : ℕ) → get_or numbers pair None ≡ Some number →
      (slot_at slots number).owner ≡ Some (owner_of pair)
  pub known : (number : ℕ) (owner : Owner) → (slot_at slots number).owner ≡ Some owner →
      get_or numbers (owner.file * PARTS + owner.part) None ≡ Some number
  pub wide : (number : ℕ) → number < FRAGMENTS → length (slot_at slots number).cells ≡ PART_BLOCKS
  pub count : used ≡ count_by is_owned slots
  pub total : used ≡ fin.len (book_of slots numbers)
