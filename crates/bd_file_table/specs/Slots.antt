-- The places of a pool's fragments.
use Rattle.std.specs.Prelude.{ℕ, Bool, is_some, None, List}
use Rattle.std.proofs.Common.{get_or, replicate}
use Rattle.bd_base.specs.declared.limits.TheConstants.{PART_BLOCKS}
use Rattle.bd_file_table.specs.declared.pool.Slot.{Slot}

-- the place of a fragment that nobody owns
abbrev pub no_slot : Slot
no_slot = record { owner = None; cells = replicate PART_BLOCKS None }

-- the place of the fragment of this number
abbrev pub slot_at : List Slot → ℕ → Slot
slot_at slots number = get_or slots number no_slot

-- whether somebody owns the fragment there
abbrev pub is_owned : Slot → Bool
is_owned slot = is_some slot.owner
