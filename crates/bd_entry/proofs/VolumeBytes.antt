-- What the bytes of a sound volume keep as bytes of one block are written.
use Rattle.std.proofs.Common.{◌≡◌, ℕ, ◌+◌, ◌-◌, ◌*◌, ◌/◌, ◌%◌, ◌<◌, ◌≤◌, true, nat_le, nat_lt, List, length, take, replicate, get_or, arith, refl, ap, ◌∙◌, inl, inr}
use Rattle.std.specs.Prelude.{slice_index}
use Rattle.std.proofs.lemmas.Bool.{and_parts, cases_order, leb-true, ltb-true}
use Rattle.std.proofs.lemmas.List.{get_or-replicate, length-replicate}
use Rattle.std.proofs.lemmas.List.Elements.{All-replicate}
use Rattle.bd_base.specs.declared.limits.TheConstants.{BLOCK_SIZE}
use Rattle.bd_base.specs.declared.volume.Inode.{Inode}
use Rattle.bd_base.specs.declared.volume.Volume.{Volume}
use Rattle.bd_base.specs.Allocation.{is_data_block}
use Rattle.bd_base.specs.Bytes.{AreBytes}
use Rattle.bd_base.specs.Files.{data_start}
use Rattle.bd_base.specs.Volumes.{HasZeroTail, IsSoundVolume, metadata_size}
use Rattle.bd_base.proofs.Splices.{All-splice, length-splice, splice-before, splice-behind, splice-replicate, splice-within, take-splice}
use Rattle.bd_entry.specs.Effects.{with_bytes_at}

-- after a change: as many bytes as before, each a byte, and the metadata as it was
pub record KeepsBytes (inodes : ℕ) (bytes new : List ℕ) : Type 0 where
  pub are_bytes : AreBytes new
  pub same_length : length new ≡ length bytes
  pub metadata : take (metadata_size inodes) new ≡ take (metadata_size inodes) bytes

pub KeepsBytes-same : (v : Volume) → IsSoundVolume v → KeepsBytes (length v.inodes) v.bytes v.bytes
KeepsBytes-same v sound = record { are_bytes = sound.are_bytes; same_length = refl; metadata = refl }

-- bytes within a data block
pub record IsWrite (v : Volume) (block lo : ℕ) (new : List ℕ) : Type 0 where
  pub is_data : is_data_block v.total (length v.inodes) block ≡ true
  pub within : lo + length new ≤ BLOCK_SIZE
  pub are_bytes : AreBytes new

-- zeros from a place of a data block to its end
pub zeros-write : (v : Volume) (block lo : ℕ) → is_data_block v.total (length v.inodes) block ≡ true → lo ≤ BLOCK_SIZE →
    IsWrite v block lo (replicate (BLOCK_SIZE - lo) 0)
zeros-write v block lo is_data below = record {
  is_data = is_data;
  within = omega (arith, length-replicate {A = ℕ} (BLOCK_SIZE - lo) 0);
  are_bytes = All-replicate (λ byte. byte < 256) (BLOCK_SIZE - lo) 0 (omega arith);
}

module _ (v : Volume) (sound : IsSoundVolume v) (block lo : ℕ) (new : List ℕ) (write : IsWrite v block lo new) where
  bounds : (data_start (length v.inodes) ≤ block) × (block < v.total)
  bounds =
      let parts = and_parts (nat_le (data_start (length v.inodes)) block) (nat_lt block v.total) write.is_data in
      (leb-true (data_start (length v.inodes)) block parts.0, ltb-true block v.total parts.1)

  -- they end within the bytes of all blocks
  pub write-fits : BLOCK_SIZE * block + lo + length new ≤ length v.bytes
  write-fits = omega (arith, bounds.1, write.within, sound.all_bytes)

  behind_metadata : metadata_size (length v.inodes) ≤ BLOCK_SIZE * block + lo
  behind_metadata = omega (arith, bounds.0)

  pub KeepsBytes-written : KeepsBytes (length v.inodes) v.bytes (with_bytes_at (BLOCK_SIZE * block + lo) new v.bytes)
  KeepsBytes-written = record {
    are_bytes = All-splice (λ byte. byte < 256) v.bytes new (BLOCK_SIZE * block + lo) (BLOCK_SIZE * block + lo + length new) sound.are_bytes write.are_bytes;
    same_length = length-splice v.bytes new (BLOCK_SIZE * block + lo) write-fits;
    metadata = take-splice v.bytes new (BLOCK_SIZE * block + lo) write-fits (metadata_size (length v.inodes)) behind_metadata;
  }

  -- a byte that is not among those written
  same_byte : (other i : ℕ) → i < BLOCK_SIZE → (other ≡ block → lo + length new ≤ i) →
      get_or (with_bytes_at (BLOCK_SIZE * block + lo) new v.bytes) (BLOCK_SIZE * other + i) 0 ≡ get_or v.bytes (BLOCK_SIZE * other + i) 0
  same_byte other i inside behind =
      elim (cases_order other block) [
        | inl same ↦
            splice-behind v.bytes new (BLOCK_SIZE * block + lo) write-fits (BLOCK_SIZE * other + i) 0 (omega (arith, same, behind same))
        | inr (inl before) ↦
            splice-before v.bytes new (BLOCK_SIZE * block + lo) write-fits (BLOCK_SIZE * other + i) 0 (omega arith)
        | inr (inr after) ↦
            splice-behind v.bytes new (BLOCK_SIZE * block + lo) write-fits (BLOCK_SIZE * other + i) 0 (omega (arith, write.within))
      ]

  -- a tail stays zero where the write ends before it
  pub tail-written : (g : Inode) → HasZeroTail v.bytes g →
      ((i : ℕ) → g.size ≤ i → i < BLOCK_SIZE * length g.blocks → slice_index g.blocks (i / BLOCK_SIZE) ≡ block →
      lo + length new ≤ i % BLOCK_SIZE) →
      HasZeroTail (with_bytes_at (BLOCK_SIZE * block + lo) new v.bytes) g
  tail-written g zero before_tail = λ i past inside.
      same_byte (slice_index g.blocks (i / BLOCK_SIZE)) (i % BLOCK_SIZE) (omega arith) (before_tail i past inside) ∙ zero i past inside

  -- a byte that was written
  pub byte-written : (i : ℕ) → lo ≤ i → i < lo + length new →
      get_or (with_bytes_at (BLOCK_SIZE * block + lo) new v.bytes) (BLOCK_SIZE * block + i) 0 ≡ get_or new (i - lo) 0
  byte-written i from to =
      let index : BLOCK_SIZE * block + i - (BLOCK_SIZE * block + lo) ≡ i - lo = omega arith in
      splice-within v.bytes new (BLOCK_SIZE * block + lo) write-fits (BLOCK_SIZE * block + i) 0 (omega arith) (omega arith)
      ∙ ap (λ k. get_or new k 0) index

-- ---- zeros written to the end of a block

module _ (v : Volume) (sound : IsSoundVolume v) (block lo : ℕ) (is_data : is_data_block v.total (length v.inodes) block ≡ true)
    (below : lo ≤ BLOCK_SIZE) where
  -- each tail stays zero
  pub tail-zeros : (g : Inode) → HasZeroTail v.bytes g → HasZeroTail (with_bytes_at (BLOCK_SIZE * block + lo) (replicate (BLOCK_SIZE - lo) 0) v.bytes) g
  tail-zeros g zero = λ i past inside.
      let fits = write-fits v sound block lo (replicate (BLOCK_SIZE - lo) 0) (zeros-write v block lo is_data below) in
      splice-replicate v.bytes (BLOCK_SIZE * block + lo) (BLOCK_SIZE - lo) 0 (BLOCK_SIZE * slice_index g.blocks (i / BLOCK_SIZE) + i % BLOCK_SIZE)
      (omega (arith, fits, length-replicate {A = ℕ} (BLOCK_SIZE - lo) 0)) (zero i past inside)

  -- and the bytes there are zeros
  pub byte-zeros : (i : ℕ) → lo ≤ i → i < BLOCK_SIZE →
      get_or (with_bytes_at (BLOCK_SIZE * block + lo) (replicate (BLOCK_SIZE - lo) 0) v.bytes) (BLOCK_SIZE * block + i) 0 ≡ 0
  byte-zeros i from to =
      byte-written v sound block lo (replicate (BLOCK_SIZE - lo) 0) (zeros-write v block lo is_data below) i from
      (omega (arith, length-replicate {A = ℕ} (BLOCK_SIZE - lo) 0))
      ∙ get_or-replicate (BLOCK_SIZE - lo) (i - lo) 0 0 (omega arith)

  -- a file has a zero tail where all of that lies there: in its block at this index
  pub tail-there : (f : Inode) (last : ℕ) → slice_index f.blocks last ≡ block → length f.blocks ≡ last + 1 → BLOCK_SIZE * last + lo ≤ f.size →
      HasZeroTail (with_bytes_at (BLOCK_SIZE * block + lo) (replicate (BLOCK_SIZE - lo) 0) v.bytes) f
  tail-there f last is_block count size = λ i past inside.
      let index : i / BLOCK_SIZE ≡ last = omega arith in
      let same : slice_index f.blocks (i / BLOCK_SIZE) ≡ block = ap (slice_index f.blocks) index ∙ is_block in
      ap (λ b. get_or (with_bytes_at (BLOCK_SIZE * block + lo) (replicate (BLOCK_SIZE - lo) 0) v.bytes) (BLOCK_SIZE * b + i % BLOCK_SIZE) 0) same
      ∙ byte-zeros (i % BLOCK_SIZE) (omega (arith, index)) (omega arith)
