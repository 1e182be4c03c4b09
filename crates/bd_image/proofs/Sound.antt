-- The volume that an accepted image says is sound.
use Rattle.std.proofs.Common.{◌≡◌, ◌≤◌, ◌<◌, ◌+◌, ◌-◌, ◌*◌, ◌/◌, ◌%◌, ◌^◌, inl, inr, ℕ, List, [], ◌∷◌, ◌++◌}
use Rattle.std.proofs.Common.{length, take, drop, get_or, replicate, ap, sym, ◌∙◌, subst, arith}
use Rattle.std.proofs.lemmas.Bool.{cases_lt}
use Rattle.std.proofs.lemmas.List.{get_or-append_right, get_or_append_left, get_or-drop, get_or-replicate}
use Rattle.std.proofs.lemmas.List.{length-replicate, length-take-le, take_all, take_at, take_more}
use Rattle.std.proofs.lemmas.List.Elements.{All-append, All-drop, All-replicate}
use Rattle.bd_base.specs.declared.volume.Volume.{Volume}
use Rattle.bd_base.specs.Bytes.{AreBytes}
use Rattle.bd_base.specs.Files.{blocks_for}
use Rattle.bd_base.specs.Volumes.{HasZeroTail, IsSoundVolume, metadata_size}
use Rattle.bd_image.specs.Layout.{IsUsed, blocks_in_image, inode_count, owner_at, record_place, size_in_image}
use Rattle.bd_image.specs.Limits.{IsWithinLimits}
use Rattle.bd_image.specs.Rules.{Accepted, IsInTail, Size, TailZero}
use Rattle.bd_image.specs.Volumes.{AcceptedVolume, volume_of}
use Rattle.bd_image.proofs.Limits.{each-file, image-within_limits}
use Rattle.bd_image.proofs.Numbers.{little_number-below}
use Rattle.bd_image.proofs.Taken.{file_in_image, length-inodes_of}

-- the bytes with their first m left out as zeros
abbrev without_front : ℕ → List ℕ → List ℕ
without_front m b = replicate m 0 ++ drop m b

-- a byte that is zero stays so
still_zero : (m place : ℕ) (b : List ℕ) → get_or b place 0 ≡ 0 → get_or (without_front m b) place 0 ≡ 0
still_zero m place b none =
    let long : length {A = ℕ} (replicate m 0) ≡ m = length-replicate {A = ℕ} m 0 in
    elim (cases_lt place m) [
      | inl front ↦ get_or_append_left (replicate m 0) (drop m b) 0 place (omega arith) ∙ get_or-replicate m place 0 0 front
      | inr behind ↦
          let at : m + (place - m) ≡ place = omega arith in
          get_or-append_right (replicate m 0) (drop m b) m place 0 long behind ∙ get_or-drop m b (place - m) 0 ∙ ap (λ (k : ℕ). get_or b k 0) at ∙ none
    ]

-- where a byte of a file past its size stands, in its last block
tail-place : (size n i : ℕ) → n ≡ blocks_for size → size ≤ i → i < 4096 * n → (0 < n) × (i / 4096 ≡ n - 1)
    × (size - 4096 * (n - 1) ≤ i % 4096)
tail-place size n i enough past within = (omega arith, omega arith, omega arith)

-- a byte of a file past its size is in the tail of its record
in_tail : (b : List ℕ) (j i : ℕ) → length (blocks_in_image b j) ≡ blocks_for (size_in_image b j) → size_in_image b j ≤ i
    → i < 4096 * length (blocks_in_image b j)
    → IsInTail b j (4096 * get_or (blocks_in_image b j) (i / 4096) 0 + i % 4096)
in_tail b j i enough past within =
    let n : ℕ = length (blocks_in_image b j) in
    let (some, index, behind) = tail-place (size_in_image b j) n i enough past within in
    let one : n ≡ n - 1 + 1 = omega arith in
    let last : ℕ = get_or (blocks_in_image b j) (i / 4096) 0 in
    let long : length (take (n - 1) (blocks_in_image b j)) ≡ n - 1 = length-take-le (n - 1) (blocks_in_image b j) (omega arith) in
    record {
      front = take (n - 1) (blocks_in_image b j);
      last = last;
      blocks =
          sym (take_all n (blocks_in_image b j) (omega arith)) ∙ ap (λ (k : ℕ). take k (blocks_in_image b j)) one
          ∙ take_more (blocks_in_image b j) (n - 1) 0 (omega arith)
          ∙ ap (λ (k : ℕ). take (n - 1) (blocks_in_image b j) ++ get_or (blocks_in_image b j) k 0 ∷ []) (sym index);
      past = omega (arith, long, behind);
      within = omega arith;
    }

-- the tail of the file of a used record is zero
zero-tail : (b : List ℕ) (m j : ℕ) → Accepted b → IsUsed b j → HasZeroTail (without_front m b) (file_in_image b j)
zero-tail b m j h used i past within =
    let place : ℕ = 4096 * get_or (blocks_in_image b j) (i / 4096) 0 + i % 4096 in
    still_zero m place b (h TailZero j place used (in_tail b j i (h Size j used).1 past within))

-- the owner of a record is a number of four bytes
small-owner : (b : List ℕ) (j : ℕ) → AreBytes b → owner_at b j < 2 ^ 32
small-owner b j are = little_number-below 4 (drop (record_place j + 4) b) (All-drop (λ byte. byte < 256) (record_place j + 4) b are)

-- the volume that an accepted image says is sound
IsSoundVolume-volume_of : (b : List ℕ) → AreBytes b → Accepted b → IsSoundVolume (volume_of b)
unfolding volume_of
IsSoundVolume-volume_of b are h =
    let m : ℕ = metadata_size (inode_count b) in
    let limits : IsWithinLimits (volume_of b) = image-within_limits b h in
    record {
      files = limits.files;
      owners = each-file b (λ file. file.owner < 2 ^ 32) (λ j used. small-owner b j are);
      are_bytes = All-append (λ byte. byte < 256) (replicate m 0) (drop m b)
          (All-replicate (λ byte. byte < 256) m 0 (omega arith)) (All-drop (λ byte. byte < 256) m b are);
      all_bytes = limits.bytes;
      metadata = rw length-inodes_of (take_at (replicate m 0) (drop m b) m (length-replicate m 0));
      tails = each-file b (HasZeroTail (without_front m b)) (λ j used. zero-tail b m j h used);
    }

-- an accepted volume is sound
pub IsSoundVolume-accepted : (v : Volume) → AcceptedVolume v → IsSoundVolume v
unfolding AcceptedVolume
IsSoundVolume-accepted v (b, are, h, same) = subst IsSoundVolume (sym same) (IsSoundVolume-volume_of b are h)
