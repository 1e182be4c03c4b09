-- An accepted volume has the files of an image, and the bytes of all its blocks.
use Rattle.std.proofs.Common.{◌≡◌, ◌≤◌, ◌<◌, ◌+◌, ◌*◌, ℕ, zero, suc, nat_le, nat_lt, IsTrue, List, Option, None}
use Rattle.std.proofs.Common.{Some, get_or, length, map, drop, replicate, refl, ap, sym, subst, arith}
use Rattle.std.proofs.lemmas.Bool.{and_from, le-leb, lt-ltb}
use Rattle.std.proofs.lemmas.List.{length-append, length-drop, length-replicate}
use Rattle.std.proofs.lemmas.List.Elements.{All-append, All-from_get_or, All-nil}
use Rattle.std.proofs.lemmas.List.FromFn.{get_or-range_with_len, length-map-range_with_len, length-range_with_len}
use Rattle.std.specs.List.{All, range_with_len}
use Rattle.std.specs.Option.{IfSome}
use Rattle.bd_base.specs.declared.volume.Extent.{Extent}
use Rattle.bd_base.specs.declared.volume.Inode.{Inode}
use Rattle.bd_base.specs.declared.volume.Volume.{Volume}
use Rattle.bd_base.specs.Allocation.{is_data_block}
use Rattle.bd_base.specs.Extents.{blocks_of, extents_of}
use Rattle.bd_base.specs.Files.{data_start}
use Rattle.bd_base.specs.Inodes.{AreFiles, IsValidFile}
use Rattle.bd_base.specs.Names.{IsName}
use Rattle.bd_image.specs.Layout.{IsUsed, block_count, blocks_in_image, extent_at, extent_count, inode_count, name_at, name_field}
use Rattle.bd_image.specs.Limits.{FitsRecord, IsWithinLimits}
use Rattle.bd_image.specs.Rules.{Accepted, IsInDataArea, BlockCount, ExtentCount, ExtentJoins, ExtentRange}
use Rattle.bd_image.specs.Rules.{ExtentShares, InodeCount, Length, NameForm, NameFresh, Perms, Size}
use Rattle.bd_image.specs.Volumes.{AcceptedVolume, volume_of}
use Rattle.bd_image.proofs.Names.{name-found}
use Rattle.bd_image.proofs.Owned.{file-is, owned_once, own_names}
use Rattle.bd_image.proofs.Records.{extents_of-blocks_in_image}
use Rattle.bd_image.proofs.Taken.{file_in_image, inodes_of, length-inodes_of}
use Rattle.bd_image.proofs.Whole.{data_place, records_within}

-- what holds of each block of each extent holds of each block
All-blocks_of : (P : ℕ → Type 0) (f : ℕ → Extent) (n a : ℕ)
    → ((e x : ℕ) → a ≤ e → e < a + n → (f e).start ≤ x → x < (f e).start + (f e).length → P x)
    → All P (blocks_of (map f (range_with_len a n)))
All-blocks_of P f zero a each = All-nil P
All-blocks_of P f (suc n) a each =
    All-append P (range_with_len (f a).start (f a).length) (blocks_of (map f (range_with_len (a + 1) n)))
    (All-from_get_or P (range_with_len (f a).start (f a).length) 0
    (λ k low.
    let within : k < (f a).length = omega (arith, low, length-range_with_len (f a).start (f a).length) in
    rw (get_or-range_with_len (f a).start (f a).length k 0 within) (each a ((f a).start + k) (omega arith) (omega arith) (omega arith) (omega arith))))
    (All-blocks_of P f n (a + 1) (λ e x low high. each e x (omega arith) (omega arith)))

-- the file of a used record
valid-file : (b : List ℕ) (j : ℕ) → Accepted b → IsUsed b j → IsValidFile (block_count b) (inode_count b) (file_in_image b j)
valid-file b j h used =
    let same : extents_of (blocks_in_image b j) ≡ map (extent_at b j) (range_with_len 0 (extent_count b j)) =
    extents_of-blocks_in_image b j (h ExtentRange) (h ExtentJoins) used in
    record {
      in_data_area =
          All-blocks_of (λ block. IsTrue (is_data_block (block_count b) (inode_count b) block)) (extent_at b j) (extent_count b j) 0
          (λ e x low high from below.
          let inside : IsInDataArea (block_count b) (inode_count b) (extent_at b j e) = h ExtentRange j e (used, omega arith) in
          let start : data_start (inode_count b) ≤ (extent_at b j e).start = inside.start in
          let end : (extent_at b j e).start + (extent_at b j e).length ≤ block_count b = inside.end in
          and_from (nat_le (data_start (inode_count b)) x) (nat_lt x (block_count b))
          (le-leb (data_start (inode_count b)) x (omega arith)) (lt-ltb x (block_count b) (omega arith)));
      enough_blocks = (h Size j used).1;
      size_in_range = (h Size j used).0;
      few_extents = omega (arith, ap length same, length-map-range_with_len (extent_at b j) 0 (extent_count b j), h ExtentCount j used);
    }

-- what holds of the file of each used record holds of each file of the volume
pub each-file : (b : List ℕ) (P : Inode → Type 0) → ((j : ℕ) → IsUsed b j → P (file_in_image b j))
    → (id : ℕ) (file : Inode) → get_or (inodes_of b) id None ≡ Some file → P file
each-file b P h id file at = let (used, is) = file-is b id file at in subst P is (h id used)

-- the files of the volume of an accepted image are files of an image
AreFiles-inodes_of : (b : List ℕ) → Accepted b → AreFiles (block_count b) (inodes_of b)
AreFiles-inodes_of b h =
    let long : length (inodes_of b) ≡ inode_count b = length-inodes_of b in
    let all : block_count b * 4096 ≡ length b = h BlockCount in
    let least : 81920 ≤ length b = (h Length).least in
    let most : length b ≤ 67108864 = (h Length).most in
    record {
      valid = record {
        few_blocks = omega arith;
        few_files = omega (arith, long, (h InodeCount).most);
        each = each-file b (IsValidFile (block_count b) (length (inodes_of b)))
            (λ j used. subst (λ (n : ℕ). IsValidFile (block_count b) n (file_in_image b j)) (sym long) (valid-file b j h used));
        owned_once = owned_once b (h ExtentShares);
        names_differ = own_names b (h NameForm) (h NameFresh);
      };
      enough_blocks = omega arith;
      some_room = omega (arith, long, (h InodeCount).least);
      whole_blocks = rw long (h InodeCount).whole_blocks;
      names = each-file b (λ file. IsName file.name)
          (λ j used.
          let found : name_at b j ≡ (h NameForm j used).name = name-found (name_field b j) (h NameForm j used) in
          subst IsName (sym found) (h NameForm j used).is_name);
      perms = each-file b (λ file. file.perms < 16) (λ j used. omega (arith, h Perms j used));
    }

pub image-within_limits : (b : List ℕ) → Accepted b → IsWithinLimits (volume_of b)
unfolding volume_of
image-within_limits b h =
    let m : ℕ = inode_count b in
    let meta : ℕ = 4096 * data_start m in
    let long : meta ≤ length b = omega (arith, data_place m (h InodeCount).whole_blocks, records_within b h) in
    let all : block_count b * 4096 ≡ length b = h BlockCount in
    record {
      bytes = omega (arith, length-append (replicate meta 0) (drop meta b), length-replicate {A = ℕ} meta 0, length-drop meta b);
      files = AreFiles-inodes_of b h;
    }

pub AcceptedVolume-within_limits : (v : Volume) → AcceptedVolume v → IsWithinLimits v
unfolding AcceptedVolume
AcceptedVolume-within_limits v (b, are, h, same) = subst IsWithinLimits (sym same) (image-within_limits b h)

-- the files of an image have room in their records
pub AreFiles-fit : (total : ℕ) (files : List (Option Inode)) → AreFiles total files → All (λ file. IfSome file FitsRecord) files
AreFiles-fit total files are = All-from_get_or (λ file. IfSome file FitsRecord) files None (λ id low. fits (get_or files id None) id refl)
  where
    fits : (file : Option Inode) (id : ℕ) → get_or files id None ≡ file → IfSome file FitsRecord
    fits None id at = tt
    fits (Some file) id at = record {
      name = omega (arith, (are.names id file at).most);
      extents = (are.valid.each id file at).few_extents;
    }
