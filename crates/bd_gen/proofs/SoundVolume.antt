-- The volume that is made is sound.
use Rattle.std.proofs.Common.{◌≡◌, ℕ, ◌+◌, ◌*◌, ◌/◌, ◌%◌, ◌<◌, ◌≤◌, nat_le, nat_lt, IsTrue, List, [], ◌∷◌, ◌++◌, length, take, replicate, Option, Some, None, refl, ap, sym, ◌∙◌, subst, arith, append-nil}
use Rattle.std.specs.List.{All, range_with_len}
use Rattle.std.proofs.lemmas.Bool.{and_from, le-leb, lt-ltb}
use Rattle.std.proofs.lemmas.List.FromFn.{length-range_with_len}
use Rattle.bd_base.specs.declared.volume.Extent.{Extent}
use Rattle.bd_base.specs.declared.volume.Inode.{Inode}
use Rattle.bd_base.specs.declared.volume.Volume.{Volume}
use Rattle.bd_base.specs.Allocation.{is_data_block}
use Rattle.bd_base.specs.Extents.{blocks_of, extents_of}
use Rattle.bd_base.specs.Files.{blocks_for}
use Rattle.bd_base.specs.Inodes.{AreFiles, AreValidFiles, IsValidFile, NamesDiffer, inode_at}
use Rattle.bd_base.specs.Names.{IsName}
use Rattle.bd_base.specs.Volumes.{HasZeroTail, IsSoundVolume, metadata_size}
use Rattle.bd_extents.proofs.ExtentLists.{extents_of-blocks_of}
use Rattle.bd_gen.specs.Bytes.{repeated}
use Rattle.bd_gen.specs.Volume.{file_extent, file_name, made_file, made_inodes, made_volume}
use Rattle.bd_gen.proofs.RepeatedBytes.{AreBytes-repeated, index-repeated_zero, length-repeated, take-repeated}
use Rattle.bd_gen.proofs.ShortCalls.{IsName-file_name}
use Rattle.bd_gen.proofs.MadeFiles.{IsMade, blocks-made_file, file_made, length-made_inodes, owned_once}
use Rattle.bd_gen.proofs.Readable.{All-range}

-- ---- one file

in_data_area : (id block : ℕ) → id < 8 → 3 + 2000 * id ≤ block → block < 3 + 2000 * id + 2000 → IsTrue (is_data_block 16384 16 block)
in_data_area id block low from to =
    and_from (nat_le 3 block) (nat_lt block 16384) (le-leb 3 block (omega arith)) (lt-ltb block 16384 (omega arith))

one_extent : (id : ℕ) → extents_of (made_file id).blocks ≡ file_extent id ∷ []
unfolding made_file file_extent
one_extent id = extents_of-blocks_of (file_extent id ∷ []) (omega arith, tt, tt)

size-made_file : (id : ℕ) → (made_file id).size ≡ 8192000
unfolding made_file
size-made_file id = refl

size-in_range : (id : ℕ) → (made_file id).size ≤ 16777216
size-in_range id = omega (arith, size-made_file id)

few-extents : (id : ℕ) → length (extents_of (made_file id).blocks) ≤ 24
few-extents id = omega (arith, ap length (one_extent id))

valid : (id : ℕ) → id < 8 → IsValidFile 16384 16 (made_file id)
valid id low =
    let P : ℕ → Type 0 = λ block. IsTrue (is_data_block 16384 16 block) in
    let blocks : (made_file id).blocks ≡ range_with_len (3 + 2000 * id) 2000 = blocks-made_file id in
    record {
      in_data_area = subst (All P) (sym blocks)
          (All-range P (3 + 2000 * id) 2000 (λ block from to. in_data_area id block low from to));
      enough_blocks =
          ap length blocks ∙ length-range_with_len (3 + 2000 * id) 2000 ∙ sym (ap blocks_for (size-made_file id));
      size_in_range = size-in_range id;
      few_extents = few-extents id;
    }

-- ---- all files

made-valid : (id : ℕ) (file : Inode) → IsMade id file → IsValidFile 16384 (length made_inodes) file
made-valid id file made =
    subst (λ (n : ℕ). IsValidFile 16384 n file) (sym length-made_inodes) (subst (IsValidFile 16384 16) (sym made.is) (valid id made.low))

name-made : (id : ℕ) (file : Inode) → IsMade id file → file.name ≡ file_name id
unfolding made_file
name-made id file made = ap (λ (f : Inode). f.name) made.is

one_name : (i j : ℕ) → file_name i ≡ file_name j → i ≡ j
unfolding file_name
one_name i j same = let digit : 48 + i ≡ 48 + j = cc in omega arith

names_differ : NamesDiffer made_inodes
names_differ i j file other first second same =
    one_name i j (sym (name-made i file (file_made i file first)) ∙ same ∙ name-made j other (file_made j other second))

perms-made : (id : ℕ) (file : Inode) → IsMade id file → file.perms < 16
unfolding made_file
perms-made id file made = omega (arith, ap (λ (f : Inode). f.perms) made.is)

owner-made : (id : ℕ) (file : Inode) → IsMade id file → file.owner < 4294967296
unfolding made_file
owner-made id file made = omega (arith, ap (λ (f : Inode). f.owner) made.is)

are_files : AreFiles 16384 made_inodes
are_files = record {
  valid = record {
    few_blocks = omega arith;
    few_files = omega (arith, length-made_inodes);
    each = λ id file at. made-valid id file (file_made id file at);
    owned_once = owned_once;
    names_differ = names_differ;
  };
  enough_blocks = omega arith;
  some_room = omega (arith, length-made_inodes);
  whole_blocks = ap (λ (n : ℕ). n % 16) length-made_inodes;
  names = λ id file at. subst IsName (sym (name-made id file (file_made id file at))) (IsName-file_name id (file_made id file at).low);
  perms = λ id file at. perms-made id file (file_made id file at);
}

-- ---- the bytes

tail-zero : (count : ℕ) (file : Inode) → HasZeroTail (repeated count 0) file
tail-zero count file i past within = index-repeated_zero count _

sound_with : (count : ℕ) → count ≡ 4096 * 16384 → IsSoundVolume (record { total = 16384; inodes = made_inodes; bytes = repeated count 0 })
sound_with count all = record {
  files = are_files;
  owners = λ id file at. owner-made id file (file_made id file at);
  are_bytes = AreBytes-repeated count 0 (omega arith);
  all_bytes = length-repeated count 0 ∙ all;
  metadata = take-repeated (metadata_size (length made_inodes)) count 0
      (omega (arith, all, ap metadata_size length-made_inodes));
  tails = λ id file at. tail-zero count file;
}

pub IsSoundVolume-made_volume : IsSoundVolume made_volume
unfolding made_volume
IsSoundVolume-made_volume = sound_with (4096 * 16384) refl
