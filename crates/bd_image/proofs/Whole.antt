-- An accepted image is the image of the volume that it says.
use Rattle.std.proofs.Common.{◌≡◌, ◌≤◌, ◌+◌, ◌*◌, ◌%◌, ℕ, List, [], ◌++◌, Option, length, drop, replicate, refl}
use Rattle.std.proofs.Common.{ap, sym, ◌∙◌, subst, arith}
use Rattle.std.proofs.lemmas.List.{drop_at, length-replicate, take-append-drop}
use Rattle.std.specs.List.{flat_map}
use Rattle.bd_base.specs.declared.volume.Inode.{Inode}
use Rattle.bd_base.specs.declared.volume.Volume.{Volume}
use Rattle.bd_base.specs.Bytes.{AreBytes}
use Rattle.bd_base.specs.Files.{data_start}
use Rattle.bd_image.specs.Layout.{block_count, inode_count}
use Rattle.bd_image.specs.Rules.{Accepted, Bitmap, ExtentCount, ExtentJoins, ExtentRange, FreeRecord}
use Rattle.bd_image.specs.Rules.{HeaderRest, InodeCount, Length, Magic, NameForm, RecordRest, UsedMark, Version}
use Rattle.bd_image.specs.Volumes.{AcceptedVolume, bitmap_bytes, header_bytes, image_of, record_bytes, volume_of}
use Rattle.bd_image.proofs.Bitmap.{bitmap-part}
use Rattle.bd_image.proofs.Header.{header-part}
use Rattle.bd_image.proofs.Parts.{part, part-add, same_append}
use Rattle.bd_image.proofs.Records.{records-part}
use Rattle.bd_image.proofs.Taken.{inodes_of, length-inodes_of}

-- where the data begins, in bytes
pub data_place : (m : ℕ) → m % 16 ≡ 0 → 4096 * data_start m ≡ 8192 + 256 * m
data_place m h = omega arith

-- an image is its first block, its bitmap, its records and its data
four_parts : (b : List ℕ) (m : ℕ) → part b 0 4096 ++ part b 4096 4096 ++ part b 8192 (256 * m) ++ drop (8192 + 256 * m) b ≡ b
four_parts b m =
    same_append (same_append (sym (part-add b 0 4096 4096)) refl ∙ sym (part-add b 0 8192 (256 * m))) refl
    ∙ take-append-drop (8192 + 256 * m) b

-- what is left of the volume's bytes past the metadata
data-part : (b : List ℕ) (m : ℕ) → m % 16 ≡ 0
    → drop (4096 * data_start m) (replicate (4096 * data_start m) 0 ++ drop (4096 * data_start m) b)
    ≡ drop (8192 + 256 * m) b
data-part b m h =
    drop_at (replicate (4096 * data_start m) 0) (drop (4096 * data_start m) b) (4096 * data_start m) (length-replicate (4096 * data_start m) 0)
    ∙ ap (λ (k : ℕ). drop k b) (data_place m h)

-- the records of an accepted image end before the image does
pub records_within : (b : List ℕ) → Accepted b → 8192 + 256 * inode_count b ≤ length b
records_within b h =
    let few : inode_count b ≤ 256 = (h InodeCount).most in
    let long : 81920 ≤ length b = (h Length).least in
    omega arith

pub image_of-volume_of : (b : List ℕ) → AreBytes b → Accepted b → image_of (volume_of b) ≡ b
unfolding image_of volume_of
image_of-volume_of b are h =
    let m : ℕ = inode_count b in
    let within : 8192 + 256 * inode_count b ≤ length b = records_within b h in
    ap (λ (k : ℕ). header_bytes (block_count b) k ++ bitmap_bytes (inodes_of b) ++ flat_map record_bytes (inodes_of b)
    ++ drop (4096 * data_start k) (volume_of b).bytes) (length-inodes_of b)
    ∙ same_append
    (same_append
    (same_append (header-part b are (omega arith) (h Magic) (h Version) (h HeaderRest)) (bitmap-part b are (omega arith) (h Bitmap)))
    (records-part b are within (h UsedMark) (h FreeRecord) (h ExtentCount) (h NameForm) (h RecordRest) (h ExtentRange) (h ExtentJoins)))
    (data-part b m (h InodeCount).whole_blocks)
    ∙ four_parts b m

pub volume_of-image_of : (v : Volume) → AcceptedVolume v → volume_of (image_of v) ≡ v
unfolding AcceptedVolume
volume_of-image_of v (b, are, h, same) =
    ap (λ (w : Volume). volume_of (image_of w)) same ∙ ap volume_of (image_of-volume_of b are h) ∙ sym same

pub Accepted-image_of : (v : Volume) → AcceptedVolume v → Accepted (image_of v)
unfolding AcceptedVolume
Accepted-image_of v (b, are, h, same) = subst Accepted (sym (ap image_of same ∙ image_of-volume_of b are h)) h

-- the four appends that make up the image of a volume
pub appends-image : (v : Volume) (l l₁ l₂ l₃ l₄ bytes : List ℕ) (inodes : List (Option Inode)) → inodes ≡ v.inodes → bytes ≡ v.bytes
    → length v.inodes % 16 ≡ 0 → l ≡ [] → l₁ ≡ l ++ header_bytes v.total (length inodes) → l₂ ≡ l₁ ++ bitmap_bytes inodes
    → l₃ ≡ l₂ ++ flat_map record_bytes inodes → l₄ ≡ l₃ ++ drop (8192 + 256 * length inodes) bytes → l₄ ≡ image_of v
unfolding image_of
appends-image v l l₁ l₂ l₃ l₄ bytes inodes same whole sixteen empty a b c d =
    let head : l₁ ≡ header_bytes v.total (length v.inodes) =
    a ∙ ap (λ (k : List ℕ). k ++ header_bytes v.total (length inodes)) empty
    ∙ ap (λ (xs : List (Option Inode)). header_bytes v.total (length xs)) same in
    let bits : l₂ ≡ header_bytes v.total (length v.inodes) ++ bitmap_bytes v.inodes =
    b ∙ same_append head (ap bitmap_bytes same) in
    let records : l₃ ≡ header_bytes v.total (length v.inodes) ++ bitmap_bytes v.inodes ++ flat_map record_bytes v.inodes =
    c ∙ same_append bits (ap (flat_map record_bytes) same) in
    d ∙ same_append records
    (ap (drop (8192 + 256 * length inodes)) whole ∙ ap (λ (xs : List (Option Inode)). drop (8192 + 256 * length xs) v.bytes) same
    ∙ ap (λ (k : ℕ). drop k v.bytes) (sym (data_place (length v.inodes) sixteen)))
