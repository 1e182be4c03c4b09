-- The bytes past the sizes of files are zero in the image of a sound volume.
use Rattle.std.proofs.Common.{◌≡◌, ◌≤◌, ◌<◌, ◌+◌, ◌-◌, ◌*◌, ◌/◌, ◌%◌, ℕ, IsTrue, List, [], ◌∷◌, ◌++◌, length}
use Rattle.std.proofs.Common.{get_or, drop, sym, ap, ◌∙◌, subst, arith}
use Rattle.std.proofs.Math.Seq.{get_or-append_seam}
use Rattle.std.proofs.lemmas.List.{get_or-drop}
use Rattle.std.proofs.lemmas.List.Elements.{All-contains}
use Rattle.bd_base.specs.declared.volume.Volume.{Volume}
use Rattle.bd_base.specs.Allocation.{is_data_block}
use Rattle.bd_base.specs.Files.{data_start}
use Rattle.bd_base.specs.Volumes.{IsSoundVolume}
use Rattle.bd_image.specs.Rules.{Obeys, TailZero}
use Rattle.bd_image.specs.Volumes.{image_of}
use Rattle.bd_base.proofs.ValidFiles.{data_block-within}
use Rattle.bd_image.proofs.Tails.{length-last}
use Rattle.bd_image.proofs.Written.{written-data}
use Rattle.bd_image.proofs.WrittenExtents.{IsWritten, written}

-- a byte behind the first n is that of any list with the same bytes behind them
get_or-behind : (n : ℕ) (a b : List ℕ) (k : ℕ) → drop n a ≡ drop n b → n ≤ k → get_or a k 0 ≡ get_or b k 0
get_or-behind n a b k same low =
    let at : n + (k - n) ≡ k = omega arith in
    let of : (c : List ℕ) → get_or (drop n c) (k - n) 0 ≡ get_or c k 0 = λ c. get_or-drop n c (k - n) 0 ∙ ap (λ (i : ℕ). get_or c i 0) at in
    sym (of a) ∙ ap (λ (c : List ℕ). get_or c (k - n) 0) same ∙ of b

-- a place in the last block of a file past its size, where the tail is zero
zero_past : (bytes blocks front : List ℕ) (size last place : ℕ)
    → ((i : ℕ) → size ≤ i → i < 4096 * length blocks → get_or bytes (4096 * get_or blocks (i / 4096) 0 + i % 4096) 0 ≡ 0)
    → blocks ≡ front ++ last ∷ [] → 4096 * last + (size - 4096 * length front) ≤ place → place < 4096 * (last + 1) → get_or bytes place 0 ≡ 0
zero_past bytes blocks front size last place zeros split past within =
    let i : ℕ = 4096 * length front + (place - 4096 * last) in
    let long : length blocks ≡ length front + 1 = ap length split ∙ length-last front last in
    let index : i / 4096 ≡ length front = omega arith in
    let offset : i % 4096 ≡ place - 4096 * last = omega arith in
    let block : get_or blocks (i / 4096) 0 ≡ last =
    ap (λ (k : ℕ). get_or blocks k 0) index ∙ ap (λ (l : List ℕ). get_or l (length front) 0) split ∙ get_or-append_seam front last [] 0 in
    let at : 4096 * get_or blocks (i / 4096) 0 + i % 4096 ≡ place = omega (arith, block, offset) in
    sym (ap (λ (k : ℕ). get_or bytes k 0) at) ∙ zeros i (omega arith) (omega (arith, long))

-- the tail of a record is that of its file, and its bytes are those of the volume
pub written-obeys-TailZero : (v : Volume) → IsSoundVolume v → Obeys (image_of v) TailZero
written-obeys-TailZero v sound j place used tail =
    let b : List ℕ = image_of v in
    let w : IsWritten v b j = written v sound j used in
    let split : w.file.blocks ≡ tail.front ++ tail.last ∷ [] = sym w.blocks ∙ tail.blocks in
    let past : 4096 * tail.last + (w.file.size - 4096 * length tail.front) ≤ place =
    subst (λ (size : ℕ). 4096 * tail.last + (size - 4096 * length tail.front) ≤ place) w.size tail.past in
    let zero' : get_or v.bytes place 0 ≡ 0 =
    zero_past v.bytes w.file.blocks tail.front w.file.size tail.last place (sound.tails j w.file w.at) split past tail.within in
    let behind : (data_start (length v.inodes) ≤ tail.last) × (tail.last < v.total) =
    data_block-within v.total (length v.inodes) tail.last
    (All-contains (λ block. IsTrue (is_data_block v.total (length v.inodes) block)) w.file.blocks tail.last w.valid.in_data_area (
      length tail.front,
      omega (arith, ap length split, length-last tail.front tail.last),
      ap (λ (l : List ℕ). get_or l (length tail.front) tail.last) split ∙ get_or-append_seam tail.front tail.last [] tail.last,
    )) in
    get_or-behind (4096 * data_start (length v.inodes)) b v.bytes place (written-data v sound) (omega (arith, behind.0)) ∙ zero'
