-- The bits that the two walks set are those of the taken blocks.
use Rattle.std.proofs.Common.{◌≡◌, ◌<◌, ℕ, Bool, eqb, ltb, List, length, take, drop, ◌++◌, replicate, ◌||◌, ap}
use Rattle.std.proofs.Common.{sym, ◌∙◌, subst, arith}
use Rattle.std.proofs.lemmas.List.{take_at}
use Rattle.std.proofs.lemmas.List.Elements.{All-replicate}
use Rattle.std.specs.List.{list_any, range_with_len}
use Rattle.bd_base.specs.Bytes.{AreBytes}
use Rattle.bd_base.specs.Files.{data_start}
use Rattle.bd_image.specs.Bits.{is_set}
use Rattle.bd_image.specs.Volumes.{is_in_use, owns_block}
use Rattle.bd_image.proofs.Bitmap.{any-front, bitmap_front-from_bits, is_set-zeros}
use Rattle.bd_image.proofs.writer.bitmap.bitmap_front.Goals as goal

pub returns : goal.returns
returns c =
    let n : ℕ = c.in_ok-bits.bits.len in
    let ds : ℕ = data_start (length c.args.inodes.now) in
    let metadata : List ℕ = c.mark_range.new.bits in
    let bits : List ℕ = c.mark_files.new.bits in
    let len : length metadata ≡ n = omega arith in
    let len' : length bits ≡ n = omega arith in
    let whole : n ≡ c.args.count = c.in_ok-bits.ensures.len in
    let zeros : c.deref_mut.result.now ≡ replicate c.args.count 0 =
    c.deref_mut.ensures.value ∙ c.in_ok-bits.ensures.items_if_clones_equal (λ y h. h) in
    let start : (y : ℕ) → is_set metadata y ≡ ltb y ds =
    λ y.
    c.mark_range.ensures.marks y
    ∙ ap (λ (old : List ℕ). is_set old y || list_any (eqb y) (range_with_len 0 c.data_start.result)) zeros
    ∙ ap (λ (start : ℕ). is_set (replicate c.args.count 0) y || list_any (eqb y) (range_with_len 0 start)) c.data_start.ensures
    ∙ ap (λ (b : Bool). b || list_any (eqb y) (range_with_len 0 ds)) (is_set-zeros c.args.count y)
    ∙ any-front y ds in
    let lent : c.deref_mut-2.result.now ≡ metadata =
    c.deref_mut-2.ensures.value ∙ take_at metadata (drop (length metadata) c.in_ok-bits.bits.items) n len in
    let marked : (y : ℕ) → is_set bits y ≡ is_in_use c.args.inodes.now y =
    λ y.
    c.mark_files.ensures.marks y
    ∙ ap (λ (old : List ℕ). is_set old y || list_any (owns_block y) c.args.inodes.now) lent
    ∙ ap (λ (b : Bool). b || list_any (owns_block y) c.args.inodes.now) (start y) in
    let bytes : AreBytes bits =
    c.mark_files.ensures.bytes (subst AreBytes (sym lent)
    (c.mark_range.ensures.bytes (subst AreBytes (sym zeros) (All-replicate (λ byte. byte < 256) c.args.count 0 (omega arith))))) in
    take_at bits (drop (length bits) (take n (metadata ++ drop (length metadata) c.in_ok-bits.bits.items))) n len'
    ∙ bitmap_front-from_bits bits c.args.inodes.now c.args.count (len' ∙ whole) (λ k low. bytes k 0 (omega arith)) marked
