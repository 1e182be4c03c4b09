use Rattle.std.proofs.Common.{◌≡◌, ◌++◌, ◌∷◌, [], ℕ, List, Option, map, refl, sym, ap, ◌∙◌, arith, zero-add}
use Rattle.std.specs.List.{range_with_len}
use Rattle.std.proofs.lemmas.List.FromFn.{map-range_with_len_more}
use Rattle.bd_base.specs.declared.volume.Inode.{Inode}
use Rattle.bd_gen.specs.Volume.{made_inodes, made_slot}
use Rattle.bd_gen.proofs.volume.made_inodes.Goals as goal

pub loop-record_number-preserved : goal.loop-record_number-preserved
loop-record_number-preserved c =
    let n : ℕ = c.loop-record_number.record_number in
    c.in_ok-push.ensures.ok
    ∙ ap (λ (l : List (Option Inode)). l ++ c.in_ok-made_slot.field-0 ∷ []) c.loop-record_number.invariant
    ∙ ap (λ (slot : Option Inode). map made_slot (range_with_len 0 n) ++ slot ∷ []) c.in_ok-made_slot.ensures
    ∙ sym (map-range_with_len_more made_slot 0 n n (zero-add n))

pub returns : goal.returns
unfolding made_inodes
returns c =
    let end : c.loop-record_number.record_number ≡ 16 = omega arith in
    c.loop-record_number.invariant ∙ ap (λ (n : ℕ). map made_slot (range_with_len 0 n)) end
