use Rattle.std.proofs.Common.{◌≡◌, ◌+◌, length, take, get_or, Option, arith, ap, ◌∙◌}
use Rattle.std.proofs.lemmas.List.{take_more}
use Rattle.std.proofs.lemmas.List.Sums.{sum_by_push}
use Rattle.bd_base.specs.declared.volume.Inode.{Inode}
use Rattle.bd_base.specs.Inodes.{blocks_of_slot}
use Rattle.bd_top.specs.CheckLine.{owned_count}
use Rattle.bd_top.proofs.Counting.{owned_within}
use Rattle.bd_top.proofs.check.owned_blocks.Goals as goal

pub overflow_add-owned : goal.overflow_add-owned
overflow_add-owned c =
    let files = c.args.inodes.now in
    let i = c.loop-slot.slot-index in
    let here = c.slot-item.result in
    let blocks = λ (slot : Option Inode). length (blocks_of_slot slot) in
    let more : owned_count (take (i + 1) files) ≡ owned_count (take i files) + blocks (get_or files i here) =
    ap owned_count (take_more files i here c.loop-slot-test.true) ∙ sum_by_push blocks (take i files) (get_or files i here) in
    let found : c.blocks_in-owned.result ≡ blocks (get_or files i here) = c.blocks_in-owned.ensures ∙ ap blocks c.slot-item.is in
    omega (arith, owned_within c.args.total files c.requires (i + 1), more, c.loop-slot.invariant, found, c.requires.valid.few_blocks)
