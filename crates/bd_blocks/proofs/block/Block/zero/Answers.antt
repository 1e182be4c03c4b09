use Rattle.std.proofs.Common.{◌≡◌, replicate, refl}
use Rattle.std.proofs.lemmas.List.Elements.{All-replicate, All-same}
use Rattle.bd_blocks.proofs.block.Block.zero.Goals as goal

pub returns-clause-zero : goal.returns-clause-zero
returns-clause-zero c =
    let items : c.in_ok-bytes.bytes.items ≡ replicate 4096 0 = c.in_ok-bytes.ensures.items_if_clones_equal (λ y e. e) in
    All-same (λ x. x ≡ 0) _ _ items (All-replicate (λ x. x ≡ 0) 4096 0 refl)
