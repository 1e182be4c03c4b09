use Rattle.std.proofs.Common.{◌≡◌, ◌+◌, ◌-◌, ◌*◌, ◌<◌, ◌∙◌, ap, arith, rules}
use Rattle.bd_base.specs.Files.{blocks_for}
use Rattle.bd_image.specs.Layout.{extent_at, extent_count, size_in_image}
use Rattle.bd_image.proofs.Tails.{in_tail-of, in_tail-to, tail_searched}
use Rattle.bd_image.proofs.reader.tails.first_in_tail.Goals as goal

pub returns : goal.returns
returns c =
    let b = c.args.bytes.now in
    let j = c.args.j in
    let n = c.extent_count-count.result - 1 in
    let count : extent_count b j ≡ n + 1 = omega arith in
    let few : n < extent_count b j = omega arith in
    let start : c.from.result ≡ (extent_at b j n).start = c.from.ensures ∙ ap (λ e. e.start) c.extent_at-last.ensures in
    let long : c.from-2.result ≡ (extent_at b j n).length = c.from-2.ensures ∙ ap (λ e. e.length) c.extent_at-last.ensures in
    let whole : c.div_ceil.result ≡ blocks_for (size_in_image b j) = search rules in
    let some = (c.requires.ranges j n (c.requires.record, few)).not_empty in
    let many = (c.requires.sizes j c.requires.record).1 in
    let end = 4096 * (c.from.result + c.from-2.result) in
    let past = 4096 * c.div_ceil.result - c.size_in_image-size.result in
    tail_searched b j (end - past) end c.first_nonzero.result
    (λ place t. let at = in_tail-to b j n place count some many t in (omega (arith, at.0, c.size_in_image-size.ensures), omega (arith, at.1)))
    (λ place l h. in_tail-of b j n place count some many (omega (arith, c.size_in_image-size.ensures), omega arith))
    c.first_nonzero.ensures
