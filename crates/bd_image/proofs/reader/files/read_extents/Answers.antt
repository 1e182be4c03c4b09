use Rattle.std.proofs.Common.{ap, arith, sym, ◌∙◌, ◌++◌, ◌∷◌, []}
use Rattle.std.proofs.lemmas.List.FromFn.{map-range_with_len_more}
use Rattle.bd_image.specs.Layout.{extent_at}
use Rattle.bd_image.proofs.reader.files.read_extents.Goals as goal

pub loop-e-preserved : goal.loop-e-preserved
loop-e-preserved c =
    let b = c.args.bytes.now in
    let j = c.args.j in
    let e = c.loop-e.e in
    c.in_ok-push.ensures.ok ∙ ap (λ extent. c.loop-e.extents ++ extent ∷ []) c.extent_at.ensures
    ∙ ap (λ extents. extents ++ extent_at b j e ∷ []) c.loop-e.invariant ∙ sym (map-range_with_len_more (extent_at b j) 0 e e (omega arith))
