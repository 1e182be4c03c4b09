-- Two lists of the same length are equal where they agree at each index.
use Rattle.std.proofs.Common.{◌<◌, None, arith, sym, ◌∙◌}
use Rattle.std.specs.List.{slice_get}
use Rattle.std.proofs.lemmas.List.{get_or_default, same_lists}
use Rattle.std.proofs.lemmas.List.FromFn.{get_or-map-range_with_len, length-map-range_with_len}
use Rattle.bd_file_table.proofs.pool.fill_up.Goals as goal

pub returns : goal.returns
returns c =
    same_lists _ _ (c.loop-i.invariant.wide ∙ sym (length-map-range_with_len (slice_get c.args.cells.now) 0 512))
    (λ k d below.
    let within : k < 512 = omega (arith, c.loop-i.invariant.wide) in
    get_or_default c.loop-i.all k d None below ∙ c.loop-i.invariant.there k (omega arith)
    ∙ sym (get_or-map-range_with_len (slice_get c.args.cells.now) 0 512 k k d within (omega arith)))
