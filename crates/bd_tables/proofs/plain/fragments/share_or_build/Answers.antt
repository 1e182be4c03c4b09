-- The pair has the fragment that was built for it.
use Rattle.std.proofs.Common.{◌≡◌, ℕ, Some, Result, Ok, Err, ap, ◌∙◌}
use Rattle.std.specs.Prelude.{IfOk}
use Rattle.std.specs.FinMap as fin
use Rattle.std.specs.Option.{option_map}
use Rattle.bd_base.specs.Keys.{Pair, pair_cmp_total}
use Rattle.bd_file_table.specs.Fragments.{Book, Cells, fragment_with, number_of}
use Rattle.bd_tables.specs.Kept.{fragment_of}
use Rattle.bd_tables.proofs.Maps.{same_key-insert}
use Rattle.bd_tables.proofs.plain.fragments.share_or_build.Goals as goal

number-built : {E : Type 0} (result : Result ℕ E) (old new : Book) (pair : Pair) (cells : Cells) →
    IfOk result (λ n. new ≡ fin.insert old pair (fragment_with n cells)) → IfOk result (λ n. fragment_of new pair ≡ Some n)
number-built (Ok n) old new pair cells built =
    ap (λ book. fragment_of book pair) built ∙ ap (option_map number_of) (same_key-insert pair_cmp_total old pair (fragment_with n cells))
number-built (Err e) old new pair cells built = tt

pub returns-in-None-clause-number : goal.returns-in-None-clause-number
returns-in-None-clause-number c = number-built c.build.result c.args.pool.now c.build.new.self _ _ c.build.ensures.built
