use Rattle.std.proofs.Common.{ℕ, Option, [], cond, ap, ◌∙◌}
use Rattle.std.specs.Prelude.{nat_lt}
use Rattle.std.specs.Option.{option_map_or}
use Rattle.bd_entry.specs.Actions.{keys_on}
use Rattle.bd_entry.specs.Store.{size_in}
use Rattle.bd_kernel.specs.Sights.{store_of}
use Rattle.bd_kernel.proofs.revocation.keys_of_longer.Goals as goal

pub returns : goal.returns
returns c = λ uids bytes work number before opens.
    let s = store_of c.args.fs.now c.args.table.now uids bytes work in
    c.keys_above.ensures ∙ ap (λ (file : Option ℕ). option_map_or (λ file. cond (nat_lt c.args.size (size_in s file)) (keys_on s file) []) file []) (c.file_of.ensures uids bytes work number before opens)
