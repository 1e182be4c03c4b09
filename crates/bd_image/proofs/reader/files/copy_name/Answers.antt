use Rattle.std.proofs.Common.{◌∙◌, rules, tests, nat_eq, not}
use Rattle.std.proofs.lemmas.Iterator.{YieldsList-from_slice, items_from_collect}
use Rattle.std.proofs.lemmas.Iterator.Consumers.{YieldsList-from_copied}
use Rattle.std.proofs.lemmas.Iterator.Search.{YieldsList-from_take_while}
use Rattle.bd_image.proofs.reader.files.copy_name.Goals as goal

pub returns : goal.returns
returns c =
    let field = c.args.field.now in
    let items = items_from_collect c.collect.result c.collect.ensures.ran
    (YieldsList-from_take_while _ (λ byte. not (nat_eq byte 0))
    (YieldsList-from_copied (YieldsList-from_slice field cc)) c.take_while.ensures.closure
    c.take_while.ensures.done (λ x b q k. search (rules, tests))) in
    c.from_vec.ensures ∙ (rw c.in_ok-name.was at items)
