-- The number of a pair's fragment stands at the number of the pair.
use Rattle.std.proofs.Common.{None, get_or, arith, ap, sym, ◌∙◌}
use Rattle.std.specs.FinMap as fin
use Rattle.std.specs.Option.{option_map}
use Rattle.std.proofs.lemmas.List.{get_or_default}
use Rattle.bd_base.specs.Keys.{Pair}
use Rattle.bd_file_table.specs.Fragments.{Book, number_of}
use Rattle.bd_file_table.proofs.Pools.{number-get, number-within}
use Rattle.bd_file_table.proofs.pool.Pool.of.Goals as goal

pub returns-clause-number : goal.returns-clause-number
returns-clause-number c =
    let pair : Pair = record { file = c.args.file; part = c.args.part } in
    let numbers = c.self.inside.numbers.items in
    c.index.ensures ∙ get_or_default numbers c.pair_number.result _ None (omega (arith, c.pair_number.ensures.within, c.self.invariant.pairs))
    ∙ ap (λ k. get_or numbers k None) c.pair_number.ensures.number
    ∙ number-get c.self.inside.slots.items numbers pair c.pair_number.ensures.part
    (omega (arith, c.pair_number.ensures.number, c.pair_number.ensures.within, c.self.invariant.pairs))
    ∙ ap (λ (book : Book). option_map number_of (fin.get book pair)) c.self.view_is

pub returns-clause-within : goal.returns-clause-within
returns-clause-within c =
    let numbers = c.self.inside.numbers.items in
    let is = c.index.ensures ∙ get_or_default numbers c.pair_number.result _ None (omega (arith, c.pair_number.ensures.within, c.self.invariant.pairs)) in
    number-within c.self.inside.slots.items numbers c.self.inside.used c.self.invariant c.pair_number.result c.index.result.now (sym is)
