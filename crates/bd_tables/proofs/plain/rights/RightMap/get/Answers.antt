-- The right of a key stands at its number.
use Rattle.std.proofs.Common.{None, ap, sym, ◌∙◌, arith}
use Rattle.std.specs.FinMap as fin
use Rattle.std.proofs.lemmas.List.{get_or_default}
use Rattle.bd_tables.specs.State.{Rights}
use Rattle.bd_tables.proofs.RightMaps.{get-rights_of}
use Rattle.bd_tables.proofs.plain.rights.RightMap.get.Goals as goal

pub returns : goal.returns
returns c =
    let rights = c.self.inside.rights.items in
    c.index.ensures ∙ get_or_default rights c.key_number.result _ None (omega (arith, c.key_number.ensures.within, c.self.invariant.keys))
    ∙ sym (get-rights_of rights c.args.key.now c.key_number.result c.self.invariant.keys
    (record { within = c.key_number.ensures.within; is = c.key_number.ensures.key }))
    ∙ ap (λ (map : Rights). fin.get map c.args.key.now) c.self.view_is
