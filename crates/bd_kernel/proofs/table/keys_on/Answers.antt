use Rattle.std.proofs.Common.{◌≡◌, ℕ, Bool, ◌++◌, [], ap, ◌∙◌, sym, arith}
use Rattle.std.specs.Prelude.{nat_eq}
use Rattle.std.specs.List.{enumerate_from, flat_map}
use Rattle.std.proofs.lemmas.Option.{same_Some}
use Rattle.bd_base.proofs.Lists.{wrapped}
use Rattle.bd_entry.specs.Actions.{keys_of_slot}
use Rattle.bd_entry.specs.Store.{Descriptor}
use Rattle.bd_kernel.proofs.KeyLists.{flat_keys-step}
use Rattle.bd_kernel.proofs.table.keys_on.Goals as goal

pub loop-number-preserved : goal.loop-number-preserved
loop-number-preserved c =
    let row = c.index-rows-number.result in
    let test : Descriptor → Bool = λ d. nat_eq d.file c.args.file in
    let process : c.unwrap-process.result ≡ c.loop-number.number =
    same_Some c.unwrap-process.result c.loop-number.number
    (sym c.unwrap-process.ensures ∙ wrapped c.new.result _ c.loop-number.number c.new.ensures (omega (arith, c.loop-number-test.true, c.requires))) in (
      flat_keys-step (λ row. flat_map (λ slot. keys_of_slot test row.0 slot.0 slot.1) (enumerate_from 0 row.1)) [] c.loop-number.keys
          c.push_keys.new.keys c.args.rows.now c.loop-number.number row [] c.loop-number-test.true c.index-rows-number.is c.loop-number.invariant.0
          (c.push_keys.ensures.keys
          ∙ ap (λ (n : ℕ). c.loop-number.keys ++ flat_map (λ slot. keys_of_slot test n slot.0 slot.1) (enumerate_from 0 row)) process),
      omega (arith, c.push_keys.ensures.few, c.loop-number.invariant.1),
    )
