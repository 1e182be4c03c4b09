use Rattle.std.proofs.Common.{◌≡◌, ℕ, Bool, ◌++◌, List, None, ap, ◌∙◌, sym, arith}
use Rattle.std.specs.Prelude.{nat_eq}
use Rattle.std.proofs.lemmas.Option.{same_Some}
use Rattle.bd_base.proofs.Lists.{wrapped}
use Rattle.bd_entry.specs.Actions.{keys_of_slot}
use Rattle.bd_entry.specs.Store.{Descriptor}
use Rattle.bd_kernel.proofs.KeyLists.{flat_keys-step}
use Rattle.bd_kernel.proofs.row.push_keys_of.Goals as goal

pub loop-number-preserved : goal.loop-number-preserved
loop-number-preserved c =
    let slot = c.index-slots-number.result in
    let test : Descriptor → Bool = λ d. nat_eq d.file c.args.file in
    let fd : c.unwrap-fd.result ≡ c.loop-number.number =
    same_Some c.unwrap-fd.result c.loop-number.number
    (sym c.unwrap-fd.ensures ∙ wrapped c.new.result _ c.loop-number.number c.new.ensures (omega (arith, c.loop-number-test.true, c.requires.slots))) in (
      flat_keys-step (λ slot. keys_of_slot test c.args.process slot.0 slot.1) c.args.keys.now c.loop-number.keys
          c.push_slot_keys.new.keys c.args.slots.now c.loop-number.number slot None c.loop-number-test.true c.index-slots-number.is c.loop-number.invariant.0
          (c.push_slot_keys.ensures.keys ∙ ap (λ (n : ℕ). c.loop-number.keys ++ keys_of_slot test c.args.process n slot) fd),
      omega (arith, c.push_slot_keys.ensures.few, c.loop-number.invariant.1),
    )
