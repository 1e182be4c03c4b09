use Rattle.std.proofs.Common.{◌≡◌, ℕ, ◌<◌, Option, Some, List, length, sym, ap, ◌∙◌, arith}
use Rattle.std.specs.Option.{option_copied, option_map}
use Rattle.bd_base.specs.declared.limits.TheConstants.{DESCRIPTORS}
use Rattle.bd_base.proofs.Lists.{wrapped}
use Rattle.bd_entry.specs.Store.{Descriptor, in_slot}
use Rattle.bd_kernel.proofs.KeyLists.{slot-within}
use Rattle.bd_kernel.proofs.row.Row.open_number.Goals as goal

pub returns-in-Some : goal.returns-in-Some
returns-in-Some c =
    let there : in_slot c.args.self.now c.args.fd ≡ Some _ = sym c.get.ensures ∙ ap option_copied c.in-Some.is in
    let all : length c.args.self.now ≡ DESCRIPTORS = sym (ap (λ (xs : List (Option Descriptor)). length xs) c.self.view_is) ∙ c.self.invariant in
    let within : c.from.result < DESCRIPTORS = omega (arith, all, slot-within c.args.self.now c.args.fd _ there, c.from.ensures) in
    wrapped c.new.result _ c.from.result c.new.ensures within ∙ ap (λ (n : ℕ). Some n) c.from.ensures
    ∙ sym (ap (option_map (λ (d : Descriptor). c.args.fd)) there)
