use Rattle.std.proofs.Common.{◌≡◌, ℕ, false, Option, None, Some, refl, sym, ap, ◌∙◌, subst}
use Rattle.std.specs.Prelude.{is_some, find}
use Rattle.std.specs.Option.{option_and_then, option_copied, option_map}
use Rattle.bd_entry.specs.declared.act.Act.{Act}
use Rattle.bd_entry.specs.Actions.{busy, piece_numbers}
use Rattle.bd_entry.specs.Calls.{fd_of_call, piece_of_call}
use Rattle.bd_entry.specs.Refusals.{descriptor_of, is_next_for_kernel}
use Rattle.bd_entry.specs.Store.{Descriptor}
use Rattle.bd_kernel.specs.Blockers.{busy_by}
use Rattle.bd_kernel.specs.Changes.{Rows, slot_at}
use Rattle.bd_kernel.specs.Holders.{holder_in}
use Rattle.bd_kernel.specs.Sights.{place_of, store_of}
use Rattle.bd_kernel.proofs.Acts.{kernel_part-moves}
use Rattle.bd_kernel.proofs.Blockers.{not_there}
use Rattle.bd_kernel.proofs.pieces.kernel_part.Goals as goal

pub returns : goal.returns
returns c = λ uids bytes work number before opens marks.
    let rows = c.args.descriptors.now.rows in
    let fs = c.args.fs.now in
    let call = c.args.call.now in
    let s = store_of fs rows uids bytes work in
    let p = place_of call c.args.process number before in
    let d = c.in_ok-descriptor.descriptor.now in
    let found : find (is_next_for_kernel s p) (piece_numbers call) ≡ Some c.in_ok-number.number =
    subst
    (λ (rows : Rows). find (is_next_for_kernel (store_of fs rows uids bytes work) p) (piece_numbers call) ≡ Some c.in_ok-number.number)
    c.table-table.ensures (sym (c.kernel_number.ensures fs uids bytes work number before opens marks) ∙ c.in_ok-number.was) in
    let free : is_some (busy s (holder_in c.args.descriptors.now.held) p) ≡ false =
    ap (λ (o : Option Act). is_some o)
    (sym (c.busy.ensures uids bytes work number before opens) ∙ ap (option_map busy_by) (not_there c.busy.result c.in_default.not-Some)) in
    let piece : piece_of_call call c.in_ok-number.number ≡ Some c.in_ok-piece.piece = sym c.piece_of.ensures ∙ c.in_ok-piece.was in
    let of : descriptor_of s p ≡ Some d =
    subst (λ (rows : Rows). option_and_then (slot_at rows c.args.process) (fd_of_call call before) ≡ Some d) c.table-table.ensures
    (sym (c.descriptor_of.ensures before opens) ∙ ap option_copied c.in_ok-descriptor.was) in
    kernel_part-moves s (holder_in c.args.descriptors.now.held) p c.in_ok-number.number c.in_ok-piece.piece d c.move_piece.result found free piece of
    (c.move_piece.ensures rows uids bytes work p refl marks of)
