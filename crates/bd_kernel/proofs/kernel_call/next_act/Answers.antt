use Rattle.std.proofs.Common.{◌≡◌, Bool, cond, Option, None, sym, ap, ◌∙◌}
use Rattle.std.specs.Option.{option_or}
use Rattle.bd_entry.specs.declared.act.Act.{Act}
use Rattle.bd_entry.specs.Actions.{Running, before_beginning, has_begun, keys_to_revoke, own_act, revoke}
use Rattle.bd_entry.specs.Refusals.{first_refusal}
use Rattle.bd_kernel.specs.Holders.{holder_in}
use Rattle.bd_kernel.specs.Sights.{place_of, store_of}
use Rattle.bd_kernel.proofs.Acts.{or-first, or-rest}
use Rattle.bd_kernel.proofs.MarkLemmas.{pieces_marked}
use Rattle.bd_kernel.proofs.kernel_call.next_act.Goals as goal

pub returns-then-is_some : goal.returns-then-is_some
returns-then-is_some c uids bytes work user number before marks =
    let table = c.args.descriptors.now in
    let holders = holder_in table.held in
    let s = store_of c.args.fs.now table.rows uids bytes work in
    let call = c.args.call.now in
    let process = c.args.process in
    let p = place_of call process number before in
    let r : Running = record { place = p; outstanding = c.args.outstanding.now } in
    let refused = before_beginning s holders p (first_refusal s process call) in
    let begun : c.has_begun-begun.result ≡ has_begun r = c.has_begun-begun.ensures p marks in
    let first : c.first_act-act.result ≡ cond (has_begun r) None refused =
    c.first_act-act.ensures uids bytes work number before marks.opened user ∙ ap (λ (b : Bool). cond b None refused) begun in
    let rest = option_or (revoke (keys_to_revoke s p call)) (own_act s holders r call) in
    or-first c.first_act-act.result rest (sym c.is_some.ensures ∙ c.if-is_some.true) ∙ ap (λ (o : Option Act). option_or o rest) first

pub returns : goal.returns
returns c uids bytes work user number before marks =
    let table = c.args.descriptors.now in
    let holders = holder_in table.held in
    let s = store_of c.args.fs.now table.rows uids bytes work in
    let call = c.args.call.now in
    let process = c.args.process in
    let p = place_of call process number before in
    let r : Running = record { place = p; outstanding = c.args.outstanding.now } in
    let refused = before_beginning s holders p (first_refusal s process call) in
    let begun : c.has_begun-begun.result ≡ has_begun r = c.has_begun-begun.ensures p marks in
    let first : c.first_act-act.result ≡ cond (has_begun r) None refused =
    c.first_act-act.ensures uids bytes work number before marks.opened user ∙ ap (λ (b : Bool). cond b None refused) begun in
    let rest = option_or (revoke (keys_to_revoke s p call)) (own_act s holders r call) in
    let later : c.act_in_course.result ≡ rest =
    c.act_in_course.ensures uids bytes work number before marks.opened (pieces_marked c.args.running.now c.args.outstanding.now before marks) in
    later ∙ or-rest c.first_act-act.result rest (sym c.is_some.ensures ∙ c.if-is_some.false) ∙ ap (λ (o : Option Act). option_or o rest) first
