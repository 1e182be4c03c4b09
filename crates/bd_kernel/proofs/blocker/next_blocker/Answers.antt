use Rattle.std.proofs.Common.{◌≡◌, Bool, true, false, cond, Option, None, Some, sym, ap, ◌∙◌, subst}
use Rattle.std.specs.Prelude.{is_some}
use Rattle.std.specs.Option.{option_map, option_or}
use Rattle.bd_base.specs.declared.reason.Reason.{Reason}
use Rattle.bd_entry.specs.declared.act.Act.{Act}
use Rattle.bd_entry.specs.declared.act.Act.TheVariants as acts
use Rattle.bd_entry.specs.Actions.{Running, before_beginning, busy_at_first, comes_before_holder, has_begun, keys_to_revoke, own_act, revoke}
use Rattle.bd_entry.specs.Refusals.{first_refusal}
use Rattle.bd_kernel.specs.declared.blocker.Blocker.{Blocker}
use Rattle.bd_kernel.specs.Blockers.{blocker_in, busy_by}
use Rattle.bd_kernel.specs.Changes.{Rows}
use Rattle.bd_kernel.specs.Holders.{holder_in}
use Rattle.bd_kernel.specs.Sights.{ForUser, place_of, store_of}
use Rattle.bd_kernel.proofs.Blockers.{holder_first, none_held, not_there, refusal_first}
use Rattle.bd_kernel.proofs.MarkLemmas.{pieces_marked}
use Rattle.bd_kernel.proofs.blocker.next_blocker.Goals as goal

pub returns-then-has_begun-clause-blocker : goal.returns-then-has_begun-clause-blocker
returns-then-has_begun-clause-blocker c uids bytes work user number before marks =
    let table = c.args.descriptors.now in
    let holders = holder_in table.held in
    let s = store_of c.args.fs.now table.rows uids bytes work in
    let call = c.args.call.now in
    let p = place_of call c.args.process number before in
    let r : Running = record { place = p; outstanding = c.args.outstanding.now } in
    let first = before_beginning s holders p (first_refusal s c.args.process call) in
    let rest = option_or (revoke (keys_to_revoke s p call)) (own_act s holders r call) in
    let begun : has_begun r ≡ true = sym (c.has_begun.ensures p marks) ∙ c.if-has_begun.true in
    c.blocker_in_course.ensures.blocker uids bytes work number before marks.opened
    (pieces_marked c.args.running.now c.args.outstanding.now before marks)
    ∙ sym (ap (λ (b : Bool). blocker_in (option_or (cond b None first) rest)) begun)

pub returns-in-Some-clause-blocker : goal.returns-in-Some-clause-blocker
returns-in-Some-clause-blocker c uids bytes work user number before marks =
    let table = c.args.descriptors.now in
    let holders = holder_in table.held in
    let s = store_of c.args.fs.now table.rows uids bytes work in
    let call = c.args.call.now in
    let process = c.args.process in
    let p = place_of call process number before in
    let r : Running = record { place = p; outstanding = c.args.outstanding.now } in
    let rest = option_or (revoke (keys_to_revoke s p call)) (own_act s holders r call) in
    let begun : has_begun r ≡ false = sym (c.has_begun.ensures p marks) ∙ c.if-has_begun.false in
    let reason : Reason = c.in-Some.reason in
    let refused : first_refusal s process call ≡ Some reason =
    sym
    (subst (λ (rows : Rows). ForUser c.args.fs.now rows process c.args.uid (λ s. c.first_refusal.result ≡ first_refusal s process call))
    c.table.ensures c.first_refusal.ensures uids bytes work user)
    ∙ c.in-Some.is in
    c.blocker_of_refused.ensures.blocker uids bytes work number before marks.opened
    ∙ sym
    (ap (λ (b : Bool). blocker_in (option_or (cond b None (before_beginning s holders p (first_refusal s process call))) rest)) begun
    ∙ ap (λ (o : Option Reason). blocker_in (option_or (before_beginning s holders p o) rest)) refused
    ∙ ap (λ (a : Option Act). blocker_in a)
    (refusal_first (comes_before_holder reason) (acts.Refuse None reason) (busy_at_first s holders p) rest))

pub returns-then-is_some-clause-blocker : goal.returns-then-is_some-clause-blocker
returns-then-is_some-clause-blocker c uids bytes work user number before marks =
    let table = c.args.descriptors.now in
    let holders = holder_in table.held in
    let s = store_of c.args.fs.now table.rows uids bytes work in
    let call = c.args.call.now in
    let process = c.args.process in
    let p = place_of call process number before in
    let r : Running = record { place = p; outstanding = c.args.outstanding.now } in
    let rest = option_or (revoke (keys_to_revoke s p call)) (own_act s holders r call) in
    let begun : has_begun r ≡ false = sym (c.has_begun.ensures p marks) ∙ c.if-has_begun.false in
    let free : first_refusal s process call ≡ None =
    sym
    (subst (λ (rows : Rows). ForUser c.args.fs.now rows process c.args.uid (λ s. c.first_refusal.result ≡ first_refusal s process call))
    c.table.ensures c.first_refusal.ensures uids bytes work user)
    ∙ not_there c.first_refusal.result c.in_default.not-Some in
    let held : c.holder_of-holder.result ≡ blocker_in (busy_at_first s holders p) =
    c.holder_of-holder.ensures.blocker ∙ ap (λ (a : Option Act). blocker_in a) (c.busy_at_first.ensures uids bytes work number before marks.opened) in
    let some : is_some (blocker_in (busy_at_first s holders p)) ≡ true =
    sym (ap (λ (o : Option Blocker). is_some o) held) ∙ sym c.is_some.ensures ∙ c.if-is_some.true in
    held ∙ holder_first (busy_at_first s holders p) rest some
    ∙ sym
    (ap (λ (b : Bool). blocker_in (option_or (cond b None (before_beginning s holders p (first_refusal s process call))) rest)) begun
    ∙ ap (λ (o : Option Reason). blocker_in (option_or (before_beginning s holders p o) rest)) free)

pub returns-clause-blocker : goal.returns-clause-blocker
returns-clause-blocker c uids bytes work user number before marks =
    let table = c.args.descriptors.now in
    let holders = holder_in table.held in
    let s = store_of c.args.fs.now table.rows uids bytes work in
    let call = c.args.call.now in
    let process = c.args.process in
    let p = place_of call process number before in
    let r : Running = record { place = p; outstanding = c.args.outstanding.now } in
    let rest = option_or (revoke (keys_to_revoke s p call)) (own_act s holders r call) in
    let begun : has_begun r ≡ false = sym (c.has_begun.ensures p marks) ∙ c.if-has_begun.false in
    let free : first_refusal s process call ≡ None =
    sym
    (subst (λ (rows : Rows). ForUser c.args.fs.now rows process c.args.uid (λ s. c.first_refusal.result ≡ first_refusal s process call))
    c.table.ensures c.first_refusal.ensures uids bytes work user)
    ∙ not_there c.first_refusal.result c.in_default.not-Some in
    let held : option_map busy_by c.busy_at_first.result ≡ busy_at_first s holders p =
    c.busy_at_first.ensures uids bytes work number before marks.opened in
    let none : busy_at_first s holders p ≡ None =
    sym held
    ∙ none_held c.busy_at_first.result
    (sym (ap (λ (o : Option Blocker). is_some o) c.holder_of-holder.ensures.blocker) ∙ sym c.is_some.ensures ∙ c.if-is_some.false) in
    c.blocker_in_course-2.ensures.blocker uids bytes work number before marks.opened
    (pieces_marked c.args.running.now c.args.outstanding.now before marks)
    ∙ sym
    (ap (λ (b : Bool). blocker_in (option_or (cond b None (before_beginning s holders p (first_refusal s process call))) rest)) begun
    ∙ ap (λ (o : Option Reason). blocker_in (option_or (before_beginning s holders p o) rest)) free
    ∙ ap (λ (o : Option Act). blocker_in (option_or o rest)) none)
