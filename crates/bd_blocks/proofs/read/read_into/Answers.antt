use Rattle.std.proofs.Common.{◌≢◌, ◌<◌, ◌^◌, [], ◌∷◌, arith, rules}
use Rattle.std.proofs.lemmas.Grind.{common_steps}
use Rattle.std.proofs.lemmas.Result.{err_from_is_err_and}
use Rattle.bd_blocks.proofs.RunReading.{err-of, no-item, no-last, read-more, read-spelled, so_far-end, so_far-start, so_far-step}
use Rattle.bd_blocks.proofs.read.read_into.Goals as goal

pub loop-item-init : goal.loop-item-init
loop-item-init c =
    let some : c.args.text.now ≢ 45 ∷ [] = search (rules, common_steps) in
    so_far-start c.args.text.now c.args.most c.args.bytes.now.items some c.requires

pub loop-item-preserved : goal.loop-item-preserved
loop-item-preserved c =
    let small : c.args.most < 2 ^ 64 = omega arith in
    so_far-step _ c.loop-item.rest.now c.in-Some.item.now _ _ c.loop-item.progress _ c.loop-item.bytes.items _ small
    c.in-Some.ensures.split c.loop-item.invariant c.in_ok-progress.ensures.ok

pub returns-in_err-progress-clause-not_runs : goal.returns-in_err-progress-clause-not_runs
returns-in_err-progress-clause-not_runs c =
    let p = err_from_is_err_and c.from_residual.result c.from_residual.ensures.1 in
    rw (p.1, p.2) (λ same. no-item _ c.loop-item.rest.now c.in-Some.item.now c.in-Some.next.now c.args.most c.loop-item.progress
    c.loop-item.bytes.items c.loop-item.invariant c.in-Some.ensures.split c.in-Some.ensures.first (c.in_err-progress.ensures.not_runs (err-of _ _ same)))

pub returns-in_err-take_item-clause-not_runs : goal.returns-in_err-take_item-clause-not_runs
returns-in_err-take_item-clause-not_runs c =
    let p = err_from_is_err_and c.from_residual-in_err-take_item.result c.from_residual-in_err-take_item.ensures.1 in
    rw (p.1, p.2) (λ same. no-last _ c.loop-item.rest.now c.args.most c.loop-item.progress c.loop-item.bytes.items c.loop-item.invariant
    c.in_default.ensures.none (c.in_err-take_item.ensures.not_runs (err-of _ _ same)))

pub returns-in-Left-clause-spelled : goal.returns-in-Left-clause-spelled
returns-in-Left-clause-spelled c =
    let small : c.args.most < 2 ^ 64 = omega arith in
    let whole = so_far-end _ c.loop-item.rest.now _ c.loop-item.progress _ c.loop-item.bytes.items _ small c.loop-item.invariant
    c.in_ok-take_item.ensures.ok in
    read-spelled c.args.text.now c.args.most c.take_item-2.new.bytes.items c.in-Left.field-0 (rw c.in-Left.is at whole)

pub returns-in-Passed-clause-too_many : goal.returns-in-Passed-clause-too_many
returns-in-Passed-clause-too_many c = λ _.
    let small : c.args.most < 2 ^ 64 = omega arith in
    let whole = so_far-end _ c.loop-item.rest.now _ c.loop-item.progress _ c.loop-item.bytes.items _ small c.loop-item.invariant
    c.in_ok-take_item.ensures.ok in
    read-more c.args.text.now c.args.most c.take_item-2.new.bytes.items (rw c.in-Passed.is at whole)
