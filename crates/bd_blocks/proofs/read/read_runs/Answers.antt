use Rattle.std.proofs.Common.{◌≡◌, subst, rules}
use Rattle.std.proofs.lemmas.Grind.{common_steps}
use Rattle.std.proofs.lemmas.Result.{err_from_is_err_and}
use Rattle.bd_base.specs.Bytes.{AreBytes}
use Rattle.bd_blocks.proofs.RunReading.{err-either, more-refused, no_runs-refused, runs-refused}
use Rattle.bd_blocks.proofs.RunLists.{runs-not_more}
use Rattle.bd_blocks.proofs.read.read_runs.Goals as goal

pub returns-in_err-read_into-clause-runs : goal.returns-in_err-read_into-clause-runs
returns-in_err-read_into-clause-runs c =
    let p = err_from_is_err_and c.from_residual.result c.from_residual.ensures.1 in
    let e = c.in_err-read_into.ensures in
    rw (p.1, p.2) (runs-refused c.args.text.now c.args.most c.in_err-read_into.field-0.0 (record { not_runs = e.not_runs; too_many = e.too_many }))

pub returns-in_err-read_into-clause-no_runs : goal.returns-in_err-read_into-clause-no_runs
returns-in_err-read_into-clause-no_runs c =
    let p = err_from_is_err_and c.from_residual.result c.from_residual.ensures.1 in
    let e = c.in_err-read_into.ensures in
    rw (p.1, p.2) (λ none. err-either _ _ (no_runs-refused c.args.text.now c.args.most c.in_err-read_into.field-0.0
    (record { not_runs = e.not_runs; too_many = e.too_many }) none))

pub returns-in_err-read_into-clause-more : goal.returns-in_err-read_into-clause-more
returns-in_err-read_into-clause-more c =
    let p = err_from_is_err_and c.from_residual.result c.from_residual.ensures.1 in
    let e = c.in_err-read_into.ensures in
    rw (p.1, p.2) (λ more. err-either _ _ (more-refused c.args.text.now c.args.most c.in_err-read_into.field-0.0
    (record { not_runs = e.not_runs; too_many = e.too_many }) more))

pub returns-clause-no_runs : goal.returns-clause-no_runs
returns-clause-no_runs c = λ none.
    let same : c.as_slice.result.now ≡ c.read_into.new.bytes.items = search (rules, common_steps) in
    absurd (none c.read_into.new.bytes.items (subst AreBytes same c.are_bytes.ensures) c.in_ok-read_into.ensures.spelled)

pub returns-clause-more : goal.returns-clause-more
returns-clause-more c = λ more.
    let same : c.as_slice.result.now ≡ c.read_into.new.bytes.items = search (rules, common_steps) in
    absurd (runs-not_more c.args.text.now c.read_into.new.bytes.items c.args.most (subst AreBytes same c.are_bytes.ensures)
    c.in_ok-read_into.ensures.spelled c.in_ok-read_into.ensures.within more)
