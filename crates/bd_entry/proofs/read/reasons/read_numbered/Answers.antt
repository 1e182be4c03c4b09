use Rattle.std.specs.Prelude.{codes}
use Rattle.std.proofs.Common.{◌≡◌, ◌≢◌, rules}
use Rattle.bd_entry.proofs.Reasons.{no_numbered, no_open_by}
use Rattle.bd_entry.proofs.read.reasons.read_numbered.Goals as goal

pub returns-else-eq-3 : goal.returns-else-eq-3
returns-else-eq-3 c =
    let denied : c.in_ok-word.word.now ≢ codes "denied" = search rules in
    let open_by : c.in_ok-word.word.now ≢ codes "open-by" = search rules in
    let kernel_open : c.in_ok-word.word.now ≢ codes "kernel-open" = search rules in
    no_numbered c.args.text.now c.in_ok-word.word.now c.in_ok-word.rest.now c.in_ok-word.ensures.split c.in_ok-word.ensures.first denied open_by kernel_open

pub returns-in_err-process : goal.returns-in_err-process
returns-in_err-process c =
    let is : c.in_ok-word.word.now ≡ codes "open-by" = search rules in
    rw c.from_residual-in_err-process.ensures
    (no_open_by c.args.text.now c.in_ok-word.word.now c.in_ok-word.rest.now c.in_ok-word.ensures.split c.in_ok-word.ensures.first is
    c.in_err-process.ensures)
