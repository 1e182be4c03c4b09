use Rattle.std.proofs.Common.{◌≡◌, ◌<◌, Some, [], length, ap, arith, rules}
use Rattle.std.proofs.lemmas.Grind.{common_steps}
use Rattle.bd_base.specs.declared.limits.TheConstants.{PROCESSES}
use Rattle.bd_base.specs.declared.script.Script.{Script}
use Rattle.bd_script.specs.Drafts.{Parts, parts, script_of}
use Rattle.bd_script.specs.Texts.{ProcForm}
use Rattle.bd_script.proofs.DraftLines.{has-more, more-process}
use Rattle.bd_script.proofs.draft.Draft.with_process.Goals as goal

pub invariant_of-result : goal.invariant_of-result
invariant_of-result c =
    let d : Parts = parts c.self.inside.processes c.self.inside.last c.self.inside.schedule c.self.inside.left in
    let none : c.self.inside.schedule ≡ [] = search (rules, common_steps) in
    let same = ap (λ (s : Script). length s.processes) c.self.view_is in
    let room : length (script_of d).processes < PROCESSES = omega (arith, same, c.process_count.ensures.count, c.if-process_count-ge-PROCESSES.false) in
    let more = more-process d c.args.uid none room (omega (arith, c.ranges.uid)) c.self.invariant in
    rw (c.in_ok-processes.ensures, c.new.ensures) more.is_draft

pub returns-clause-ok : goal.returns-clause-ok
returns-clause-ok c =
    let d : Parts = parts c.self.inside.processes c.self.inside.last c.self.inside.schedule c.self.inside.left in
    let none : c.self.inside.schedule ≡ [] = search (rules, common_steps) in
    let same = ap (λ (s : Script). length s.processes) c.self.view_is in
    let room : length (script_of d).processes < PROCESSES = omega (arith, same, c.process_count.ensures.count, c.if-process_count-ge-PROCESSES.false) in
    let more = more-process d c.args.uid none room (omega (arith, c.ranges.uid)) c.self.invariant in
    rw (c.in_ok-processes.ensures, c.new.ensures)
    (has-more c.args.self d (ProcForm c.args.uid)
    (parts (script_of d).processes (Some (record { uid = c.args.uid; calls = [] })) c.self.inside.schedule c.self.inside.left) c.self.view_is more)
