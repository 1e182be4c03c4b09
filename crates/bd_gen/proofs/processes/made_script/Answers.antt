use Rattle.std.proofs.Common.{◌≡◌, ◌+◌, ◌++◌, ◌∷◌, [], ℕ, List, sym, ap, ◌∙◌, subst, arith}
use Rattle.bd_base.specs.declared.script.Process.{Process}
use Rattle.bd_base.specs.declared.script.ScheduleLine.{ScheduleLine}
use Rattle.bd_base.specs.declared.script.Script.{Script}
use Rattle.bd_gen.proofs.MadeScript.{AreFirstProcesses, all_processes, no_processes, one_process_more}
use Rattle.bd_gen.proofs.processes.made_script.Goals as goal

pub loop-process-init : goal.loop-process-init
loop-process-init c =
    subst (λ (l : List Process). AreFirstProcesses c.args.n 0 c.args.n l) (sym c.in_ok-processes.ensures) (no_processes c.args.n)

pub loop-process-preserved : goal.loop-process-preserved
loop-process-preserved c =
    let next : ℕ = c.next_process.new.draws.last in
    let made : Process = c.in_ok-next_process.field-0 in
    let more : AreFirstProcesses c.args.n (c.loop-process.process + 1) next (c.loop-process.processes ++ made ∷ []) =
    one_process_more c.args.n c.loop-process.process c.loop-process.draws.last next c.loop-process.processes made c.loop-process.invariant
    c.in_ok-next_process.ensures.process c.in_ok-next_process.ensures.draws in
    subst (AreFirstProcesses c.args.n (c.loop-process.process + 1) next) (sym c.in_ok-push.ensures.ok) more

pub returns : goal.returns
returns c =
    let end : c.loop-process.process ≡ 16 = omega arith in
    let ps : List Process = c.loop-process.processes in
    ap (λ (l : List ScheduleLine). let s : Script = record { processes = ps; schedule = l } in s) c.new.ensures
    ∙ all_processes c.args.n c.loop-process.draws.last ps
    (subst (λ (k : ℕ). AreFirstProcesses c.args.n k c.loop-process.draws.last ps) end c.loop-process.invariant)
