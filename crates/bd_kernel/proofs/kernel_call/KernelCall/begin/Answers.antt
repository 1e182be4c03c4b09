use Rattle.std.proofs.Common.{◌≡◌, [], false, sym, subst}
use Rattle.bd_base.specs.declared.script.Call.{Call}
use Rattle.bd_entry.specs.Calls.{is_ended_by}
use Rattle.bd_kernel.proofs.CallsWithoutEntries.{not_ended}
use Rattle.bd_kernel.proofs.kernel_call.KernelCall.begin.Goals as goal

pub returns-clause-entries : goal.returns-clause-entries
returns-clause-entries c =
    record {
      marks = c.new.ensures;
      finished =
          sym (subst (λ (call : Call). is_ended_by call [] ≡ false) (sym c.in_ok-copy.ensures)
          (not_ended c.args.call.now c.requires));
    }
