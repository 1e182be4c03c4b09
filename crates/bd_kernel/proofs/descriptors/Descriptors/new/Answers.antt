use Rattle.std.proofs.Common.{◌≡◌, ◌≤◌, Option, List, None, length, replicate, ap, ◌∙◌, sym, arith}
use Rattle.std.proofs.lemmas.List.{length-replicate}
use Rattle.bd_base.specs.declared.limits.TheConstants.{DESCRIPTORS, PROCESSES}
use Rattle.bd_entry.specs.Store.{Descriptor}
use Rattle.bd_kernel.specs.Changes.{Rows}
use Rattle.bd_kernel.proofs.descriptors.Descriptors.new.Goals as goal

pub invariant_of-result : goal.invariant_of-result
invariant_of-result c =
    let n = c.loop-process._process in
    let all : n ≡ c.args.processes = omega arith in
    let held : length c.loop-process.held.items ≡ n =
    ap (λ (hs : List (Option _)). length hs) c.loop-process.invariant ∙ length-replicate n None in
    let rows : length c.in_ok-table.table ≡ c.args.processes =
    ap (λ (rs : Rows). length rs) c.in_ok-table.ensures ∙ length-replicate c.args.processes (replicate DESCRIPTORS None) in
    record {
      each = held ∙ all ∙ sym rows;
      few = omega (arith, held, all, c.requires);
    }
