use Rattle.std.proofs.Common.{false, refl}
use Rattle.std.proofs.lemmas.List.{length-replicate}
use Rattle.bd_base.specs.declared.key_list.TheConstants.{MOST_KEYS}
use Rattle.bd_kernel.specs.Marks.{number_of_key}
use Rattle.bd_kernel.proofs.MarkRanges.{unset}
use Rattle.bd_kernel.proofs.running_call.RunningCall.new.Goals as goal

pub invariant_of-result : goal.invariant_of-result
invariant_of-result c = record { all = length-replicate MOST_KEYS false; none = λ none number. unset MOST_KEYS number }

pub returns : goal.returns
returns c =
    record {
      begun = refl;
      opened = refl;
      answered = λ piece. unset 5 piece;
      missed = λ piece. unset 5 piece;
      cleared = λ process fd part key. unset MOST_KEYS (number_of_key process fd part);
    }
