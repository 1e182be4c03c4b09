use Rattle.bd_script.proofs.LawsOfTexts.{one-refusal}
use Rattle.bd_script.proofs.laws.one_refusal.Goals as goal

pub returns : goal.returns
returns c = one-refusal
