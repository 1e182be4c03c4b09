use Rattle.bd_script.proofs.LawsOfTexts.{one-script}
use Rattle.bd_script.proofs.laws.one_script.Goals as goal

pub returns : goal.returns
returns c = one-script
