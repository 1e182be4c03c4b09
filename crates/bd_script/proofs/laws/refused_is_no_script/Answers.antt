use Rattle.bd_script.proofs.LawsOfTexts.{refused-no_script}
use Rattle.bd_script.proofs.laws.refused_is_no_script.Goals as goal

pub returns : goal.returns
returns c = refused-no_script
