use Rattle.std.proofs.Common.{◌≡◌, rules}
use Rattle.std.proofs.lemmas.Grind.{common_steps}
use Rattle.bd_script.specs.Texts.{script_text}
use Rattle.bd_script.proofs.LawsOfTexts.{same-script}
use Rattle.bd_script.proofs.laws.printed_is_read.Goals as goal

pub returns-clause-same : goal.returns-clause-same
returns-clause-same c =
    let spelled : c.as_slice.result.now ≡ script_text c.args.script.now = search (rules, common_steps) in
    same-script c.args.script.now c.read_script.result c.requires c.read_script.ensures.script (rw spelled at c.read_script.ensures.text)
