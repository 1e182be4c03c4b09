use Rattle.bd_script.proofs.LawsOfTexts.{IsTold, told-reads, told-refuses}
use Rattle.bd_script.proofs.reader.read_script.Goals as goal

pub returns-clause-reads : goal.returns-clause-reads
returns-clause-reads c =
    let told : IsTold c.args.bytes.now c.read_text.result =
    record { script = c.read_text.ensures.script; spelled = c.read_text.ensures.text; refused = c.read_text.ensures.refused } in
    told-reads c.args.bytes.now c.read_text.result told

pub returns-clause-refuses : goal.returns-clause-refuses
returns-clause-refuses c =
    let told : IsTold c.args.bytes.now c.read_text.result =
    record { script = c.read_text.ensures.script; spelled = c.read_text.ensures.text; refused = c.read_text.ensures.refused } in
    told-refuses c.args.bytes.now c.read_text.result told
