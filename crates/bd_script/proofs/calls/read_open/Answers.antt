use Rattle.std.proofs.Common.{sym, ◌∙◌}
use Rattle.bd_blocks.proofs.Spellings.{front_name-unique}
use Rattle.bd_blocks.specs.Words.{mode_and_how_text}
use Rattle.bd_script.proofs.NamedLines.{open-up}
use Rattle.bd_script.proofs.calls.read_open.Goals as goal

pub returns-in_default-read_mode_and_how-clause-refused : goal.returns-in_default-read_mode_and_how-clause-refused
returns-in_default-read_mode_and_how-clause-refused c = λ f is same.
    let line = open-up c.args.rest.now f is same in
    let first = c.in-Some.ensures.some in
    c.in_default-read_mode_and_how.ensures (line.1, line.2) tt
    (front_name-unique c.in-Some.name.now line.0 c.in-Some.rest.now (mode_and_how_text (line.1, line.2)) first.0 line.3 (sym first.1 ∙ line.4)).1
