use Rattle.std.proofs.Common.{◌≡◌, ◌++◌, ◌∷◌, rules}
use Rattle.bd_blocks.specs.declared.text.TheConstants.{LF}
use Rattle.bd_entry.specs.Texts.{header}
use Rattle.bd_entry.proofs.read.read_journal.Goals as goal

pub returns-clause-refused : goal.returns-clause-refused
returns-clause-refused c =
    let begins : c.args.bytes.now ≡ header ++ LF ∷ c.in-Some.rest.now = search rules in
    rw begins c.read_lines.ensures.refused
