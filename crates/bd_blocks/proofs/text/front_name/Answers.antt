use Rattle.std.specs.Prelude.{IsTrue}
use Rattle.std.proofs.Common.{false}
use Rattle.bd_base.specs.Names.{IsName}
use Rattle.bd_blocks.specs.Texts.{name_text}
use Rattle.bd_blocks.proofs.Spellings.{name-field, no-first}
use Rattle.std.proofs.Common.{◌≡◌, subst, sym}
use Rattle.bd_blocks.proofs.text.front_name.Goals as goal

pub returns-then-not-is_name-clause-none : goal.returns-then-not-is_name-clause-none
returns-then-not-is_name-clause-none c =
    no-first name_text IsName name-field c.args.text.now c.in_ok-name.name.now c.in_ok-name.rest.now c.in_ok-name.ensures.split
    c.in_ok-name.ensures.first
    (λ name is same.
    let here : IsName c.in_ok-name.name.now = subst IsName (sym same) is in
    let no : IsTrue false = c.if-not-is_name.ensures.1 here in
    cc)
