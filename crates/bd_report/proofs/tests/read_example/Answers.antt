use Rattle.std.proofs.Common.{◌≡◌, List, length, refl, sym, ap, ◌∙◌, subst}
use Rattle.bd_base.specs.declared.script.Script.{Script}
use Rattle.bd_blocks.specs.Texts.{number_text}
use Rattle.bd_entry.specs.declared.entry.Entry.{Entry}
use Rattle.bd_entry.specs.Calls.{calls_of}
use Rattle.bd_entry.specs.History.{InOrder}
use Rattle.bd_report.proofs.Example.{are_entries, in_order, is_script, journal, script}
use Rattle.bd_report.proofs.tests.read_example.Goals as goal

pub returns-clause-in_order : goal.returns-clause-in_order
unfolding number_text
returns-clause-in_order c =
    let script_is : c.in-Ok.script ≡ script =
    c.one_script.ensures c.in-Ok.script script c.in-Ok.ensures.script is_script (sym c.in-Ok.ensures.text ∙ refl) in
    let journal_is : c.in-Ok-read_journal.journal ≡ journal =
    c.one_journal.ensures c.in-Ok-read_journal.journal journal c.in-Ok-read_journal.ensures.entries are_entries
    (sym c.in-Ok-read_journal.ensures.text ∙ refl) in
    subst (λ (s : Script). InOrder s c.in-Ok-read_journal.journal) (sym script_is)
    (subst (λ (j : List Entry). InOrder script j) (sym journal_is) in_order)

pub returns-clause-calls : goal.returns-clause-calls
unfolding number_text
returns-clause-calls c =
    let script_is : c.in-Ok.script ≡ script =
    c.one_script.ensures c.in-Ok.script script c.in-Ok.ensures.script is_script (sym c.in-Ok.ensures.text ∙ refl) in
    ap (λ (s : Script). length (calls_of s 0)) script_is
