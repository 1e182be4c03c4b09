use Rattle.std.proofs.Common.{◌≡◌, ◌+◌, ◌++◌, ◌∷◌, [], take, ap, sym, ◌∙◌}
use Rattle.std.proofs.lemmas.List.{take_more}
use Rattle.bd_entry.specs.Texts.{journal_text}
use Rattle.bd_entry.specs.declared.entry.Entry.{Entry}
use Rattle.bd_entry.proofs.Lines.{line_written}
use Rattle.bd_entry.proofs.print.print_journal.Goals as goal

pub loop-entry-preserved : goal.loop-entry-preserved
loop-entry-preserved c =
    let entries = c.args.entries.now in
    let i = c.loop-entry.entry-index in
    let item = c.entry-item.result in
    let more : take (i + 1) entries ≡ take i entries ++ item ∷ [] =
    take_more entries i item c.loop-entry-test.true ∙ ap (λ (x : Entry). take i entries ++ x ∷ []) (sym c.entry-item.is) in
    line_written (take i entries) item c.loop-entry.text.items c.push_entry.new.text.items c.push.new.self.items c.loop-entry.invariant
    c.in_ok-push_entry.ensures
    c.in_ok-push.ensures.items
    ∙ ap journal_text (sym more)
