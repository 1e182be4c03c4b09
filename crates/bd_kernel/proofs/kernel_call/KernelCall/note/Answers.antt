use Rattle.std.proofs.Common.{◌≡◌, ◌∷◌, ◌++◌, [], List, false, sym, subst}
use Rattle.bd_entry.specs.declared.entry.Entry.{Entry}
use Rattle.bd_entry.specs.Calls.{is_ended_by}
use Rattle.bd_kernel.specs.Marks.{AreMarksOf, Marks}
use Rattle.bd_kernel.specs.Turns.{AreEntriesOf, Progress}
use Rattle.bd_kernel.proofs.MarkLemmas.{noted-marks}
use Rattle.bd_kernel.proofs.kernel_call.KernelCall.note.Goals as goal

pub returns-clause-entry : goal.returns-clause-entry
returns-clause-entry c before entries unfinished =
    let i = c.self.inside in
    let e = c.args.entry.now in
    let mine = subst (λ (q : Progress). AreEntriesOf q before) (sym c.self.view_is) entries in
    let open_still = subst (λ (q : Progress). is_ended_by q.call before ≡ false) (sym c.self.view_is) unfinished in
    let marks : AreMarksOf c.note.new.self (before ++ e ∷ []) =
    subst (λ (m : Marks). AreMarksOf m (before ++ e ∷ [])) (sym c.note.ensures.noted)
    (noted-marks i.running before e c.note.ensures.room c.requires c.note.ensures.key mine.marks) in
    record { marks = marks; finished = c.is_ended_by-self-inside.ensures before marks open_still }
