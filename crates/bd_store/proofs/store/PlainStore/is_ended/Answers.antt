use Rattle.std.proofs.Common.{◌≡◌, ℕ, [], ◌∷◌, ◌++◌, sym, ap, ◌∙◌, subst}
use Rattle.bd_entry.specs.Calls.{at_of}
use Rattle.bd_kernel.specs.Marks.{AreMarksOf, Marks}
use Rattle.bd_store.specs.Kept.{marks_at}
use Rattle.bd_store.proofs.store.PlainStore.is_ended.Goals as goal

pub returns : goal.returns
returns c before marks unfinished =
    let mine : c.running.result.now ≡ marks_at c.args.self.now (at_of c.args.last.now).process =
    c.running.ensures ∙ ap (λ (p : ℕ). marks_at c.args.self.now p) (ap (λ x. x.process) c.at_of.ensures) in
    c.is_ended_by.ensures before (subst (λ (m : Marks). AreMarksOf m (before ++ c.args.last.now ∷ [])) (sym mine) marks) unfinished
