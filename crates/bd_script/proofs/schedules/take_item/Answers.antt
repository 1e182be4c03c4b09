use Rattle.std.proofs.Common.{◌≡◌, ◌<◌, ◌≤◌, ℕ, List, Option, [], ◌∷◌, ◌++◌, length, sym, ap, ◌∙◌, subst, arith, rules}
use Rattle.std.proofs.lemmas.Grind.{common_steps}
use Rattle.bd_base.specs.declared.limits.TheConstants.{ITEMS}
use Rattle.bd_script.specs.declared.schedules.Turns.{Turns}
use Rattle.bd_script.specs.Schedules.{AreKept, AreTurns, kept_of}
use Rattle.bd_script.proofs.ItemTexts.{kept-more, kept-none, kept-past}
use Rattle.bd_script.proofs.schedules.take_item.Goals as goal

pub returns-in_default-turns-clause-ok : goal.returns-in_default-turns-clause-ok
returns-in_default-turns-clause-ok c =
    let read = c.in-Some.ensures.some in
    let none = subst (λ (t : Option ℕ). AreTurns t read.0) c.in_default-turns.is read.3 in
    (read.0, read.1, λ done are. kept-none c.args.scan.in_range c.args.scan.kept.items done read.0 none are)

pub returns-then-len-clause-ok : goal.returns-then-len-clause-ok
returns-then-len-clause-ok c =
    let read = c.in-Some.ensures.some in
    let some = subst (λ (t : Option ℕ). AreTurns t read.0) c.in-Some-turns.is read.3 in
    let full : ITEMS < length c.args.scan.kept.items = grind (arith, common_steps, c.if-len.true, c.len.ensures) in
    (read.0, read.1, λ done are. kept-past c.args.scan.in_range c.args.scan.kept.items done read.0 some.0 full are)

pub returns-clause-ok : goal.returns-clause-ok
returns-clause-ok c =
    let read = c.in-Some.ensures.some in
    let some = subst (λ (t : Option ℕ). AreTurns t read.0) c.in-Some-turns.is read.3 in
    let room : length c.args.scan.kept.items ≤ ITEMS = grind (arith, common_steps, c.if-len.false, c.len.ensures) in
    let made : Turns = record { actor = c.in-Some.read.actor; turns = c.in-Some-turns.turns } in
    let same : made ≡ kept_of read.0 =
    ap (λ (n : ℕ). let t : Turns = record { actor = n; turns = c.in-Some-turns.turns } in t) read.2
    ∙ ap (λ (n : ℕ). let t : Turns = record { actor = (kept_of read.0).actor; turns = n } in t) some.1 in
    let pushed : c.push.new.self.items ≡ c.args.scan.kept.items ++ made ∷ [] = search (rules, common_steps) in
    let items : c.push.new.self.items ≡ c.args.scan.kept.items ++ kept_of read.0 ∷ [] = pushed ∙ ap (λ (t : Turns). c.args.scan.kept.items ++ t ∷ [])
    same in (
      read.0,
      read.1,
      λ done are. subst (λ (l : List Turns). AreKept c.args.scan.in_range l (done ++ read.0 ∷ [])) (sym items)
          (kept-more c.args.scan.in_range c.args.scan.kept.items done read.0 some.0 room are),
    )
