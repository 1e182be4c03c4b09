use Rattle.std.specs.Prelude.{All}
use Rattle.std.proofs.Common.{◌≡◌, ◌+◌, ◌*◌, ◌<◌, ◌≤◌, ◌++◌, ◌∷◌, [], ℕ, List, length, map, sym, ap, ◌∙◌, subst, arith}
use Rattle.std.proofs.lemmas.Result.{err_from_is_err_and}
use Rattle.bd_base.specs.declared.script.Item.{Item}
use Rattle.bd_base.specs.declared.script.ScheduleLine.{ScheduleLine}
use Rattle.bd_base.specs.declared.limits.TheConstants.{ITEMS, SCHEDULES}
use Rattle.bd_base.specs.declared.script.Script.{Script}
use Rattle.bd_script.specs.declared.schedules.Turns.{Turns}
use Rattle.bd_script.specs.Drafts.{AreKeptOf, IsDraft, Parts, RefusesForm, parts, script_of}
use Rattle.bd_script.specs.Rules.{HasPlace, IsForm, IsInOrder, IsInRange, counts_of, turns_written}
use Rattle.bd_script.specs.Schedules.{item_of, kept_of, kept_turns}
use Rattle.bd_base.specs.Scripts.{total_turns}
use Rattle.bd_script.specs.Texts.{Form, ScheduleForm}
use Rattle.bd_script.proofs.DraftItems.{actor-refused, kept-long, kept-turns, kept-whole, more-items}
use Rattle.bd_script.proofs.DraftLines.{IsMore, has-more}
use Rattle.bd_script.proofs.draft.Draft.with_items.Goals as goal

pub returns-then-kept-clause-refused : goal.returns-then-kept-clause-refused
returns-then-kept-clause-refused c = λ form is range k.
    let long = kept-long c.args.kept.now k.0 k.2 (omega (arith, c.if-kept.true)) in
    subst (λ (f : Form). IsInOrder (counts_of c.args.self) f × ¬ HasPlace (counts_of c.args.self) f) (sym k.1) (tt, λ place. omega (arith, long, place.1))

pub returns-in_default-clause-refused : goal.returns-in_default-clause-refused
returns-in_default-clause-refused c = λ form is range k.
    let whole = kept-whole c.args.kept.now k.0 k.2 (omega (arith, c.if-kept.false)) in
    let turns : kept_turns c.args.kept.now ≡ turns_written k.0 = ap kept_turns whole.1 ∙ kept-turns k.0 in
    let same : total_turns c.self.inside.schedule ≡ total_turns c.args.self.schedule = ap (λ (s : Script). total_turns s.schedule) c.self.view_is in
    subst (λ (f : Form). IsInOrder (counts_of c.args.self) f × ¬ HasPlace (counts_of c.args.self) f) (sym k.1)
    (tt, λ place. omega (arith, turns, place.2, same, c.in_default.ensures, c.self.invariant.left))

pub returns-in_err-items-clause-refused : goal.returns-in_err-items-clause-refused
returns-in_err-items-clause-refused c =
    let d : Parts = parts c.self.inside.processes c.self.inside.last c.self.inside.schedule c.self.inside.left in
    let p = err_from_is_err_and c.from_residual.result c.from_residual.ensures.1 in
    let fault = c.in_err-items.field-0.0 in
    let count = c.process_count.ensures.count ∙ sym (ap (λ (s : Script). length s.processes) c.self.view_is) in
    rw (p.1, p.2) (λ form is range k.
    let whole = kept-whole c.args.kept.now k.0 k.2 (omega (arith, c.if-kept.false)) in
    let turns : kept_turns c.args.kept.now ≡ turns_written k.0 = ap kept_turns whole.1 ∙ kept-turns k.0 in
    let place : HasPlace (counts_of (script_of d)) (ScheduleForm k.0) =
    (omega (arith, c.len.ensures, c.if-len.false), whole.0, omega (arith, turns, c.in-Some.ensures, c.self.invariant.left)) in
    subst (λ (s : Script). RefusesForm s form fault) c.self.view_is
    (subst (λ (f : Form). RefusesForm (script_of d) f fault) (sym k.1)
    (actor-refused d c.args.kept.now k.0 _ whole.1 (ap (λ (n : ℕ). 2 * n) count) place fault c.in_err-items.ensures.refused)))

-- the draft with the items that were kept
taken : (d : Parts) (kept : List Turns) (left processes : ℕ) (items : List Item) (schedule : List ScheduleLine) → IsDraft d
    → processes ≡ length (script_of d).processes → length d.schedule < SCHEDULES → length kept ≤ ITEMS → left + kept_turns kept ≡ d.left
    → items ≡ map item_of kept → All (λ (t : Turns). t.actor ≤ 2 * processes) kept → schedule ≡ d.schedule ++ record { items = items } ∷ []
    → (form : Form) → IsForm form → IsInRange form → AreKeptOf kept form → IsMore d form (parts d.processes d.last schedule left)
taken d kept left processes items schedule draft count room few turns made there pushed form is range k =
    let whole = kept-whole kept k.0 k.2 few in
    let sum : kept_turns kept ≡ turns_written k.0 = ap kept_turns whole.1 ∙ kept-turns k.0 in
    let some : 1 ≤ length k.0 = subst IsForm k.1 is in
    let all : All (λ (t : Turns). t.actor ≤ 2 * length (script_of d).processes) (map kept_of k.0) =
    subst (All (λ (t : Turns). t.actor ≤ 2 * length (script_of d).processes)) whole.1
    (subst (λ (n : ℕ). All (λ (t : Turns). t.actor ≤ 2 * n) kept) count there) in
    let line : List Item → ScheduleLine = λ l. record { items = l } in
    let new : schedule ≡ d.schedule ++ line (map item_of (map kept_of k.0)) ∷ [] =
    pushed ∙ ap (λ (l : List Item). d.schedule ++ line l ∷ []) (made ∙ ap (map item_of) whole.1) in
    let more = more-items d k.0 left draft room some whole.0 (subst IsInRange k.1 range) (omega (arith, sum, turns)) all in
    subst (λ (s : List ScheduleLine). IsMore d form (parts d.processes d.last s left)) (sym new)
    (subst (λ (f : Form). IsMore d f (parts d.processes d.last (d.schedule ++ line (map item_of (map kept_of k.0)) ∷ []) left)) (sym k.1) more)

pub invariant_of-result : goal.invariant_of-result
invariant_of-result c =
    let d : Parts = parts c.self.inside.processes c.self.inside.last c.self.inside.schedule c.self.inside.left in
    let count = c.process_count.ensures.count ∙ sym (ap (λ (s : Script). length s.processes) c.self.view_is) in
    let read = c.requires in
    let more = taken d c.args.kept.now c.in-Some.left c.process_count.result c.in_ok-items.items c.push.new.self c.self.invariant count
    (omega (arith, c.len.ensures, c.if-len.false)) (omega (arith, c.if-kept.false)) c.in-Some.ensures c.in_ok-items.ensures.items
    c.in_ok-items.ensures.actors c.in_ok-push.ensures.ok read.0 read.1 read.2 read.3 in
    more.is_draft

pub returns-clause-ok : goal.returns-clause-ok
returns-clause-ok c = λ form is range k.
    let d : Parts = parts c.self.inside.processes c.self.inside.last c.self.inside.schedule c.self.inside.left in
    let count = c.process_count.ensures.count ∙ sym (ap (λ (s : Script). length s.processes) c.self.view_is) in
    let more = taken d c.args.kept.now c.in-Some.left c.process_count.result c.in_ok-items.items c.push.new.self c.self.invariant count
    (omega (arith, c.len.ensures, c.if-len.false)) (omega (arith, c.if-kept.false)) c.in-Some.ensures c.in_ok-items.ensures.items
    c.in_ok-items.ensures.actors c.in_ok-push.ensures.ok form is range k in
    has-more c.args.self d form (parts c.self.inside.processes c.self.inside.last c.push.new.self c.in-Some.left) c.self.view_is more
