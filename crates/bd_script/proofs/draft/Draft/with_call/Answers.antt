use Rattle.std.proofs.Common.{◌≡◌, ◌<◌, ◌≤◌, ◌++◌, Option, Some, [], ◌∷◌, length, sym, ap, ◌∙◌, length-append, arith, rules}
use Rattle.std.specs.Option.{option_to_list}
use Rattle.std.proofs.lemmas.Grind.{common_steps}
use Rattle.bd_base.specs.declared.limits.TheConstants.{CALLS}
use Rattle.bd_base.specs.declared.script.Process.{Process}
use Rattle.bd_base.specs.declared.script.Script.{Script}
use Rattle.bd_script.specs.Drafts.{Parts, parts}
use Rattle.bd_script.specs.Rules.{last_calls}
use Rattle.bd_script.specs.Texts.{CallForm}
use Rattle.bd_script.proofs.DraftLines.{has-more, last_calls-push, more-call}
use Rattle.bd_script.proofs.draft.Draft.with_call.Goals as goal

pub returns-then-len-clause-refused : goal.returns-then-len-clause-refused
returns-then-len-clause-refused c =
    let p = c.in-Some.process in
    let ps = c.self.inside.processes in
    let none : c.self.inside.schedule ≡ [] = search (rules, common_steps) in
    let all : c.args.self.processes ≡ ps ++ p ∷ [] =
    sym (ap (λ (s : Script). s.processes) c.self.view_is) ∙ ap (λ (o : Option Process). ps ++ option_to_list o) c.in-Some.is in
    let schedule : length c.args.self.schedule ≡ 0 = sym (ap (λ (s : Script). length s.schedule) c.self.view_is) ∙ ap length none in
    let full : CALLS ≤ length p.calls = omega (arith, c.if-len.true, c.len.ensures) in
    let count : last_calls c.args.self.processes ≡ length p.calls = ap last_calls all ∙ last_calls-push ps p in
    ((omega (arith, ap length all, length-append ps (p ∷ [])), schedule), λ few. omega (arith, count, full, few))

pub invariant_of-result : goal.invariant_of-result
invariant_of-result c =
    let d : Parts = parts c.self.inside.processes c.self.inside.last c.self.inside.schedule c.self.inside.left in
    let none : c.self.inside.schedule ≡ [] = search (rules, common_steps) in
    let room : length c.in-Some.process.calls < CALLS = omega (arith, c.if-len.false, c.len.ensures) in
    let more = more-call d c.in-Some.process c.args.call none c.in-Some.is room c.requires c.self.invariant in
    rw c.in_ok-push.ensures.ok more.is_draft

pub returns-clause-ok : goal.returns-clause-ok
returns-clause-ok c =
    let d : Parts = parts c.self.inside.processes c.self.inside.last c.self.inside.schedule c.self.inside.left in
    let p = c.in-Some.process in
    let none : c.self.inside.schedule ≡ [] = search (rules, common_steps) in
    let room : length p.calls < CALLS = omega (arith, c.if-len.false, c.len.ensures) in
    let more = more-call d p c.args.call none c.in-Some.is room c.requires c.self.invariant in
    let new : Parts = parts c.self.inside.processes
    (Some (record { uid = p.uid; calls = p.calls ++ c.args.call ∷ [] })) c.self.inside.schedule c.self.inside.left in
    rw c.in_ok-push.ensures.ok (has-more c.args.self d (CallForm c.args.call) new c.self.view_is more)
