use Rattle.std.proofs.Common.{◌≡◌, ℕ, List, [], ◌∷◌, ◌++◌, true, false, Bool, refl, sym, ap, ◌∙◌, subst, length-append, arith}
use Rattle.std.proofs.lemmas.Grind.{common_steps}
use Rattle.std.proofs.lemmas.Result.{err_from_is_err_and}
use Rattle.bd_script.proofs.ItemTexts.{done_text, front-fault, items-refused, items_text-last, last-fault, no-items, scan-step}
use Rattle.bd_script.specs.Schedules.{AreKept}
use Rattle.bd_script.specs.Texts.{Written}
use Rattle.bd_script.proofs.schedules.read_items.Goals as goal

pub loop-field-init : goal.loop-field-init
loop-field-init c = record {
  done = [];
  split = refl;
  are_kept = (λ k d within. absurd (omega (arith, within)), c.new.ensures.items);
}

pub returns-in_err-scan-clause-refused : goal.returns-in_err-scan-clause-refused
returns-in_err-scan-clause-refused c =
    let p = err_from_is_err_and c.from_residual.result c.from_residual.ensures.1 in
    let s = c.loop-field.invariant in
    let split = c.in-Some.ensures in
    rw (p.1, p.2) (items-refused c.args.text.now c.in-Some.field.now
    (λ none. no-items c.args.text.now c.loop-field.rest.now s.done s.split
    (front-fault c.loop-field.rest.now c.in-Some.field.now c.in-Some.next.now split.split split.first none))
    c.in_err-scan.field-0.0 c.in_err-scan.ensures.refused)

pub loop-field-preserved : goal.loop-field-preserved
loop-field-preserved c =
    let ok = c.in_ok-scan.ensures.ok in
    scan-step c.args.text.now c.loop-field.rest.now c.in-Some.field.now c.in-Some.next.now _ _ _ _ c.loop-field.invariant ok.0 c.in-Some.ensures.split ok.1 ok.2

pub returns-in_err-scan-2-clause-refused : goal.returns-in_err-scan-2-clause-refused
returns-in_err-scan-2-clause-refused c =
    let p = err_from_is_err_and c.from_residual-in_err-scan-2.result c.from_residual-in_err-scan-2.ensures.1 in
    let s = c.loop-field.invariant in
    rw (p.1, p.2) (items-refused c.args.text.now c.loop-field.rest.now
    (λ none. no-items c.args.text.now c.loop-field.rest.now s.done s.split (last-fault c.loop-field.rest.now c.in_default.ensures.none none))
    c.in_err-scan-2.field-0.0 c.in_err-scan-2.ensures.refused)

pub returns-then-not-scan-clause-refused : goal.returns-then-not-scan-clause-refused
returns-then-not-scan-clause-refused c =
    let s = c.loop-field.invariant in
    let ok = c.in_ok-scan-2.ensures.ok in
    let items : List Written = s.done ++ ok.0 ∷ [] in
    let is : c.in_ok-scan-2.scan.in_range ≡ false = grind (arith, common_steps, c.if-not-scan.true) in
    let kept = ok.2 s.done s.are_kept in (
      items,
      omega (arith, length-append s.done (ok.0 ∷ [])),
      s.split ∙ ap (λ (l : List ℕ). done_text s.done ++ l) ok.1 ∙ sym (items_text-last s.done ok.0),
      subst (λ (b : Bool). AreKept b c.in_ok-scan-2.scan.kept.items items) is kept,
    )

pub returns-clause-ok : goal.returns-clause-ok
returns-clause-ok c =
    let s = c.loop-field.invariant in
    let ok = c.in_ok-scan-2.ensures.ok in
    let items : List Written = s.done ++ ok.0 ∷ [] in
    let is : c.in_ok-scan-2.scan.in_range ≡ true = grind (arith, common_steps, c.if-not-scan.false) in
    let kept = subst (λ (b : Bool). AreKept b c.in_ok-scan-2.scan.kept.items items) is (ok.2 s.done s.are_kept) in (
      items,
      omega (arith, length-append s.done (ok.0 ∷ [])),
      s.split ∙ ap (λ (l : List ℕ). done_text s.done ++ l) ok.1 ∙ sym (items_text-last s.done ok.0),
      kept.0,
      kept.1,
    )
