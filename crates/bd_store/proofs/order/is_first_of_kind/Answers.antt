use Rattle.std.proofs.Common.{◌≡◌, true, false, not, ◌↔◌, sym, ap, ◌∙◌, subst}
use Rattle.std.specs.Prelude.{is_some}
use Rattle.std.specs.List.{list_any}
use Rattle.std.proofs.lemmas.Bool.{not-false}
use Rattle.bd_entry.specs.declared.entry.Entry.{Entry}
use Rattle.bd_entry.specs.Calls.{has_missed, is_answered, is_opened}
use Rattle.bd_entry.specs.RulesOfCalls.{IsFirstOfKind}
use Rattle.bd_store.proofs.FirstEntries.{not-true_iff, some_opened}
use Rattle.bd_store.proofs.order.is_first_of_kind.Goals as goal

pub returns-in-Opened : goal.returns-in-Opened
returns-in-Opened c entries marks =
    let same : is_some c.opened.result ≡ list_any is_opened entries =
    ap is_some (c.opened.ensures ∙ marks.opened) ∙ some_opened entries in
    let none : (c.is_none.result ≡ true) ↔ (list_any is_opened entries ≡ false) =
    (λ yes. sym same ∙ c.is_none.ensures ∙ ap not yes, λ no. not-false c.is_none.result (sym c.is_none.ensures ∙ same ∙ no)) in
    subst (λ (e : Entry). (c.is_none.result ≡ true) ↔ IsFirstOfKind entries e) (sym c.in-Opened.is) none

pub returns-then-not-is_answered : goal.returns-then-not-is_answered
returns-then-not-is_answered c entries marks =
    let piece = c.in-Missed.piece in
    let unanswered : is_answered piece entries ≡ false =
    sym (marks.answered piece) ∙ sym c.is_answered-in-Missed.ensures ∙ c.if-not-is_answered.true in
    let unmissed = not-true_iff c.has_missed.result (has_missed piece entries) (c.has_missed.ensures ∙ marks.missed piece) in
    subst (λ (e : Entry). (not c.has_missed.result ≡ true) ↔ IsFirstOfKind entries e) (sym c.in-Missed.is)
    (λ yes. (unanswered, unmissed.0 yes), λ both. unmissed.1 both.1)

pub returns-in-Access : goal.returns-in-Access
returns-in-Access c entries marks =
    let piece = c.in-Access.piece in
    let unanswered =
    not-true_iff c.is_answered.result (is_answered piece entries) (c.is_answered.ensures ∙ marks.answered piece) in
    subst (λ (e : Entry). (not c.is_answered.result ≡ true) ↔ IsFirstOfKind entries e) (sym c.in-Access.is) unanswered
