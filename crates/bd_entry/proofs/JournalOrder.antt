-- The order of calls in a journal that is in order, and how often pieces are answered.
use Rattle.std.proofs.Common.{◌≡◌, ℕ, ◌<◌, true, List, [], ◌∷◌, ◌++◌, length, zero, suc, Some, ◌⊎◌, inl, inr, refl, sym, ap, ◌∙◌, subst, arith, ⊎_elim}
use Rattle.std.specs.Prelude.{slice_get}
use Rattle.std.proofs.lemmas.Bool.{both_ways}
use Rattle.std.proofs.lemmas.Option.{none-some, same_Some}
use Rattle.bd_base.specs.declared.script.Script.{Script}
use Rattle.bd_base.specs.declared.journal.At.{At}
use Rattle.bd_entry.specs.declared.entry.Entry.{Entry}
use Rattle.bd_entry.specs.Calls.{at_of, is_finished}
use Rattle.bd_entry.specs.Promises.{CallsAreInOrder}
use Rattle.bd_entry.specs.Rules.{EntryRule, FitsScript, NextCall}
use Rattle.bd_entry.specs.RulesOfCalls.{IsNextCall}
use Rattle.bd_entry.proofs.CallOrder.{numbered, stays_finished}
use Rattle.bd_entry.proofs.Histories.{order_holds}

-- an element of a list with one more is one of before, or the one that joined
push_cases : {X : Type 0} (xs : List X) (y : X) (i : ℕ) (x : X) → slice_get (xs ++ y ∷ []) i ≡ Some x →
    ((i < length xs) × (slice_get xs i ≡ Some x)) ⊎ ((i ≡ length xs) × (y ≡ x))
push_cases [] y zero x is = inr (refl, same_Some y x is)
push_cases [] y (suc i) x is = absurd (none-some x is)
push_cases (z ∷ xs) y zero x is = inl (omega arith, is)
push_cases (z ∷ xs) y (suc i) x is =
    ⊎_elim
    (λ old. inl (omega (arith, old.0), old.1))
    (λ new. inr (ap suc new.0, new.1))
    (push_cases xs y i x is)

-- where an entry stands, the earlier calls of its process are finished
record EarlierAreFinished (script : Script) (journal : List Entry) : Type 0 where
  pub earlier : (i : ℕ) (e : Entry) → slice_get journal i ≡ Some e → (call : ℕ) → call < (at_of e).call →
      is_finished script journal (numbered (at_of e).process call) ≡ true
  pub ordered : (i j : ℕ) (first second : Entry) → slice_get journal i ≡ Some first → slice_get journal j ≡ Some second →
      (at_of first).process ≡ (at_of second).process → (at_of first).call < (at_of second).call → i < j

-- the new entry stands at the end, and its own call was not finished
earlier-push : (script : Script) (before : List Entry) (e : Entry) → ((rule : EntryRule) → FitsScript script before e rule) →
    EarlierAreFinished script before → EarlierAreFinished script (before ++ e ∷ [])
earlier-push script before e fits holds =
    let next : IsNextCall script before (at_of e) = fits NextCall in
    record {
      earlier = λ i x is call lt.
          stays_finished script before e (numbered (at_of x).process call) next
          (⊎_elim
          (λ old. holds.earlier i x old.1 call lt)
          (λ new.
          subst (λ (y : Entry). call < (at_of y).call → is_finished script before (numbered (at_of y).process call) ≡ true) new.1 (next.earlier call) lt)
          (push_cases before e i x is));
      ordered = λ i j first second is_first is_second same lt.
          ⊎_elim
          (λ old.
          ⊎_elim
          (λ also. holds.ordered i j first second old.1 also.1 same lt)
          (λ new. let below : i < length before = old.0 in let last : j ≡ length before = new.0 in omega arith)
          (push_cases before e j second is_second))
          (λ new.
          let mine : at_of e ≡ at_of first = ap at_of new.1 in
          ⊎_elim
          (λ old.
          let done : is_finished script before (numbered (at_of second).process (at_of first).call) ≡ true =
          holds.earlier j second old.1 (at_of first).call lt in
          let finished : is_finished script before (at_of first) ≡ true =
          subst (λ (process : ℕ). is_finished script before (numbered process (at_of first).call) ≡ true) (sym same) done in
          absurd (both_ways (is_finished script before (at_of e)) next.unfinished
          (subst (λ (at : At). is_finished script before at ≡ true) (sym mine) finished)))
          (λ also.
          let one : (at_of first).call ≡ (at_of second).call = ap (λ (at : At). at.call) (sym mine ∙ ap at_of also.1) in
          absurd (omega arith))
          (push_cases before e j second is_second))
          (push_cases before e i first is_first);
    }

pub calls_are_in_order : CallsAreInOrder
calls_are_in_order script journal i j first second order =
    let nothing : EarlierAreFinished script [] =
    record {
      earlier = λ i e is. absurd (none-some e is);
      ordered = λ i j first second is. absurd (none-some first is);
    } in
    (order_holds script (EarlierAreFinished script) nothing (earlier-push script) journal order).ordered i j first second
