-- The table of what a journal tells of each call, as one more entry joins the journal.
use Rattle.std.proofs.Common.{◌≡◌, ◌≢◌, ℕ, ◌<◌, List, [], ◌∷◌, ◌++◌, Some, length, set, arith, sym, ap, ◌∙◌, subst, ⊎_elim}
use Rattle.std.specs.Prelude.{slice_get}
use Rattle.std.proofs.lemmas.Bool.{cases_Bool, cases_eq}
use Rattle.std.proofs.lemmas.List.{get_or-set_other, get_or-set_same}
use Rattle.std.proofs.Math.ListN.{length-set}
use Rattle.std.proofs.lemmas.Option.{get_or_from_slice_get, same_Some, slice_get-get_or, slice_get_within}
use Rattle.bd_base.specs.declared.journal.At.{At}
use Rattle.bd_base.specs.declared.limits.TheConstants.{CALLS}
use Rattle.bd_base.specs.declared.script.Call.{Call}
use Rattle.bd_base.specs.declared.script.Script.{Script}
use Rattle.bd_base.specs.Scripts.{IsWithinLimits}
use Rattle.bd_entry.specs.declared.entry.Entry.{Entry}
use Rattle.bd_entry.specs.Calls.{at_of, call_at, entries_of, same_call}
use Rattle.bd_entry.proofs.CallOrder.{entries_of-joined, entries_of-other, numbered, same_at, same_self}
use Rattle.bd_entry.proofs.HistoryLaws.{process_there}
use Rattle.bd_report.specs.declared.notes.Notes.{Notes}
use Rattle.bd_report.specs.Notes.{AreNotesOfAll, AreNotesOf, slot_of}
use Rattle.bd_report.proofs.Order.{few_calls}

-- an element of a list in which one was set
get-set_same : (xs : List Notes) (i : ℕ) (x y : Notes) → slice_get (set xs i x) i ≡ Some y → i < length xs → x ≡ y
get-set_same xs i x y is within = sym (get_or-set_same xs i x y within) ∙ get_or_from_slice_get (set xs i x) i y y is

get-set_other : (xs : List Notes) (i j : ℕ) (x y : Notes) → j ≢ i → slice_get (set xs i x) j ≡ Some y → slice_get xs j ≡ Some y
get-set_other xs i j x y differ is =
    let inside : j < length (set xs i x) = slice_get_within (set xs i x) j y is in
    slice_get-get_or xs j y (omega (arith, inside, length-set xs i x))
    ∙ ap Some (sym (get_or-set_other xs i j x y differ) ∙ get_or_from_slice_get (set xs i x) j y y is)

-- two calls of a script with one place are one call
same_slot : (a b : At) → a.call < CALLS → b.call < CALLS → slot_of a ≡ slot_of b → a ≡ b
same_slot a b few few_too same =
    let process : a.process ≡ b.process = omega arith in
    let call : a.call ≡ b.call = omega arith in
    ap (λ (p : ℕ). numbered p a.call) process ∙ ap (λ (c : ℕ). numbered b.process c) call

-- the place of a call of the script is in the table
pub slot_inside : (script : Script) (journal : List Entry) (table : List Notes) (at : At) (call : Call) → IsWithinLimits script →
    AreNotesOfAll script journal table → call_at script at ≡ Some call → slot_of at < length table
slot_inside script journal table at call limits are called =
    let there : at.process < length script.processes = process_there script at call called in
    let few : at.call < CALLS = few_calls script at call limits called in
    omega (arith, are.room)

-- the entry was noted at the place of its call
pub AreNotesOfAll-push : (script : Script) (before : List Entry) (e : Entry) (call : Call) (table : List Notes) (was new : Notes) → IsWithinLimits script →
    AreNotesOfAll script before table → call_at script (at_of e) ≡ Some call → slice_get table (slot_of (at_of e)) ≡ Some was →
    ((entries : List Entry) → AreNotesOf call entries was → AreNotesOf call (entries ++ e ∷ []) new) →
    AreNotesOfAll script (before ++ e ∷ []) (set table (slot_of (at_of e)) new)
AreNotesOfAll-push script before e call table was new limits are called stood noted =
    let slot : ℕ = slot_of (at_of e) in
    let inside : slot < length table = slice_get_within table slot was stood in
    let here : AreNotesOf call (entries_of (at_of e) (before ++ e ∷ [])) new =
    subst (λ (entries : List Entry). AreNotesOf call entries new) (sym (entries_of-joined before e (at_of e) (same_self (at_of e))))
    (noted (entries_of (at_of e) before) (are.tells (at_of e) call was called stood)) in
    record {
      room = length-set table slot new ∙ are.room;
      tells = λ at other notes called_other is.
          ⊎_elim
          (λ same.
          let one : at_of e ≡ at =
          same_slot (at_of e) at (few_calls script (at_of e) call limits called) (few_calls script at other limits called_other) (sym same) in
          let its_call : call ≡ other = same_Some call other (sym called ∙ ap (call_at script) one ∙ called_other) in
          let its : new ≡ notes =
          get-set_same table slot new notes (subst (λ (i : ℕ). slice_get (set table slot new) i ≡ Some notes) same is) inside in
          subst (λ (a : At). AreNotesOf other (entries_of a (before ++ e ∷ [])) notes) one
          (subst (λ (c : Call). AreNotesOf c (entries_of (at_of e) (before ++ e ∷ [])) notes) its_call
          (subst (AreNotesOf call (entries_of (at_of e) (before ++ e ∷ []))) its here)))
          (λ differ.
          ⊎_elim
          (λ same. absurd (differ (sym (ap slot_of (same_at (at_of e) at same)))))
          (λ apart.
          subst (λ (entries : List Entry). AreNotesOf other entries notes) (sym (entries_of-other before e at apart))
          (are.tells at other notes called_other (get-set_other table slot (slot_of at) new notes differ is)))
          (cases_Bool (same_call (at_of e) at)))
          (cases_eq (slot_of at) slot);
    }
