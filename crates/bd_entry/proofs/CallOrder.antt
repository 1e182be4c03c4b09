-- The entries of each call in a journal that is in order, as one more entry joins it.
use Rattle.std.proofs.Common.{◌≡◌, ◌≢◌, ℕ, ◌<◌, true, false, List, [], ◌∷◌, ◌++◌, Option, Some, refl, sym, ap, ◌∙◌, subst, append_assoc, ⊎_elim}
use Rattle.std.specs.Prelude.{nat_eq}
use Rattle.std.specs.Option.{option_map_or}
use Rattle.std.proofs.lemmas.Bool.{and_from, and_left, and_parts, both_ways, cases_Bool, cond-false, cond-true, eq-eqb, eqb-true, false_from_ne_true, ne_eqb}
use Rattle.std.proofs.lemmas.List.{append-nil}
use Rattle.std.proofs.lemmas.List.Elements.{filter-append}
use Rattle.std.proofs.lemmas.Option.{MatchOption-at_some}
use Rattle.bd_base.specs.declared.script.Call.{Call}
use Rattle.bd_base.specs.declared.script.Script.{Script}
use Rattle.bd_base.specs.declared.journal.At.{At}
use Rattle.bd_entry.specs.declared.entry.Entry.{Entry}
use Rattle.bd_entry.specs.Calls.{Place, at_of, call_at, entries_of, is_ended_by, is_finished, same_call}
use Rattle.bd_entry.specs.Laws.{AreOfCall}
use Rattle.bd_entry.specs.Rules.{EntryRule, FitsCall, FitsScript, NextCall, Once}
use Rattle.bd_entry.specs.RulesOfCalls.{IsFirstOfKind, IsNextCall, IsOfCall}

-- the call of this process with this number
abbrev pub numbered : ℕ → ℕ → At
numbered process call = record { process = process; call = call }

-- calls that are the same have the same numbers
pub same_at : (a b : At) → same_call a b ≡ true → a ≡ b
same_at a b same =
    let parts = and_parts (nat_eq a.process b.process) (nat_eq a.call b.call) same in
    ap (λ (process : ℕ). numbered process a.call) (eqb-true a.process b.process parts.0)
    ∙ ap (λ (call : ℕ). numbered b.process call) (eqb-true a.call b.call parts.1)

-- a call is the same as itself
pub same_self : (at : At) → same_call at at ≡ true
same_self at = and_from (nat_eq at.process at.process) (nat_eq at.call at.call) (eq-eqb at.process at.process refl) (eq-eqb at.call at.call refl)

-- a call of another process is another
pub other_process : (a b : At) → b.process ≢ a.process → same_call a b ≡ false
other_process a b differ = and_left (nat_eq a.process b.process) (nat_eq a.call b.call) (ne_eqb a.process b.process (λ same. differ (sym same)))

-- whether a call with these entries is finished
pub is_finished-called : (script : Script) (journal : List Entry) (at : At) (call : Call) → call_at script at ≡ Some call →
    is_finished script journal at ≡ is_ended_by call (entries_of at journal)
is_finished-called script journal at call called =
    ap (λ (o : Option Call). option_map_or (λ (c : Call). is_ended_by c (entries_of at journal)) o false) called

-- an entry of the call joins its entries
pub entries_of-joined : (before : List Entry) (e : Entry) (at : At) → same_call (at_of e) at ≡ true →
    entries_of at (before ++ e ∷ []) ≡ entries_of at before ++ e ∷ []
entries_of-joined before e at same =
    filter-append (λ (entry : Entry). same_call (at_of entry) at) before (e ∷ [])
    ∙ ap (λ (last : List Entry). entries_of at before ++ last) (cond-true (same_call (at_of e) at) (e ∷ []) [] same)

-- an entry of another call does not
pub entries_of-other : (before : List Entry) (e : Entry) (at : At) → same_call (at_of e) at ≡ false →
    entries_of at (before ++ e ∷ []) ≡ entries_of at before
entries_of-other before e at other =
    filter-append (λ (entry : Entry). same_call (at_of entry) at) before (e ∷ [])
    ∙ ap (λ (last : List Entry). entries_of at before ++ last) (cond-false (same_call (at_of e) at) (e ∷ []) [] other)
    ∙ append-nil (entries_of at before)

-- and leaves the call finished or not, as it was
pub is_finished-other : (script : Script) (before : List Entry) (e : Entry) (at : At) → same_call (at_of e) at ≡ false →
    is_finished script (before ++ e ∷ []) at ≡ is_finished script before at
is_finished-other script before e at other =
    ap (λ (entries : List Entry). option_map_or (λ (call : Call). is_ended_by call entries) (call_at script at) false) (entries_of-other before e at other)

-- the next call of another process was that before
pub next-other : (script : Script) (before : List Entry) (e : Entry) (at : At) → at.process ≢ (at_of e).process →
    IsNextCall script (before ++ e ∷ []) at → IsNextCall script before at
next-other script before e at differ then =
    let another : (call : ℕ) → same_call (at_of e) (numbered at.process call) ≡ false = λ call. other_process (at_of e) (numbered at.process call) differ in
    record {
      in_script = then.in_script;
      unfinished = sym (is_finished-other script before e at (another at.call)) ∙ then.unfinished;
      earlier = λ call lt. sym (is_finished-other script before e (numbered at.process call) (another call)) ∙ then.earlier call lt;
    }

-- a finished call is not the next one, so it stays finished
pub stays_finished : (script : Script) (before : List Entry) (e : Entry) (at : At) → IsNextCall script before (at_of e) →
    is_finished script before at ≡ true →
    is_finished script (before ++ e ∷ []) at ≡ true
stays_finished script before e at next done =
    let other : same_call (at_of e) at ≡ false =
    false_from_ne_true (same_call (at_of e) at)
    (λ same. both_ways (is_finished script before at)
    (subst (λ (a : At). is_finished script before a ≡ false) (same_at (at_of e) at same) next.unfinished) done) in
    is_finished-other script before e at other ∙ done

-- a call that is unfinished was so before
pub was_unfinished : (script : Script) (before : List Entry) (e : Entry) (at : At) → IsNextCall script before (at_of e) →
    is_finished script (before ++ e ∷ []) at ≡ false → is_finished script before at ≡ false
was_unfinished script before e at next unfinished =
    false_from_ne_true (is_finished script before at)
    (λ done. both_ways (is_finished script (before ++ e ∷ []) at) unfinished (stays_finished script before e at next done))

-- one more entry that the call makes joins those that it makes
pub AreOfCall-push : (p : Place) (entries : List Entry) (e : Entry) → AreOfCall p entries → IsOfCall (record p { before = p.before ++ entries }) e →
    IsFirstOfKind (p.before ++ entries) e → AreOfCall p (entries ++ e ∷ [])
AreOfCall-push p [] e all of first = (
  subst (λ (front : List Entry). IsOfCall (record p { before = front }) e) (append-nil p.before) of,
  subst (λ (front : List Entry). IsFirstOfKind front e) (append-nil p.before) first,
  tt,
)
AreOfCall-push p (start ∷ entries) e all of first =
    let front = append_assoc p.before (start ∷ []) entries in (
      all.0,
      all.1,
      AreOfCall-push (record p { before = p.before ++ start ∷ [] }) entries e all.2
          (subst (λ (before : List Entry). IsOfCall (record p { before = before }) e) (sym front) of)
          (subst (λ (before : List Entry). IsFirstOfKind before e) (sym front) first),
    )

-- the start of a call
abbrev pub start_of : Call → At → Place
start_of call at = record { call = call; at = at; before = [] }

-- the entries of each call are ones that it makes, and a call has none as long as an earlier one of its process is unfinished
pub record IsOrdered (script : Script) (before : List Entry) : Type 0 where
  pub of_call : (at : At) (call : Call) → call_at script at ≡ Some call → AreOfCall (start_of call at) (entries_of at before)
  pub none_yet : (at : At) (earlier : ℕ) → earlier < at.call → is_finished script before (numbered at.process earlier) ≡ false →
      entries_of at before ≡ []

-- so it is before the first entry
pub ordered_at_start : (script : Script) → IsOrdered script []
ordered_at_start script = record { of_call = λ at call called. tt; none_yet = λ at earlier lt unfinished. refl }

-- the entry is one that its call makes after those before it, and not done twice
record FitsCallOf (script : Script) (before : List Entry) (e : Entry) (at : At) : Type 0 where
  of_call : (call : Call) → call_at script at ≡ Some call → IsOfCall (record { call = call; at = at; before = entries_of at before }) e
  first : IsFirstOfKind (entries_of at before) e

fits_call : (script : Script) (before : List Entry) (e : Entry) → ((rule : EntryRule) → FitsScript script before e rule) →
    FitsCallOf script before e (at_of e)
fits_call script before e fits = record { of_call = λ call is. MatchOption-at_some _ _ call is (fits FitsCall); first = fits Once }

-- the entries of a call are ones that it makes after one more entry
of_call-push : (script : Script) (before : List Entry) (e : Entry) → IsOrdered script before → ((rule : EntryRule) → FitsScript script before e rule) →
    (at : At) (call : Call) → call_at script at ≡ Some call → AreOfCall (start_of call at) (entries_of at (before ++ e ∷ []))
of_call-push script before e ordered fits at call called =
    ⊎_elim
    (λ same.
    let here = subst (FitsCallOf script before e) (same_at (at_of e) at same) (fits_call script before e fits) in
    subst (AreOfCall (start_of call at)) (sym (entries_of-joined before e at same))
    (AreOfCall-push (start_of call at) (entries_of at before) e (ordered.of_call at call called) (here.of_call call called) here.first))
    (λ other. subst (AreOfCall (start_of call at)) (sym (entries_of-other before e at other)) (ordered.of_call at call called))
    (cases_Bool (same_call (at_of e) at))

-- one more entry that is in order leaves a journal so
pub ordered-push : (script : Script) (before : List Entry) (e : Entry) → IsOrdered script before →
    ((rule : EntryRule) → FitsScript script before e rule) →
    IsOrdered script (before ++ e ∷ [])
ordered-push script before e ordered fits =
    let next : IsNextCall script before (at_of e) = fits NextCall in
    record {
      of_call = of_call-push script before e ordered fits;
      none_yet = λ at earlier lt unfinished.
          let was : is_finished script before (numbered at.process earlier) ≡ false =
          was_unfinished script before e (numbered at.process earlier) next unfinished in
          let other : same_call (at_of e) at ≡ false =
          false_from_ne_true (same_call (at_of e) at)
          (λ same. both_ways (is_finished script before (numbered at.process earlier)) was
          ((subst (IsNextCall script before) (same_at (at_of e) at same) next).earlier earlier lt)) in
          entries_of-other before e at other ∙ ordered.none_yet at earlier lt was;
    }
