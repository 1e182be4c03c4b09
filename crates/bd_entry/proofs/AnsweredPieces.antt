-- How often the pieces of a call are answered, in a journal that is in order.
use Rattle.std.proofs.Common.{◌≡◌, ℕ, ◌+◌, ◌<◌, ◌≤◌, Bool, true, false, cond, List, [], ◌∷◌, ◌++◌, length, None, Some, ◌⊎◌, inl, inr, refl, sym, ap, ◌∙◌, subst, arith, ⊎_elim}
use Rattle.std.specs.Prelude.{count_by}
use Rattle.std.specs.List.{list_all, list_any, range_with_len}
use Rattle.std.proofs.lemmas.Bool.{both_ways, cases_Bool, cond-false, cond-true, eqb-true, false≢true, or_cases, or_parts}
use Rattle.std.proofs.lemmas.List.FromFn.{get_or-range_with_len, length-range_with_len}
use Rattle.std.proofs.lemmas.List.Sums.{AllPass-from_list_all, sum_by-cons, sum_by_push}
use Rattle.std.proofs.lemmas.Option.{MatchOption-at_some, same_Some}
use Rattle.bd_base.specs.declared.script.Call.{Call}
use Rattle.bd_base.specs.declared.script.Call.TheVariants.{Read, Write, RawRead, RawWrite}
use Rattle.bd_base.specs.declared.script.Script.{Script}
use Rattle.bd_base.specs.declared.journal.At.{At}
use Rattle.bd_entry.specs.declared.entry.Entry.{Entry}
use Rattle.bd_entry.specs.declared.entry.Entry.TheVariants.{Access, Missed, Refused}
use Rattle.bd_entry.specs.Calls.{Place, at_of, call_at, entries_of, is_answer_of, is_answered, is_end_of, is_ended_by, is_finished, is_made_by, is_raw, pieces_of_call, same_call}
use Rattle.bd_entry.specs.Promises.{EachPieceOnce, RawCommandOnce, is_access_or_miss, is_whole_refusal}
use Rattle.bd_entry.specs.Rules.{EntryRule, FitsCall, FitsScript, NextCall, Once, RightWay, place_in}
use Rattle.bd_entry.specs.RulesOfCalls.{IsFirstOfKind, IsNextCall, IsOfCall}
use Rattle.bd_entry.specs.RulesOfRights.{HasRightWay}
use Rattle.bd_entry.specs.Store.{Store}
use Rattle.bd_entry.proofs.CallOrder.{entries_of-joined, entries_of-other, is_finished-called, same_at}
use Rattle.bd_base.proofs.Lists.{list_any-same}
use Rattle.bd_entry.proofs.Histories.{history_holds, order_holds}

-- ---- how many elements pass a test

-- none where the test finds none
count_by-none : {X : Type 0} (p : X → Bool) (xs : List X) → list_any p xs ≡ false → count_by p xs ≡ 0
count_by-none p [] none = refl
count_by-none p (x ∷ xs) none =
    let parts = or_parts (p x) (list_any p xs) none in
    omega (arith, sum_by-cons (λ y. cond (p y) 1 0) x xs, cond-false {A = ℕ} (p x) 1 0 parts.0, count_by-none p xs parts.1)

-- one at least where it finds one
count_by-some : {X : Type 0} (p : X → Bool) (xs : List X) → list_any p xs ≡ true → 1 ≤ count_by p xs
count_by-some p [] some = absurd (false≢true some)
count_by-some p (x ∷ xs) some =
    ⊎_elim
    (λ here. omega (arith, sum_by-cons (λ y. cond (p y) 1 0) x xs, cond-true {A = ℕ} (p x) 1 0 here))
    (λ later. omega (arith, sum_by-cons (λ y. cond (p y) 1 0) x xs, count_by-some p xs later))
    (or_cases (p x) (list_any p xs) some)

-- one at most where it found none before the last that passes
count_by-first : {X : Type 0} (p : X → Bool) (xs : List X) (y : X) → count_by p xs ≤ 1 → (p y ≡ true → list_any p xs ≡ false) →
    count_by p (xs ++ y ∷ []) ≤ 1
count_by-first p xs y few first =
    ⊎_elim
    (λ passes. omega (arith, sum_by_push (λ x. cond (p x) 1 0) xs y, cond-true {A = ℕ} (p y) 1 0 passes, count_by-none p xs (first passes)))
    (λ fails. omega (arith, sum_by_push (λ x. cond (p x) 1 0) xs y, cond-false {A = ℕ} (p y) 1 0 fails))
    (cases_Bool (p y))

-- a test that holds of a range holds of each number in it
list_all-at : (p : ℕ → Bool) (n k : ℕ) → list_all p (range_with_len 0 n) ≡ true → k < n → p k ≡ true
list_all-at p n k all lt =
    let within : k < length (range_with_len 0 n) = omega (arith, length-range_with_len 0 n) in
    let at : 0 + k ≡ k = omega arith in
    subst (λ i. p i ≡ true) (get_or-range_with_len 0 n k 0 lt ∙ at) (AllPass-from_list_all p (range_with_len 0 n) all k 0 within)

-- ---- pieces of reads and writes

-- an entry that answers a piece is the first to do so
answers_first : (entries : List Entry) (e : Entry) (number : ℕ) → IsFirstOfKind entries e → is_answer_of number e ≡ true →
    is_answered number entries ≡ false
answers_first entries (Access at piece fd file index block range wrote way bytes) number first answers =
    subst (λ (n : ℕ). is_answered n entries ≡ false) (eqb-true piece number answers) first
answers_first entries (Refused at (Some piece) reason) number first answers =
    subst (λ (n : ℕ). is_answered n entries ≡ false) (eqb-true piece number answers) first
answers_first entries e number first answers = absurd (false≢true answers)

-- no piece is answered twice
record AreAnsweredOnce (journal : List Entry) : Type 0 where
  pub few : (at : At) (number : ℕ) → count_by (is_answer_of number) (entries_of at journal) ≤ 1

answered-push : (script : Script) (before : List Entry) (e : Entry) → ((rule : EntryRule) → FitsScript script before e rule) →
    AreAnsweredOnce before → AreAnsweredOnce (before ++ e ∷ [])
answered-push script before e fits holds = record {
  few = λ at number.
      ⊎_elim
      (λ same.
      let first : IsFirstOfKind (entries_of at before) e =
      subst (λ (a : At). IsFirstOfKind (entries_of a before) e) (same_at (at_of e) at same) (fits Once) in
      subst (λ (entries : List Entry). count_by (is_answer_of number) entries ≤ 1) (sym (entries_of-joined before e at same))
      (count_by-first (is_answer_of number) (entries_of at before) e (holds.few at number) (answers_first (entries_of at before) e number first)))
      (λ other.
      subst (λ (entries : List Entry). count_by (is_answer_of number) entries ≤ 1) (sym (entries_of-other before e at other)) (holds.few at number))
      (cases_Bool (same_call (at_of e) at));
}

-- what ends a read or a write at once refuses it
read_end : (fd off len : ℕ) (e : Entry) → is_end_of (Read fd off len) e ≡ is_whole_refusal e
read_end fd off len (Refused at None reason) = refl
read_end fd off len (Refused at (Some piece) reason) = refl
read_end fd off len e = refl

pub write_end : (fd off : ℕ) (bytes : List ℕ) (e : Entry) → is_end_of (Write fd off bytes) e ≡ is_whole_refusal e
write_end fd off bytes (Refused at None reason) = refl
write_end fd off bytes (Refused at (Some piece) reason) = refl
write_end fd off bytes e = refl

-- each piece of a read or a write that is ended and was not refused is answered
each_answered : (call : Call) (entries : List Entry) → is_raw call ≡ false → is_ended_by call entries ≡ true
    → list_any is_whole_refusal entries ≡ false →
    (number : ℕ) → number < length (pieces_of_call call) → is_answered number entries ≡ true
each_answered (Read fd off len) entries raw ended none number lt =
    let not_ended : list_any (is_end_of (Read fd off len)) entries ≡ false =
    list_any-same (is_end_of (Read fd off len)) is_whole_refusal (read_end fd off len) entries ∙ none in
    list_all-at (λ n. is_answered n entries) (length (pieces_of_call (Read fd off len))) number
    (⊎_elim (λ ends. absurd (both_ways _ not_ended ends)) (λ all. all) (or_cases _ _ ended)) lt
each_answered (Write fd off bytes) entries raw ended none number lt =
    let not_ended : list_any (is_end_of (Write fd off bytes)) entries ≡ false =
    list_any-same (is_end_of (Write fd off bytes)) is_whole_refusal (write_end fd off bytes) entries ∙ none in
    list_all-at (λ n. is_answered n entries) (length (pieces_of_call (Write fd off bytes))) number
    (⊎_elim (λ ends. absurd (both_ways _ not_ended ends)) (λ all. all) (or_cases _ _ ended)) lt
each_answered (RawRead address range) entries raw ended none number lt = absurd (false≢true (sym raw))
each_answered (RawWrite address lo bytes) entries raw ended none number lt = absurd (false≢true (sym raw))
each_answered call entries raw ended none number lt = absurd (omega arith)

pub each_piece_once : EachPieceOnce
each_piece_once script journal at call number order called raw finished none lt =
    let once : AreAnsweredOnce journal =
    order_holds script AreAnsweredOnce (record { few = λ at number. omega arith }) (answered-push script) journal order in
    let few : count_by (is_answer_of number) (entries_of at journal) ≤ 1 = once.few at number in
    let some : 1 ≤ count_by (is_answer_of number) (entries_of at journal) =
    count_by-some (is_answer_of number) (entries_of at journal)
    (each_answered call (entries_of at journal) raw (sym (is_finished-called script journal at call called) ∙ finished) none number lt) in
    omega arith

-- ---- raw commands

-- a raw command makes an access or a miss alone
raw_makes : (s : Store) (p : Place) (call : Call) (e : Entry) → p.call ≡ call → is_raw call ≡ true → is_made_by call e ≡ true
    → HasRightWay s p e →
    is_access_or_miss e ≡ true
raw_makes s p call (Access at piece fd file index block range wrote way bytes) is raw made way_right = refl
raw_makes s p call (Missed at piece found) is raw made way_right = refl
raw_makes s p call (Refused at None reason) is raw made way_right = absurd (both_ways (is_raw p.call) way_right (ap is_raw is ∙ raw))
raw_makes s p (RawRead address range) e is raw made way_right = absurd (false≢true made)
raw_makes s p (RawWrite address lo bytes) e is raw made way_right = absurd (false≢true made)
raw_makes s p call e is raw made way_right = absurd (false≢true raw)

-- and is ended by that
raw_ended : (call : Call) (e : Entry) → is_raw call ≡ true → is_access_or_miss e ≡ true → is_ended_by call (e ∷ []) ≡ true
raw_ended (RawRead address range) (Access at piece fd file index block entry_range wrote way bytes) raw is = refl
raw_ended (RawRead address range) (Missed at piece found) raw is = refl
raw_ended (RawRead address range) e raw is = absurd (false≢true is)
raw_ended (RawWrite address lo bytes) (Access at piece fd file index block entry_range wrote way entry_bytes) raw is = refl
raw_ended (RawWrite address lo bytes) (Missed at piece found) raw is = refl
raw_ended (RawWrite address lo bytes) e raw is = absurd (false≢true is)
raw_ended call e raw is = absurd (false≢true raw)

-- but not by nothing
raw_not_ended : (call : Call) → is_raw call ≡ true → is_ended_by call [] ≡ false
raw_not_ended (RawRead address range) raw = refl
raw_not_ended (RawWrite address lo bytes) raw = refl
raw_not_ended call raw = absurd (false≢true raw)

-- these entries of a raw command are one access or miss
abbrev IsOne : List Entry → Type 0
IsOne entries = (e : Entry) × (entries ≡ e ∷ []) × (is_access_or_miss e ≡ true)

-- a raw command has one access or miss, or nothing yet
record RawAreAlone (script : Script) (journal : List Entry) : Type 0 where
  pub alone : (at : At) (call : Call) → call_at script at ≡ Some call → is_raw call ≡ true → (entries_of at journal ≡ [])
      ⊎ IsOne (entries_of at journal)

-- the new entry is the first of its raw command
raw_joined : (script : Script) (before : List Entry) (e : Entry) (at : At) (call : Call) → call_at script at ≡ Some call → is_raw call ≡ true →
    same_call (at_of e) at ≡ true → IsNextCall script before at → is_access_or_miss e ≡ true →
    ((entries_of at before ≡ []) ⊎ IsOne (entries_of at before)) → IsOne (entries_of at (before ++ e ∷ []))
raw_joined script before e at call called raw same next is holds =
    ⊎_elim
    (λ none. (e, entries_of-joined before e at same ∙ ap (λ (entries : List Entry). entries ++ e ∷ []) none, is))
    (λ one.
    let finished : is_finished script before at ≡ true =
    is_finished-called script before at call called ∙ ap (is_ended_by call) one.1 ∙ raw_ended call one.0 raw one.2 in
    absurd (both_ways (is_finished script before at) next.unfinished finished))
    holds

raw-push : (script : Script) (before : List Entry) (s : Store) (call : Call) (e : Entry) → ((rule : EntryRule) → FitsScript script before e rule) →
    call_at script (at_of e) ≡ Some call → HasRightWay s (place_in s call (at_of e)) e → RawAreAlone script before
    → RawAreAlone script (before ++ e ∷ [])
raw-push script before s call e fits called way holds = record {
  alone = λ at other_call called_other raw.
      ⊎_elim
      (λ same.
      let is : at_of e ≡ at = same_at (at_of e) at same in
      let one : call ≡ other_call = same_Some call other_call (sym called ∙ ap (call_at script) is ∙ called_other) in
      let of : IsOfCall (record { call = call; at = at_of e; before = entries_of (at_of e) before }) e = MatchOption-at_some _ _ call called (fits FitsCall) in
      let next : IsNextCall script before at = subst (IsNextCall script before) is (fits NextCall) in
      inr (raw_joined script before e at other_call called_other raw same next
      (raw_makes s (place_in s call (at_of e)) call e refl (ap is_raw one ∙ raw) of.kind way) (holds.alone at other_call called_other raw)))
      (λ other.
      subst (λ (entries : List Entry). (entries ≡ []) ⊎ IsOne entries) (sym (entries_of-other before e at other))
      (holds.alone at other_call called_other raw))
      (cases_Bool (same_call (at_of e) at));
}

pub raw_command_once : RawCommandOnce
raw_command_once v script journal s at call history called raw finished =
    let holds : RawAreAlone script journal =
    history_holds v script (λ before s. RawAreAlone script before) (record { alone = λ at call called raw. inl refl })
    (λ before s call e next. raw-push script before s call e next.fits next.call_is (next.keeps RightWay)) journal s history in
    ⊎_elim
    (λ none.
    absurd (both_ways (is_finished script journal at)
    (is_finished-called script journal at call called ∙ ap (is_ended_by call) none ∙ raw_not_ended call raw) finished))
    (λ one. one)
    (holds.alone at call called raw)
