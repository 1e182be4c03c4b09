-- The next entry of a journal: which rules it breaks, and how many calls are finished after it.
use Rattle.std.proofs.Common.{◌≡◌, ◌≢◌, ℕ, ◌+◌, ◌<◌, true, false, List, [], ◌∷◌, ◌++◌, Option, None, Some, length, refl, sym, ap, ◌∙◌, subst, arith, inl, inr}
use Rattle.std.specs.Prelude.{IfSome, nat_eq, slice_index, slice_set}
use Rattle.std.specs.Option.{option_map_or}
use Rattle.std.proofs.lemmas.Bool.{and_right, both_ways, cases_eq, cases_order, ne_eqb}
use Rattle.std.proofs.lemmas.List.{get_or-set_other, get_or-set_same, length-set}
use Rattle.std.proofs.lemmas.Option.{MatchOption-at_some, slice_get_within}
use Rattle.bd_base.specs.declared.journal.At.{At}
use Rattle.bd_base.specs.declared.script.Call.{Call}
use Rattle.bd_base.specs.declared.script.Script.{Script}
use Rattle.bd_base.specs.Scripts.{IsWithinLimits}
use Rattle.bd_entry.specs.declared.entry.Entry.{Entry}
use Rattle.bd_entry.specs.Calls.{at_of, call_at, calls_of, entries_of, is_ended_by, is_finished, same_call}
use Rattle.bd_entry.specs.Rules.{Allowed, BreaksRule, EntryRule, FitsCall, FitsScript, FitsStore, IsOpen, KeepsRule, NextCall, NoPlain, NotRefused, Once, RightBlock, RightBytes, RightFile, RightWay, Rights, WithinLimit, entry_rule_number, place_in}
use Rattle.bd_entry.specs.RulesOfCalls.{IsFirstOfKind, IsNextCall, IsOfCall}
use Rattle.bd_entry.specs.Store.{Store}
use Rattle.bd_entry.proofs.CallOrder.{IsOrdered, is_finished-other, numbered, other_process, stays_finished}
use Rattle.bd_entry.proofs.HistoryLaws.{IsLed, is_call, process_there}
use Rattle.bd_store.specs.Kept.{BreaksAt, Kept, Represents, marks_at}
use Rattle.bd_kernel.specs.Marks.{AreMarksOf, Marks}
use Rattle.bd_store.specs.Verdicts.{AreFinished}
use Rattle.bd_kernel.proofs.CallsWithoutEntries.{not_ended}

-- ---- calls without entries

-- a call without entries is unfinished
pub unfinished_without : (script : Script) (journal : List Entry) (at : At) → IsWithinLimits script → entries_of at journal ≡ [] →
    is_finished script journal at ≡ false
unfinished_without script journal at limits none = of_call (call_at script at) refl
  where
    of_call : (o : Option Call) → call_at script at ≡ o → option_map_or (λ (c : Call). is_ended_by c (entries_of at journal)) o false ≡ false
    of_call None is = refl
    of_call (Some call) is = ap (is_ended_by call) none ∙ not_ended call (is_call script at call limits is)

-- ---- rules that are broken

no_lesser : (rule : EntryRule) → entry_rule_number rule < 1 → ⊥
no_lesser NextCall less = omega arith
no_lesser FitsCall less = omega arith
no_lesser Once less = omega arith
no_lesser RightWay less = omega arith
no_lesser IsOpen less = omega arith
no_lesser RightFile less = omega arith
no_lesser Allowed less = omega arith
no_lesser Rights less = omega arith
no_lesser NoPlain less = omega arith
no_lesser RightBlock less = omega arith
no_lesser WithinLimit less = omega arith
no_lesser RightBytes less = omega arith
no_lesser NotRefused less = omega arith

module _ (script : Script) (before : List Entry) (s : Store) (e : Entry) where
  -- the entry is not of the next call of its process
  pub breaks_next : ¬ IsNextCall script before (at_of e) → BreaksRule script before s e 1
  breaks_next other = record {
    rule = NextCall;
    number_is = refl;
    broken = λ keeps. other keeps.0;
    lesser = λ rule less. absurd (no_lesser rule less);
  }

  module _ (call : Call) (called : call_at script (at_of e) ≡ Some call) (next : IsNextCall script before (at_of e)) where
    at_call : (P : Call → Type 0) → P call → IfSome (call_at script (at_of e)) P
    at_call P holds = subst (λ (o : Option Call). IfSome o P) (sym called) holds

    -- the entry does not fit its call
    pub breaks_call : ¬ IsOfCall (record { call = call; at = at_of e; before = entries_of (at_of e) before }) e → BreaksRule script before s e 2
    breaks_call other = record {
      rule = FitsCall;
      number_is = refl;
      broken = λ keeps. other (MatchOption-at_some _ _ call called keeps.0);
      lesser = lesser;
    }
      where
        lesser : (rule : EntryRule) → entry_rule_number rule < 2 → KeepsRule script before s e rule
        lesser NextCall less = (next, at_call (λ c. FitsStore s (place_in s c (at_of e)) e NextCall) tt)
        lesser FitsCall less = absurd (omega arith)
        lesser Once less = absurd (omega arith)
        lesser RightWay less = absurd (omega arith)
        lesser IsOpen less = absurd (omega arith)
        lesser RightFile less = absurd (omega arith)
        lesser Allowed less = absurd (omega arith)
        lesser Rights less = absurd (omega arith)
        lesser NoPlain less = absurd (omega arith)
        lesser RightBlock less = absurd (omega arith)
        lesser WithinLimit less = absurd (omega arith)
        lesser RightBytes less = absurd (omega arith)
        lesser NotRefused less = absurd (omega arith)

    module _ (of_call : IsOfCall (record { call = call; at = at_of e; before = entries_of (at_of e) before }) e) where
      fits_call : FitsScript script before e FitsCall
      fits_call = at_call (λ c. IsOfCall (record { call = c; at = at_of e; before = entries_of (at_of e) before }) e) of_call

      -- something is done twice
      pub breaks_once : ¬ IsFirstOfKind (entries_of (at_of e) before) e → BreaksRule script before s e 3
      breaks_once other = record { rule = Once; number_is = refl; broken = λ keeps. other keeps.0; lesser = lesser }
        where
          lesser : (rule : EntryRule) → entry_rule_number rule < 3 → KeepsRule script before s e rule
          lesser NextCall less = (next, at_call (λ c. FitsStore s (place_in s c (at_of e)) e NextCall) tt)
          lesser FitsCall less = (fits_call, at_call (λ c. FitsStore s (place_in s c (at_of e)) e FitsCall) tt)
          lesser Once less = absurd (omega arith)
          lesser RightWay less = absurd (omega arith)
          lesser IsOpen less = absurd (omega arith)
          lesser RightFile less = absurd (omega arith)
          lesser Allowed less = absurd (omega arith)
          lesser Rights less = absurd (omega arith)
          lesser NoPlain less = absurd (omega arith)
          lesser RightBlock less = absurd (omega arith)
          lesser WithinLimit less = absurd (omega arith)
          lesser RightBytes less = absurd (omega arith)
          lesser NotRefused less = absurd (omega arith)

      module _ (first : IsFirstOfKind (entries_of (at_of e) before) e) where
        -- the entry keeps the rules of the script
        pub fits_script : (rule : EntryRule) → FitsScript script before e rule
        fits_script NextCall = next
        fits_script FitsCall = fits_call
        fits_script Once = first
        fits_script rule = tt

        -- of the rules of the store that it breaks, the least is the least of all
        pub breaks_store : (number : ℕ) → BreaksAt s (place_in s call (at_of e)) e number → BreaksRule script before s e number
        breaks_store number least = record {
          rule = least.rule;
          number_is = least.number_is;
          broken = λ keeps. least.broken (MatchOption-at_some _ _ call called keeps.1);
          lesser = λ rule less. (fits_script rule, at_call (λ c. FitsStore s (place_in s c (at_of e)) e rule) (least.lesser rule less));
        }

-- ---- what is kept of the call

-- the marks of a process's next call are those of its entries in the journal
pub next-marks : (script : Script) (before : List Entry) (s : Store) (k : Kept) (at : At) (m : Marks) → IsLed script before s → Represents k s →
    IsNextCall script before at → m ≡ marks_at k at.process → AreMarksOf m (entries_of at before)
next-marks script before s k at m led kept next is =
    subst (λ (marks : Marks). AreMarksOf marks (entries_of at before)) (sym is)
    (subst (AreMarksOf (marks_at k at.process)) (led.running at next) (kept.marked at.process))

-- a process of the script has a user
pub user_there : (script : Script) (before : List Entry) (s : Store) (k : Kept) (at : At) (call : Call) → IsLed script before s → Represents k s →
    call_at script at ≡ Some call → at.process < length k.uids
user_there script before s k at call led kept called =
    let there = process_there script at call called in
    let uids : length s.uids ≡ length k.uids = ap (λ (x : Store). length x.uids) kept.store in
    omega (arith, kept.valid.rows.uids, kept.valid.rows.work, led.rows)

-- ---- how many calls are finished

module _ (script : Script) (before : List Entry) (finished : List ℕ) (are : AreFinished script before finished) where
  -- the call after those that are finished is the next one
  pub finished-next : (at : At) (call : Call) → call_at script at ≡ Some call → at.call ≡ slice_index finished at.process → IsNextCall script before at
  finished-next at call called same = record {
    in_script = slice_get_within (calls_of script at.process) at.call call called;
    unfinished = subst (λ (n : ℕ). is_finished script before (numbered at.process n) ≡ false) (sym same) (are.next at.process);
    earlier = λ number less. are.done at.process number (omega arith);
  }

  -- and no other is
  pub finished-other : (at : At) → at.call ≢ slice_index finished at.process → ¬ IsNextCall script before at
  finished-other at differ next =
      elim (cases_order at.call (slice_index finished at.process)) [
        | inl same ↦ differ same
        | inr order ↦
            elim order [
              | inl less ↦ both_ways (is_finished script before at) next.unfinished (are.done at.process at.call less)
              | inr more ↦
                  both_ways (is_finished script before (numbered at.process (slice_index finished at.process))) (are.next at.process)
                  (next.earlier (slice_index finished at.process) more)
            ]
      ]

  module _ (e : Entry) (next : IsNextCall script before (at_of e)) (same : (at_of e).call ≡ slice_index finished (at_of e).process) where
    -- an entry that does not end its call
    pub finished-running : is_finished script (before ++ e ∷ []) (at_of e) ≡ false → AreFinished script (before ++ e ∷ []) finished
    finished-running running = record {
      count = are.count;
      done = λ process call less. stays_finished script before e (numbered process call) next (are.done process call less);
      next = λ process.
          elim (cases_eq process (at_of e).process) [
            | inl mine ↦
                let is : numbered process (slice_index finished process) ≡ at_of e =
                ap (λ (p : ℕ). numbered p (slice_index finished p)) mine ∙ ap (numbered (at_of e).process) (sym same) in
                subst (λ (at : At). is_finished script (before ++ e ∷ []) at ≡ false) (sym is) running
            | inr differ ↦
                is_finished-other script before e (numbered process (slice_index finished process))
                (other_process (at_of e) (numbered process (slice_index finished process)) differ)
                ∙ are.next process
          ];
    }

    -- and one that ends it
    pub finished-ended : IsWithinLimits script → IsOrdered script before → (at_of e).process < length finished →
        is_finished script (before ++ e ∷ []) (at_of e) ≡ true →
        AreFinished script (before ++ e ∷ []) (slice_set finished (at_of e).process (slice_index finished (at_of e).process + 1))
    finished-ended limits ordered there ended =
        let mine = at_of e in
        let n = slice_index finished mine.process in
        let more = slice_set finished mine.process (n + 1) in
        let here : (process : ℕ) → process ≡ mine.process → slice_index more process ≡ n + 1 =
        λ process is. ap (slice_index more) is ∙ get_or-set_same finished mine.process (n + 1) 0 there in
        let elsewhere : (process : ℕ) → process ≢ mine.process → slice_index more process ≡ slice_index finished process =
        λ process differ. get_or-set_other finished mine.process process (n + 1) 0 differ in
        record {
          count = length-set finished mine.process (n + 1) ∙ are.count;
          done = λ process call less.
              elim (cases_eq process mine.process) [
                | inl is ↦
                    let below : call < n + 1 = subst (λ (k : ℕ). call < k) (here process is) less in
                    subst (λ (p : ℕ). is_finished script (before ++ e ∷ []) (numbered p call) ≡ true) (sym is)
                    (elim (cases_eq call mine.call) [
                      | inl last ↦ subst (λ (c : ℕ). is_finished script (before ++ e ∷ []) (numbered mine.process c) ≡ true) (sym last) ended
                      | inr earlier ↦ stays_finished script before e (numbered mine.process call) next (next.earlier call (omega arith))
                    ])
                | inr differ ↦
                    stays_finished script before e (numbered process call) next
                    (are.done process call (subst (λ (k : ℕ). call < k) (elsewhere process differ) less))
              ];
          next = λ process.
              elim (cases_eq process mine.process) [
                | inl is ↦
                    let later = numbered mine.process (n + 1) in
                    let another : same_call mine later ≡ false =
                    and_right (nat_eq mine.process mine.process) (nat_eq mine.call (n + 1)) (ne_eqb mine.call (n + 1) (λ equal. omega arith)) in
                    ap (λ (k : ℕ). is_finished script (before ++ e ∷ []) (numbered process k)) (here process is)
                    ∙ ap (λ (p : ℕ). is_finished script (before ++ e ∷ []) (numbered p (n + 1))) is
                    ∙ is_finished-other script before e later another
                    ∙ unfinished_without script before later limits (ordered.none_yet later mine.call (omega arith) next.unfinished)
                | inr differ ↦
                    ap (λ (k : ℕ). is_finished script (before ++ e ∷ []) (numbered process k)) (elsewhere process differ)
                    ∙ is_finished-other script before e (numbered process (slice_index finished process))
                    (other_process mine (numbered process (slice_index finished process)) differ)
                    ∙ are.next process
              ];
        }

-- none is at the start
pub finished_at_start : (script : Script) (finished : List ℕ) → IsWithinLimits script → length finished ≡ length script.processes →
    ((process : ℕ) → slice_index finished process ≡ 0) → AreFinished script [] finished
finished_at_start script finished limits count none = record {
  count = count;
  done = λ process call less. absurd (omega (arith, none process));
  next = λ process. unfinished_without script [] (numbered process (slice_index finished process)) limits refl;
}
