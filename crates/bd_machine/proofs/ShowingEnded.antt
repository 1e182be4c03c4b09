-- Whether all calls have ended.
use Rattle.std.proofs.Common.{◌≡◌, ℕ, zero, suc, ◌+◌, ◌<◌, ◌≤◌, Bool, true, false, List, [], length, get_or, Option, None, Some, refl, sym, ap, ◌∙◌, subst, arith, ⊎_elim}
use Rattle.std.specs.Prelude.{is_none, is_some, nat_eq, not, slice_get}
use Rattle.std.specs.Bool.{OnFalse, OnTrue}
use Rattle.std.specs.Option.{option_map_or}
use Rattle.std.specs.List.{list_all, range_with_len}
use Rattle.std.proofs.lemmas.Bool.{and_from, and_parts, cases_eq, cases_lt, eq-eqb, eqb-true, false_from_ne_true, false≢true}
use Rattle.std.proofs.lemmas.Option.{slice_get-get_or, slice_get_past}
use Rattle.bd_base.specs.declared.script.Process.{Process as ScriptProcess}
use Rattle.bd_base.specs.declared.script.Script.{Script}
use Rattle.bd_entry.specs.Calls.{calls_of}
use Rattle.bd_entry.specs.History.{InOrder}
use Rattle.bd_machine.specs.declared.parts.Parts.{Parts}
use Rattle.bd_machine.specs.declared.process.Process.{Process}
use Rattle.bd_machine.specs.Machine.{AreFinished, IsFirstUnfinished}
use Rattle.bd_machine.specs.Turns.{IsAt}
use Rattle.bd_turns.proofs.NeverStuck.{never_stuck}
use Rattle.bd_turns.specs.State.{Progress, State, progress_of}
use Rattle.bd_turns.specs.Turns.{SomeActorActs, all_ended}
use Rattle.bd_tables.specs.declared.sides.Tables as sides

-- a test that all numbers of a range pass
all_in : (test : ℕ → Bool) (n a : ℕ) → ((k : ℕ) → a ≤ k → k < a + n → test k ≡ true) → list_all test (range_with_len a n) ≡ true
all_in test zero a passes = refl
all_in test (suc n) a passes =
    and_from (test a) (list_all test (range_with_len (a + 1) n)) (passes a (omega arith) (omega arith))
    (all_in test n (a + 1) (λ k least most. passes k (omega (arith, least)) (omega (arith, most))))

one_in : (test : ℕ → Bool) (n a : ℕ) → list_all test (range_with_len a n) ≡ true → (k : ℕ) → a ≤ k → k < a + n → test k ≡ true
one_in test zero a all k least most = absurd (omega (arith, least, most))
one_in test (suc n) a all k least most =
    let parts = and_parts (test a) (list_all test (range_with_len (a + 1) n)) all in
    ⊎_elim {C = test k ≡ true}
    (λ same. ap test same ∙ parts.0)
    (λ differ. one_in test n (a + 1) parts.1 k (omega (arith, least, differ)) (omega (arith, most)))
    (cases_eq k a)

-- an element of a list at its place
element : {X : Type 0} (xs : List X) (i : ℕ) (x : X) → i < length xs → x ≡ get_or xs i x → slice_get xs i ≡ Some x
element xs i x within is = slice_get-get_or xs i x within ∙ ap Some (sym is)

-- facts of one answer of a test
pub on_false : (b : Bool) (P : Type 0) → (b ≡ false → P) → OnFalse b P
on_false true P gives = tt
on_false false P gives = gives refl

pub on_true : (b : Bool) (P : Type 0) → (b ≡ true → P) → OnTrue b P
on_true true P gives = gives refl
on_true false P gives = tt

pub none_from : {X : Type 0} (o : Option X) (r : Bool) → is_some o ≡ not r → is_none o ≡ r
none_from None true is = refl
none_from None false is = absurd (false≢true is)
none_from (Some x) true is = absurd (false≢true (sym is))
none_from (Some x) false is = refl

module _ {T M P : Type 0} {K : sides.Ghosts T P} (script : Script) (x : Parts T M P) (m : State) (kept : IsAt K script x m) where
  abbrev count : ℕ
  count = length script.processes

  abbrev HasEnded : ℕ → Type 0
  HasEnded process = (progress_of m process).ended ≡ length (calls_of script process)

  -- how many calls of a process have ended
  pub ended_is : (i : ℕ) (z : Process P) → i < count → z ≡ get_or x.processes.items i z → (progress_of m i).ended ≡ z.ended
  ended_is i z within is =
      ap (λ (g : Progress). g.ended)
      (kept.shows.each i z (element x.processes.items i z (subst (λ (k : ℕ). i < k) (sym kept.shows.count) within) is)).progress

  -- and how many there are
  pub calls_are : (i : ℕ) (p : ScriptProcess) (processes : List ScriptProcess) → i < count → processes ≡ script.processes →
      length (calls_of script i) ≡ length (get_or processes i p).calls
  calls_are i p processes within are =
      ap (λ (o : Option ScriptProcess). length (option_map_or (λ (q : ScriptProcess). q.calls) o []))
      (slice_get-get_or script.processes i p within)
      ∙ ap (λ (list : List ScriptProcess). length (get_or list i p).calls) (sym are)

  most : (i : ℕ) → (progress_of m i).ended ≤ length (calls_of script i)
  most i =
      subst (λ (s : Script). (progress_of m i).ended ≤ length (calls_of s i)) kept.shows.script_is
      (kept.reached.1.sound.calls.processes.ended i)

  -- a process that has no more calls left
  pub has_ended_at : (i : ℕ) → length (calls_of script i) ≤ (progress_of m i).ended → HasEnded i
  has_ended_at i least = let upper = most i in omega (arith, least, upper)

  -- whether all calls of a script have ended
  abbrev all_of : Script → Bool
  all_of s =
      list_all (λ process. nat_eq (progress_of m process).ended (length (calls_of s process)))
      (range_with_len 0 (length s.processes))

  pub all_are : ((i : ℕ) → i < count → HasEnded i) → all_ended m ≡ true
  all_are each =
      ap all_of kept.shows.script_is
      ∙ all_in (λ process. nat_eq (progress_of m process).ended (length (calls_of script process))) count 0
      (λ k least within. eq-eqb (progress_of m k).ended (length (calls_of script k)) (each k (omega (arith, within))))

  pub each_has : all_ended m ≡ true → (i : ℕ) → i < count → HasEnded i
  each_has all i within =
      eqb-true (progress_of m i).ended (length (calls_of script i))
      (one_in (λ process. nat_eq (progress_of m process).ended (length (calls_of script process))) count 0
      (sym (ap all_of kept.shows.script_is) ∙ all) i (omega arith)
      (omega (arith, within)))

  -- where one has calls left, not all have ended
  pub not_all : (i : ℕ) → i < count → (progress_of m i).ended < length (calls_of script i) → all_ended m ≡ false
  not_all i within less =
      false_from_ne_true (all_ended m) (λ all. let same = each_has all i within in absurd (omega (arith, less, same)))

  -- and the first such process is the one of the first call that has not
  pub first_is : (i : ℕ) (z : Process P) → i < count → z ≡ get_or x.processes.items i z → z.ended < length (calls_of script i) →
      ((j : ℕ) → j < i → HasEnded j) → IsFirstUnfinished m (record { process = i; call = z.ended })
  first_is i z within is less before =
      record {
        process = subst (λ (s : Script). i < length s.processes) (sym kept.shows.script_is) within;
        running_is = ap (λ (k : ℕ). record { process = i; call = k }) (sym (ended_is i z within is));
        called = subst (λ (s : Script). z.ended < length (calls_of s i)) (sym kept.shows.script_is) less;
        earlier = λ j lt.
            subst (λ (s : Script). (progress_of m j).ended ≡ length (calls_of s j)) (sym kept.shows.script_is) (before j lt);
      }

  -- until all have ended some actor acts
  pub acts : all_ended m ≡ false → SomeActorActs m
  acts some = never_stuck kept.reached.0 m kept.reached.1 some

  -- the calls that have ended are finished in the journal
  pub are_finished : (i number : ℕ) → number ≡ (progress_of m i).ended → AreFinished m i number
  are_finished i number is call lt =
      kept.reached.1.sound.calls.in_turn.finished i call (subst (λ (k : ℕ). call < k) is lt)

  -- once all have, the journal is in order
  pub in_order : all_ended m ≡ true → InOrder m.script m.journal
  in_order all =
      record {
        so_far = kept.reached.1.history.in_order;
        finished = λ process call lt_there.
            let lt = subst (λ (s : Script). call < length (calls_of s process)) kept.shows.script_is lt_there in
            kept.reached.1.sound.calls.in_turn.finished process call
            (⊎_elim {C = call < (progress_of m process).ended}
            (λ within. let same = each_has all process within in omega (arith, lt, same))
            (λ past. let none = no_calls process past in absurd (omega (arith, lt, none)))
            (cases_lt process count));
      }
    where
      no_calls : (process : ℕ) → count ≤ process → length (calls_of script process) ≡ 0
      no_calls process past =
          ap (λ (o : Option ScriptProcess). length (option_map_or (λ (q : ScriptProcess). q.calls) o []))
          (slice_get_past script.processes process past)
