-- Where all calls have ended the journal is in order.
use Rattle.std.proofs.Common.{◌≡◌, ℕ, ◌+◌, ◌<◌, ◌≤◌, Bool, true, [], length, Option, ap, ◌∙◌, subst, arith, ⊎_elim}
use Rattle.std.specs.Prelude.{nat_eq}
use Rattle.std.specs.Option.{option_map_or}
use Rattle.std.specs.List.{list_all, range_with_len}
use Rattle.std.proofs.lemmas.Bool.{cases_lt, eqb-true}
use Rattle.std.proofs.lemmas.List.FromFn.{get_or-range_with_len, length-range_with_len}
use Rattle.std.proofs.lemmas.List.Sums.{AllPass-from_list_all}
use Rattle.std.proofs.lemmas.Option.{slice_get_past}
use Rattle.bd_base.specs.declared.script.Process.{Process}
use Rattle.bd_base.specs.declared.script.Script.{Script}
use Rattle.bd_entry.specs.Calls.{calls_of}
use Rattle.bd_turns.specs.CourseLaws.{EndsAreInOrder}
use Rattle.bd_turns.specs.State.{progress_of}
use Rattle.bd_turns.specs.Turns.{process_count}

-- a test that holds of a range holds of each number in it
list_all-at : (p : ℕ → Bool) (n k : ℕ) → list_all p (range_with_len 0 n) ≡ true → k < n → p k ≡ true
list_all-at p n k all below =
    let within : k < length (range_with_len 0 n) = omega (arith, length-range_with_len 0 n) in
    let at : 0 + k ≡ k = omega arith in
    subst (λ (i : ℕ). p i ≡ true) (get_or-range_with_len 0 n k 0 below ∙ at) (AllPass-from_list_all p (range_with_len 0 n) all k 0 within)

-- a process that the script does not have has no calls
no_calls : (script : Script) (process : ℕ) → length script.processes ≤ process → calls_of script process ≡ []
no_calls script process past =
    ap (λ (o : Option Process). option_map_or (λ (p : Process). p.calls) o []) (slice_get_past script.processes process past)

pub ends_are_in_order : EndsAreInOrder
ends_are_in_order v m reached ended = record {
  so_far = reached.history.in_order;
  finished = λ process call below.
      ⊎_elim
      (λ there.
      let all_of : (progress_of m process).ended ≡ length (calls_of m.script process) =
      eqb-true (progress_of m process).ended (length (calls_of m.script process))
      (list_all-at (λ process. nat_eq (progress_of m process).ended (length (calls_of m.script process))) (process_count m) process ended there) in
      reached.sound.calls.in_turn.finished process call (omega (arith, below, all_of)))
      (λ past. let none = ap length (no_calls m.script process past) in absurd (omega (arith, below, none)))
      (cases_lt process (process_count m));
}
