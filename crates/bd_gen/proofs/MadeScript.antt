-- What one call more, and one process more, add.
use Rattle.std.proofs.Common.{◌≡◌, ℕ, ◌+◌, Bool, true, false, cond, List, [], ◌∷◌, ◌++◌, map, count_by, Option, None, Some, unwrap_or, not, is_some, refl, ap, sym, ◌∙◌, zero-add, add-zero}
use Rattle.std.specs.List.{range_with_len, sum_by}
use Rattle.std.proofs.lemmas.List.FromFn.{map-range_with_len_more}
use Rattle.std.proofs.lemmas.List.Sums.{sum_by_push}
use Rattle.bd_base.specs.declared.script.Call.{Call}
use Rattle.bd_base.specs.declared.script.Process.{Process}
use Rattle.bd_base.specs.declared.script.Script.{Script}
use Rattle.bd_base.proofs.Ranges.{range_with_len-push}
use Rattle.bd_gen.specs.Calls.{drawn_call, fixed_call}
use Rattle.bd_gen.specs.Draws.{next_number, number_after}
use Rattle.bd_gen.specs.Script.{drawn_before, drawn_by_earlier, is_drawn, made_call, made_process, made_script}
use Rattle.bd_gen.proofs.DrawnNumbers.{number_after-number_after, number_after-one_more}

-- ---- one call

pub is_drawn-fixed : (process call : ℕ) (fixed : Call) → fixed_call process call ≡ Some fixed → is_drawn process call ≡ false
unfolding is_drawn
is_drawn-fixed process call fixed e = rw e refl

pub is_drawn-free : (process call : ℕ) → fixed_call process call ≡ None → is_drawn process call ≡ true
unfolding is_drawn
is_drawn-free process call e = rw e refl

drawn_before-one_more : (process call : ℕ) → drawn_before process (call + 1) ≡ drawn_before process call + cond (is_drawn process call) 1 0
unfolding drawn_before
drawn_before-one_more process call =
    ap (count_by (is_drawn process)) (range_with_len-push 0 call)
    ∙ sum_by_push (λ k. cond (is_drawn process k) 1 0) (range_with_len 0 call) (0 + call)
    ∙ ap (λ k. count_by (is_drawn process) (range_with_len 0 call) + cond (is_drawn process k) 1 0) (zero-add call)

number-kept : (x draws : ℕ) (drawn : Bool) → number_after x (draws + cond drawn 1 0) ≡ cond drawn (next_number (number_after x draws)) (number_after x draws)
number-kept x draws true = number_after-one_more x draws
number-kept x draws false = ap (number_after x) (add-zero draws)

-- the last number after one call more
pub last-after_call : (x last process call : ℕ) → last ≡ number_after x (drawn_before process call)
    → cond (is_drawn process call) (next_number last) last ≡ number_after x (drawn_before process (call + 1))
last-after_call x last process call same =
    ap (λ (l : ℕ). cond (is_drawn process call) (next_number l) l) same
    ∙ sym (ap (number_after x) (drawn_before-one_more process call) ∙ number-kept x (drawn_before process call) (is_drawn process call))

-- the call that is made of the last number
pub made_call-is : (x last process call : ℕ) → last ≡ number_after x (drawn_before process call)
    → unwrap_or (fixed_call process call) (drawn_call (next_number last)) ≡ made_call x process call
unfolding made_call
made_call-is x last process call same =
    ap (λ (l : ℕ). unwrap_or (fixed_call process call) (drawn_call l))
    (ap next_number same ∙ sym (number_after-one_more x (drawn_before process call)))

-- the calls with one more
pub calls-one_more : (x process call : ℕ) (calls : List Call) (made : Call)
    → calls ≡ map (made_call x process) (range_with_len 0 call) → made ≡ made_call x process call
    → calls ++ made ∷ [] ≡ map (made_call x process) (range_with_len 0 (call + 1))
calls-one_more x process call calls made same is =
    ap (λ (l : List Call). l ++ made ∷ []) same ∙ ap (λ (m : Call). map (made_call x process) (range_with_len 0 call) ++ m ∷ []) is
    ∙ sym (map-range_with_len_more (made_call x process) 0 call call (zero-add call))

-- ---- one process

-- the process of this number in the script made from n
pub process_of : ℕ → ℕ → Process
process_of n process = made_process (number_after n (drawn_by_earlier process)) process

drawn_by_earlier-one_more : (process : ℕ) → drawn_by_earlier (process + 1) ≡ drawn_by_earlier process + drawn_before process 256
unfolding drawn_by_earlier
drawn_by_earlier-one_more process =
    ap (sum_by (λ earlier. drawn_before earlier 256)) (range_with_len-push 0 process)
    ∙ sum_by_push (λ earlier. drawn_before earlier 256) (range_with_len 0 process) (0 + process)
    ∙ ap (λ k. sum_by (λ earlier. drawn_before earlier 256) (range_with_len 0 process) + drawn_before k 256) (zero-add process)

-- the last number after one process more
pub last-after_process : (n last process : ℕ) → last ≡ number_after n (drawn_by_earlier process)
    → number_after last (drawn_before process 256) ≡ number_after n (drawn_by_earlier (process + 1))
last-after_process n last process same =
    ap (λ (l : ℕ). number_after l (drawn_before process 256)) same
    ∙ number_after-number_after n (drawn_by_earlier process) (drawn_before process 256)
    ∙ sym (ap (number_after n) (drawn_by_earlier-one_more process))

-- ---- the loops

-- the first calls of a process, and the last number that was drawn for them
pub record AreFirstCalls (x process count last : ℕ) (calls : List Call) : Type 0 where
  pub drawn : last ≡ number_after x (drawn_before process count)
  pub made : calls ≡ map (made_call x process) (range_with_len 0 count)

-- the first processes, and the last number that was drawn for them
pub record AreFirstProcesses (n count last : ℕ) (processes : List Process) : Type 0 where
  pub drawn : last ≡ number_after n (drawn_by_earlier count)
  pub made : processes ≡ map (process_of n) (range_with_len 0 count)

pub no_calls : (x process : ℕ) → AreFirstCalls x process 0 x []
unfolding drawn_before number_after
no_calls x process = record { drawn = refl; made = refl }

pub one_call_more : (x process count last next : ℕ) (calls : List Call) (call : Call) → AreFirstCalls x process count last calls
    → call ≡ unwrap_or (fixed_call process count) (drawn_call (next_number last))
    → next ≡ cond (is_drawn process count) (next_number last) last
    → AreFirstCalls x process (count + 1) next (calls ++ call ∷ [])
one_call_more x process count last next calls call so_far is kept = record {
  drawn = kept ∙ last-after_call x last process count so_far.drawn;
  made = calls-one_more x process count calls call so_far.made (is ∙ made_call-is x last process count so_far.drawn);
}

pub no_processes : (n : ℕ) → AreFirstProcesses n 0 n []
unfolding drawn_by_earlier number_after
no_processes n = record { drawn = refl; made = refl }

pub one_process_more : (n count last next : ℕ) (processes : List Process) (process : Process) → AreFirstProcesses n count last processes
    → process ≡ made_process last count → next ≡ number_after last (drawn_before count 256)
    → AreFirstProcesses n (count + 1) next (processes ++ process ∷ [])
unfolding process_of
one_process_more n count last next processes process so_far is after = record {
  drawn = after ∙ last-after_process n last count so_far.drawn;
  made =
      ap (λ (l : List Process). l ++ process ∷ []) so_far.made
      ∙ ap (λ (p : Process). map (process_of n) (range_with_len 0 count) ++ p ∷ []) (is ∙ ap (λ (x : ℕ). made_process x count) so_far.drawn)
      ∙ sym (map-range_with_len_more (process_of n) 0 count count (zero-add count));
}

-- all calls make the process
pub all_calls : (x process last : ℕ) (calls : List Call) → AreFirstCalls x process 256 last calls
    → (let made : Process = record { uid = 1000 + process; calls = calls } in made ≡ made_process x process)
unfolding made_process
all_calls x process last calls so_far = ap (λ (l : List Call). let p : Process = record { uid = 1000 + process; calls = l } in p) so_far.made

-- all processes make the script
pub all_processes : (n last : ℕ) (processes : List Process) → AreFirstProcesses n 16 last processes
    → (let made : Script = record { processes = processes; schedule = [] } in made ≡ made_script n)
unfolding made_script process_of
all_processes n last processes so_far = ap (λ (l : List Process). let s : Script = record { processes = l; schedule = [] } in s) so_far.made
