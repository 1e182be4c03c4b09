-- The script that is made from a number.
use Rattle.std.specs.Prelude.{ℕ, ◌+◌, Bool, not, is_some, List, [], map, count_by, unwrap_or}
use Rattle.std.specs.List.{range_with_len, sum_by}
use Rattle.bd_base.specs.declared.script.Call.{Call}
use Rattle.bd_base.specs.declared.script.Process.{Process}
use Rattle.bd_base.specs.declared.script.Script.{Script}
use Rattle.bd_gen.specs.Calls.{drawn_call, fixed_call}
use Rattle.bd_gen.specs.Draws.{number_after}

-- whether the call of this number of a process is drawn
unfoldable pub is_drawn : ℕ → ℕ → Bool
is_drawn process call = not (is_some (fixed_call process call))

-- how many numbers a process draws before the call of this number
unfoldable pub drawn_before : ℕ → ℕ → ℕ
drawn_before process call = count_by (is_drawn process) (range_with_len 0 call)

-- how many numbers the processes before this one draw: each has 256 calls
unfoldable pub drawn_by_earlier : ℕ → ℕ
drawn_by_earlier process = sum_by (λ earlier. drawn_before earlier 256) (range_with_len 0 process)

-- the call of this number of a process before whose first draw the last number was x
unfoldable pub made_call : ℕ → ℕ → ℕ → Call
made_call x process call =
    unwrap_or (fixed_call process call) (drawn_call (number_after x (drawn_before process call + 1)))

-- the process of this number, before whose first draw the last number was x
unfoldable pub made_process : ℕ → ℕ → Process
made_process x process = record {
  uid = 1000 + process;
  calls = map (made_call x process) (range_with_len 0 256);
}

-- the script made from n: sixteen processes and no schedule; numbers are drawn by process and then by call
unfoldable pub made_script : ℕ → Script
made_script n = record {
  processes = map (λ process. made_process (number_after n (drawn_by_earlier process)) process) (range_with_len 0 16);
  schedule = [];
}
