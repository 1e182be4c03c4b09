-- The script that is made is within the limits of one, and its text is not too long.
use Rattle.std.proofs.Common.{◌≡◌, ℕ, ◌+◌, ◌*◌, ◌<◌, ◌≤◌, zero, suc, List, [], ◌∷◌, length, map, arith}
use Rattle.std.specs.List.{All, range_with_len}
use Rattle.std.proofs.lemmas.List.Elements.{All-cons, All-head, All-map, All-nil, All-tail}
use Rattle.std.proofs.lemmas.List.FromFn.{length-map-range_with_len}
use Rattle.bd_base.specs.declared.script.Call.{Call}
use Rattle.bd_base.specs.declared.script.Process.{Process}
use Rattle.bd_base.specs.Scripts.{IsCall, IsProcess, IsSchedule}
use Rattle.bd_script.specs.Texts.{IsScript}
use Rattle.bd_script.proofs.ShortLines.{HasShortLine, IsScript-short}
use Rattle.bd_gen.specs.Draws.{number_after}
use Rattle.bd_gen.specs.Script.{drawn_by_earlier, made_call, made_process, made_script}
use Rattle.bd_gen.proofs.ShortCalls.{Fits, made-fits}

-- what holds of each number of a range
pub All-range : (P : ℕ → Type 0) (a n : ℕ) → ((k : ℕ) → a ≤ k → k < a + n → P k) → All P (range_with_len a n)
All-range P a zero each = All-nil P
All-range P a (suc n) each =
    All-cons P a (range_with_len (a + 1) n) (each a (omega arith) (omega arith))
    (All-range P (a + 1) n (λ k low high. each k (omega arith) (omega arith)))

-- ---- one process

record FitsProcess (p : Process) : Type 0 where
  is_process : IsProcess p
  short : All HasShortLine p.calls

calls-fit : (x process n : ℕ) → n ≤ 256 → process < 16
    → (let p : Process = record { uid = 1000 + process; calls = map (made_call x process) (range_with_len 0 n) } in FitsProcess p)
calls-fit x process n few low = record {
  is_process = record {
    uid = omega arith;
    count = omega (arith, few, length-map-range_with_len (made_call x process) 0 n);
    calls = All-map IsCall (made_call x process) (range_with_len 0 n)
        (All-range (λ k. IsCall (made_call x process k)) 0 n (λ k from to. (made-fits x process k).is_call));
  };
  short = All-map HasShortLine (made_call x process) (range_with_len 0 n)
      (All-range (λ k. HasShortLine (made_call x process k)) 0 n (λ k from to. (made-fits x process k).short));
}

process-fits : (x process : ℕ) → process < 16 → FitsProcess (made_process x process)
unfolding made_process
process-fits x process low = calls-fit x process 256 (omega arith) low

-- ---- the script

are-processes : (ps : List Process) → All FitsProcess ps → All IsProcess ps
are-processes [] all = All-nil IsProcess
are-processes (p ∷ ps) all =
    All-cons IsProcess p ps (All-head FitsProcess p ps all).is_process (are-processes ps (All-tail FitsProcess p ps all))

are-short : (ps : List Process) → All FitsProcess ps → All (λ p. All HasShortLine p.calls) ps
are-short [] all = All-nil (λ p. All HasShortLine p.calls)
are-short (p ∷ ps) all =
    All-cons (λ p. All HasShortLine p.calls) p ps (All-head FitsProcess p ps all).short (are-short ps (All-tail FitsProcess p ps all))

-- at most sixteen such processes and no schedule
script-fits : (ps : List Process) → length ps ≤ 16 → All FitsProcess ps → IsScript (record { processes = ps; schedule = [] })
script-fits ps few all =
    IsScript-short ps
    (record {
      process_count = few;
      processes = are-processes ps all;
      schedule_count = omega arith;
      schedule = All-nil (IsSchedule (length ps));
      turns = omega arith;
    })
    (are-short ps all)

processes-fit : (make : ℕ → Process) (n : ℕ) → n ≤ 16 → ((process : ℕ) → process < 16 → FitsProcess (make process))
    → IsScript (record { processes = map make (range_with_len 0 n); schedule = [] })
processes-fit make n few each =
    script-fits (map make (range_with_len 0 n)) (omega (arith, few, length-map-range_with_len make 0 n))
    (All-map FitsProcess make (range_with_len 0 n)
    (All-range (λ process. FitsProcess (make process)) 0 n (λ process from to. each process (omega arith))))

pub IsScript-made_script : (n : ℕ) → IsScript (made_script n)
unfolding made_script
IsScript-made_script n =
    processes-fit (λ process. made_process (number_after n (drawn_by_earlier process)) process) 16 (omega arith)
    (λ process low. process-fits (number_after n (drawn_by_earlier process)) process low)
