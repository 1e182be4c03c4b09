-- Lines of calls that are short, and scripts of such lines, whose text is not too long.
use Rattle.std.proofs.Common.{◌≡◌, ℕ, zero, suc, ◌+◌, ◌*◌, ◌^◌, ◌<◌, ◌≤◌, List, [], ◌∷◌, ◌++◌, length, map, replicate, refl, sym, ap, ◌∙◌, arith, length-append, append-nil}
use Rattle.std.specs.Prelude.{codes}
use Rattle.std.specs.Int.Digits.{digits_of}
use Rattle.std.specs.List.{All, flat_map}
use Rattle.std.proofs.lemmas.Int.Digits.{length-digits_of-le}
use Rattle.std.proofs.lemmas.List.{length-map}
use Rattle.std.proofs.lemmas.List.Elements.{All-append, All-cons, All-head, All-map, All-nil, All-tail}
use Rattle.bd_base.specs.declared.script.Call.{Call}
use Rattle.bd_base.specs.declared.script.Call.TheVariants.{Enter, Read, Write, Map, Close}
use Rattle.bd_base.specs.declared.script.How.{How}
use Rattle.bd_base.specs.declared.script.How.TheVariants.{Plain, Direct}
use Rattle.bd_base.specs.declared.script.Mode.{Mode}
use Rattle.bd_base.specs.declared.script.Mode.TheVariants.{R, Rw}
use Rattle.bd_base.specs.declared.script.Process.{Process}
use Rattle.bd_base.specs.declared.script.Script.{Script}
use Rattle.bd_base.specs.Scripts.{IsProcess, IsWithinLimits}
use Rattle.bd_blocks.specs.Runs.{Run, run_text, runs_of, runs_text, text_of}
use Rattle.bd_blocks.specs.Texts.{before, number_text}
use Rattle.bd_blocks.specs.Words.{how_text, mode_and_how_text, mode_text}
use Rattle.bd_blocks.proofs.RunLists.{runs-front_positive}
use Rattle.bd_script.specs.Texts.{CallForm, Form, IsScript, ProcForm, call_text, form_text, lines_text, process_lines, script_lines, script_text}

-- ---- fields

length-number_text : (k n : ℕ) → 1 ≤ k → n < 10 ^ k → length (number_text n) ≤ k
unfolding number_text
length-number_text k zero some small = some
length-number_text k (suc n) some small =
    omega (arith, length-map (digits_of 10 (suc n)) (λ d. 48 + d), length-digits_of-le 10 k (suc n) (omega arith) small)

length-before : (field rest : List ℕ) → length (before field rest) ≡ length field + (length rest + 1)
length-before field rest = omega (arith, length-append field (32 ∷ rest))

length-mode_text : (mode : Mode) → length (mode_text mode) ≤ 2
length-mode_text R = omega arith
length-mode_text Rw = omega arith

length-how_text : (how : How) → length (how_text how) ≤ 6
length-how_text Plain = omega arith
length-how_text Direct = omega arith

-- the runs of one byte
length-runs_text : (k count byte : ℕ) → 1 ≤ k → 0 < count → count < 10 ^ k → length (runs_text (replicate count byte)) ≤ k + 3
length-runs_text k count byte some more small =
    let run : Run = record { byte = byte; count = count } in
    let one : runs_of (replicate count byte) ≡ run ∷ [] =
    ap runs_of (sym (append-nil (replicate count byte))) ∙ runs-front_positive byte count [] more tt in
    let whole : text_of (run ∷ []) ≡ run_text run = append-nil (run_text run) in
    omega (arith, ap (λ (rs : List Run). length (text_of rs)) one, ap length whole, length-number_text k count some small)

-- ---- calls

-- the line of the call is short
abbrev pub HasShortLine : Call → Type 0
HasShortLine call = length (call_text call) ≤ 63

pub open-short : (name : List ℕ) (mode : Mode) (how : How) → length name ≤ 31 → HasShortLine (Enter name mode how)
open-short name mode how short =
    omega (
      arith,
      length-append (codes "open ") (before name (mode_and_how_text (mode, how))),
      length-before name (mode_and_how_text (mode, how)),
      length-before (mode_text mode) (how_text how),
      length-mode_text mode,
      length-how_text how,
    )

pub close-short : (fd : ℕ) → fd < 256 → HasShortLine (Close fd)
close-short fd low =
    omega (arith, length-append (codes "close ") (number_text fd), length-number_text 3 fd (omega arith) (omega arith))

pub map-short : (fd : ℕ) → fd < 256 → HasShortLine (Map fd)
map-short fd low =
    omega (arith, length-append (codes "map ") (number_text fd), length-number_text 3 fd (omega arith) (omega arith))

-- a first word, a descriptor, a place and what is read or written there
length-placed : (word : List ℕ) (fd off : ℕ) (rest : List ℕ) → length word ≤ 6 → fd < 256 → off < 10 ^ 13 → length rest ≤ 8
    → length (word ++ before (number_text fd) (before (number_text off) rest)) ≤ 63
length-placed word fd off rest a low place c =
    omega (
      arith,
      length-append word (before (number_text fd) (before (number_text off) rest)),
      length-before (number_text fd) (before (number_text off) rest),
      length-before (number_text off) rest,
      length-number_text 3 fd (omega arith) (omega arith),
      length-number_text 13 off (omega arith) place,
    )

pub read-short : (fd off len : ℕ) → fd < 256 → off < 10 ^ 13 → len < 10 ^ 5 → HasShortLine (Read fd off len)
read-short fd off len low place small =
    length-placed (codes "read ") fd off (number_text len) (omega arith) low place
    (omega (arith, length-number_text 5 len (omega arith) small))

-- a write of one byte, many times
pub write-short : (fd off count byte : ℕ) → fd < 256 → off < 10 ^ 13 → 0 < count → count < 10 ^ 5
    → HasShortLine (Write fd off (replicate count byte))
write-short fd off count byte low place some small =
    length-placed (codes "write ") fd off (runs_text (replicate count byte)) (omega arith) low place
    (length-runs_text 5 count byte (omega arith) some small)

-- ---- scripts

IsShort : Form → Type 0
IsShort form = length (form_text form) ≤ 63

lines-short : (lines : List Form) → All IsShort lines → length (lines_text lines) ≤ 64 * length lines
unfolding IsShort
lines-short [] all = omega arith
lines-short (l ∷ ls) all =
    let here : length (form_text l) ≤ 63 = All-head IsShort l ls all in
    let rest : length (lines_text ls) ≤ 64 * length ls = lines-short ls (All-tail IsShort l ls all) in
    omega (arith, here, rest, length-append (form_text l) (10 ∷ lines_text ls))

proc-short : (uid : ℕ) → uid < 4294967296 → IsShort (ProcForm uid)
unfolding IsShort
proc-short uid small =
    omega (arith, length-append (codes "proc ") (number_text uid), length-number_text 10 uid (omega arith) (omega arith))

calls-short : (calls : List Call) → All HasShortLine calls → All IsShort (map CallForm calls)
unfolding IsShort
calls-short calls all = All-map IsShort CallForm calls all

-- the lines of a process are short, and not too many
record HasShortLines (lines : List Form) : Type 0 where
  short : All IsShort lines
  few : length lines ≤ 257

process-short : (p : Process) → IsProcess p → All HasShortLine p.calls → HasShortLines (process_lines p)
process-short p is all = record {
  short = All-cons IsShort (ProcForm p.uid) (map CallForm p.calls) (proc-short p.uid is.uid) (calls-short p.calls all);
  few = omega (arith, is.count, length-map p.calls CallForm);
}

-- the lines of all processes
record HasLinesUpTo (count : ℕ) (lines : List Form) : Type 0 where
  short : All IsShort lines
  few : length lines ≤ 257 * count

processes-short : (ps : List Process) → All IsProcess ps → All (λ p. All HasShortLine p.calls) ps
    → HasLinesUpTo (length ps) (flat_map process_lines ps)
processes-short [] are all = record { short = All-nil IsShort; few = omega arith }
processes-short (p ∷ ps) are all =
    let Short : Process → Type 0 = λ p. All HasShortLine p.calls in
    let here : HasShortLines (process_lines p) = process-short p (All-head IsProcess p ps are) (All-head Short p ps all) in
    let rest : HasLinesUpTo (length ps) (flat_map process_lines ps) =
    processes-short ps (All-tail IsProcess p ps are) (All-tail Short p ps all) in
    record {
      short = All-append IsShort (process_lines p) (flat_map process_lines ps) here.short rest.short;
      few = omega (arith, here.few, rest.few, length-append (process_lines p) (flat_map process_lines ps));
    }

-- a script within the limits that has no schedule and short lines alone
pub IsScript-short : (ps : List Process) → (let s : Script = record { processes = ps; schedule = [] } in
    IsWithinLimits s → All (λ p. All HasShortLine p.calls) ps → IsScript s)
IsScript-short ps within all =
    let s : Script = record { processes = ps; schedule = [] } in
    let lines : List Form = flat_map process_lines ps in
    let short : HasLinesUpTo (length ps) lines = processes-short ps within.processes all in
    let whole : script_lines s ≡ lines = append-nil lines in
    record {
      limits = within;
      size = omega (arith, within.process_count, short.few, ap (λ (l : List Form). length (lines_text l)) whole, lines-short lines short.short);
    }
