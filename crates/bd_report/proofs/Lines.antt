-- The lines of calls and of processes, one after another.
use Rattle.std.proofs.Common.{◌≡◌, ℕ, ◌+◌, ◌*◌, ◌<◌, true, List, [], ◌∷◌, ◌++◌, Option, Some, length, get_or, append_assoc, arith, refl, sym, ap, ◌∙◌, subst}
use Rattle.std.specs.Prelude.{codes, slice_get}
use Rattle.std.specs.List.{flat_map, range_with_len}
use Rattle.std.specs.Option.{option_map_or}
use Rattle.std.proofs.lemmas.List.{flat_map_more}
use Rattle.std.proofs.lemmas.Option.{slice_get_read, slice_get_within}
use Rattle.bd_base.specs.declared.journal.At.{At}
use Rattle.bd_base.specs.declared.limits.TheConstants.{CALLS}
use Rattle.bd_base.specs.declared.script.Call.{Call}
use Rattle.bd_base.specs.declared.script.Process.{Process}
use Rattle.bd_base.specs.declared.script.Script.{Script}
use Rattle.bd_base.specs.Scripts.{IsWithinLimits}
use Rattle.bd_base.proofs.Ranges.{range_with_len-push}
use Rattle.bd_blocks.specs.Texts.{before}
use Rattle.bd_blocks.specs.declared.text.TheConstants.{LF}
use Rattle.bd_entry.specs.declared.entry.Entry.{Entry}
use Rattle.bd_entry.specs.Calls.{call_at, calls_of, entries_of, is_ended_by}
use Rattle.bd_entry.specs.History.{InOrder}
use Rattle.bd_entry.proofs.CallOrder.{is_finished-called, numbered}
use Rattle.bd_report.specs.declared.reporting.Basis.{Basis}
use Rattle.bd_report.specs.declared.notes.Notes.{Notes}
use Rattle.bd_report.specs.Replies.{call_text, reply_text}
use Rattle.bd_report.specs.Basis.{IsBasis}
use Rattle.bd_report.specs.Notes.{AreNotesOfAll, IsOfEnded, AreNotesOf}
use Rattle.bd_report.proofs.Tables.{slot_inside}

-- what was read at a place of a list stands there
pub stands : {X : Type 0} (xs ys : List X) (i : ℕ) (x : X) → xs ≡ ys → i < length xs → x ≡ get_or xs i x → slice_get ys i ≡ Some x
stands xs ys i x same inside is =
    subst (λ (zs : List _). slice_get zs i ≡ Some x) same (slice_get_read xs (length xs) i x refl inside is)

-- the calls of a process of the script
pub calls_are : (script : Script) (process : ℕ) (p : Process) → slice_get script.processes process ≡ Some p → calls_of script process ≡ p.calls
calls_are script process p is = ap (λ (o : Option Process). option_map_or (λ (q : Process). q.calls) o []) is

-- the notes of the table on a call of a journal that is in order
pub record IsLineOf (script : Script) (journal : List Entry) (at : At) (call : Call) (notes : Notes) : Type 0 where
  pub called : call_at script at ≡ Some call
  pub tells : AreNotesOf call (entries_of at journal) notes
  pub ended : is_ended_by call (entries_of at journal) ≡ true

line_of : (script : Script) (journal : List Entry) (table : List Notes) (process number : ℕ) (p : Process) (call : Call) (notes : Notes) →
    IsWithinLimits script → InOrder script journal → AreNotesOfAll script journal table → slice_get script.processes process ≡ Some p →
    slice_get p.calls number ≡ Some call → notes ≡ get_or table (CALLS * process + number) notes →
    IsLineOf script journal (numbered process number) call notes
line_of script journal table process number p call notes limits order are is call_is told_is =
    let calls : calls_of script process ≡ p.calls = calls_are script process p is in
    let called : call_at script (numbered process number) ≡ Some call = ap (λ (l : List Call). slice_get l number) calls ∙ call_is in
    let inside : number < length (calls_of script process) =
    subst (λ (l : List Call). number < length l) (sym calls) (slice_get_within p.calls number call call_is) in
    let slot : CALLS * process + number < length table = slot_inside script journal table (numbered process number) call limits are called in
    let in_table : slice_get table (CALLS * process + number) ≡ Some notes =
    slice_get_read table (length table) (CALLS * process + number) notes refl slot told_is in
    record {
      called = called;
      tells = are.tells (numbered process number) call notes called in_table;
      ended = sym (is_finished-called script journal (numbered process number) call called) ∙ order.finished process number inside;
    }

-- the same of what was read from the lists
pub line_at : (basis : Basis) (process number : ℕ) (processes : List Process) (p : Process) (calls : List Call) (call : Call) (notes : Notes) → IsBasis basis →
    processes ≡ basis.script.now.processes → process < length basis.script.now.processes → p ≡ get_or processes process p →
    calls ≡ p.calls → number < length calls → call ≡ get_or calls number call → notes ≡ get_or basis.notes.items (CALLS * process + number) notes →
    IsLineOf basis.script.now basis.journal.now (numbered process number) call notes
line_at basis process number processes p calls call notes is all inside p_is of_p few call_is told_is =
    line_of basis.script.now basis.journal.now basis.notes.items process number p call notes is.limits is.in_order is.notes
    (stands processes basis.script.now.processes process p all (subst (λ (l : List Process). process < length l) (sym all) inside) p_is)
    (stands calls p.calls number call of_p few call_is) told_is

pub is_of_ended : (script : Script) (journal : List Entry) (at : At) (call : Call) (notes : Notes) →
    IsLineOf script journal at call notes → IsOfEnded call notes
is_of_ended script journal at call notes line = record { entries = entries_of at journal; tells = line.tells; ended = line.ended }

-- the reply of a call of the script
pub reply_of_call : (script : Script) (journal : List Entry) (at : At) (call : Call) → call_at script at ≡ Some call →
    reply_text script journal at ≡ call_text call (entries_of at journal)
reply_of_call script journal at call called =
    ap (λ (o : Option Call). option_map_or (λ (of : Call). call_text of (entries_of at journal)) o []) called

-- one line more
pub lines_more : (line : ℕ → List ℕ) (n : ℕ) (start so_far all : List ℕ) → so_far ≡ start ++ flat_map line (range_with_len 0 n) →
    all ≡ so_far ++ line n → all ≡ start ++ flat_map line (range_with_len 0 (n + 1))
lines_more line n start so_far all is last =
    let number : 0 + n ≡ n = omega arith in
    last ∙ ap (λ (t : List ℕ). t ++ line n) is
    ∙ flat_map_more line start (range_with_len 0 n) n
    ∙ ap (λ (ns : List ℕ). start ++ flat_map line ns)
    (ap (λ (k : ℕ). range_with_len 0 n ++ k ∷ []) (sym number) ∙ sym (range_with_len-push 0 n))

-- the line that tells the process
pub header : (t number : List ℕ) → ((t ++ before (codes "proc") []) ++ number) ++ LF ∷ [] ≡ t ++ before (codes "proc") (number ++ LF ∷ [])
header t number =
    append_assoc (t ++ before (codes "proc") []) number (LF ∷ []) ∙ append_assoc t (before (codes "proc") []) (number ++ LF ∷ [])
