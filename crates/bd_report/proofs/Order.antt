-- The entries of a journal in order: each is of a call of the script, and answers one of few pieces.
use Rattle.std.proofs.Common.{◌≡◌, ℕ, ◌<◌, ◌≤◌, All, List, [], ◌∷◌, ◌++◌, length, get_or, Option, None, Some, arith, refl, ◌∙◌, sym, subst, ⊎_elim}
use Rattle.std.specs.Prelude.{IfSome, IsSome, slice_get}
use Rattle.std.specs.Option.{option_map_or}
use Rattle.std.proofs.lemmas.Bool.{false≢true}
use Rattle.std.proofs.lemmas.List.Elements.{All-nil, All-push}
use Rattle.std.proofs.lemmas.Option.{MatchOption-at_some, none-some, slice_get_cases}
use Rattle.bd_base.specs.declared.journal.At.{At}
use Rattle.bd_base.specs.declared.limits.TheConstants.{CALLS}
use Rattle.bd_base.specs.declared.script.Call.{Call}
use Rattle.bd_base.specs.declared.script.Process.{Process}
use Rattle.bd_base.specs.declared.script.Script.{Script}
use Rattle.bd_base.specs.Pieces.{Piece}
use Rattle.bd_base.specs.Scripts.{IsCall, IsProcess, IsWithinLimits}
use Rattle.bd_entry.specs.declared.entry.Entry.{Entry}
use Rattle.bd_entry.specs.declared.entry.Entry.TheVariants.{Access, Refused}
use Rattle.bd_entry.specs.Calls.{Place, at_of, call_at, calls_of, piece_of_call}
use Rattle.bd_entry.specs.History.{InOrderSoFar}
use Rattle.bd_entry.specs.Rules.{EntryRule, FitsCall, FitsScript, NextCall}
use Rattle.bd_entry.specs.RulesOfCalls.{HasFieldsOf, IsNextCall}
use Rattle.bd_entry.proofs.CallPieces.{All-slice_get}
use Rattle.bd_entry.proofs.Histories.{order_holds}
use Rattle.bd_entry.proofs.HistoryLaws.{is_call}
use Rattle.bd_entry.proofs.RangesOfPieces.{piece_of_call-is}
use Rattle.bd_pieces.specs.declared.piece_list.TheConstants.{MOST_PIECES}
use Rattle.bd_report.specs.Notes.{AreFew, answered_piece}

-- the entry is of a call of the script, and answers one of few pieces
pub record IsNoted (script : Script) (entry : Entry) : Type 0 where
  pub call : Call
  pub called : call_at script (at_of entry) ≡ Some call
  pub few : IfSome (answered_piece entry) (λ piece. piece < MOST_PIECES)

-- a number of a piece of a call is one of few
few_of_some : (call : Call) (number : ℕ) (o : Option Piece) → IsCall call → piece_of_call call number ≡ o → IsSome o → number < MOST_PIECES
few_of_some call number None ok is some = absurd (false≢true some)
few_of_some call number (Some piece) ok is some = (piece_of_call-is call number piece ok is).number_is

few_of : (p : Place) (e : Entry) → IsCall p.call → HasFieldsOf p e → IfSome (answered_piece e) (λ piece. piece < MOST_PIECES)
few_of p (Access at piece fd file index block range wrote way bytes) ok fields =
    (piece_of_call-is p.call piece _ ok fields.1.piece).number_is
few_of p (Refused at None reason) ok fields = tt
few_of p (Refused at (Some piece) reason) ok fields = few_of_some p.call piece (piece_of_call p.call piece) ok refl fields
few_of p other ok fields = tt

-- a call that the script has
there : (script : Script) (at : At) → at.call < length (calls_of script at.process) → (call : Call) × (call_at script at ≡ Some call)
there script at within =
    ⊎_elim
    (λ found. (found.0, found.2))
    (λ past. absurd (omega (arith, within, past.0)))
    (slice_get_cases (calls_of script at.process) at.call).1

noted-push : (script : Script) → IsWithinLimits script → (before : List Entry) (e : Entry) →
    ((rule : EntryRule) → FitsScript script before e rule) → All (IsNoted script) before → All (IsNoted script) (before ++ e ∷ [])
noted-push script limits before e fits all =
    let next : IsNextCall script before (at_of e) = fits NextCall in
    let found : (call : Call) × (call_at script (at_of e) ≡ Some call) = there script (at_of e) next.in_script in
    let of_call = MatchOption-at_some _ _ found.0 found.1 (fits FitsCall) in
    All-push (IsNoted script) before e all
    (record { call = found.0; called = found.1; few = few_of _ e (is_call script (at_of e) found.0 limits found.1) of_call.fields })

all_noted : (script : Script) (journal : List Entry) → IsWithinLimits script → InOrderSoFar script journal → All (IsNoted script) journal
all_noted script journal limits order =
    order_holds script (All (IsNoted script)) (All-nil (IsNoted script)) (noted-push script limits) journal order

-- the one at this place
pub noted_at : (script : Script) (journal : List Entry) (i : ℕ) (e : Entry) → IsWithinLimits script → InOrderSoFar script journal →
    i < length journal → e ≡ get_or journal i e → IsNoted script e
noted_at script journal i e limits order inside is = subst (IsNoted script) (sym is) (all_noted script journal limits order i e inside)

-- so all pieces that are answered are few
pub all_few : (script : Script) (journal : List Entry) → IsWithinLimits script → InOrderSoFar script journal → AreFew journal
all_few script journal limits order = λ i d within. (all_noted script journal limits order i d within).few

-- a process has few calls
pub few_calls : (script : Script) (at : At) (call : Call) → IsWithinLimits script → call_at script at ≡ Some call → at.call < CALLS
few_calls script at call limits called = by_process (slice_get script.processes at.process) refl called
  where
    by_process : (o : Option Process) → slice_get script.processes at.process ≡ o →
        slice_get (option_map_or (λ (p : Process). p.calls) o []) at.call ≡ Some call → at.call < CALLS
    by_process None none is = absurd (none-some call is)
    by_process (Some p) found is =
        let count : length p.calls ≤ CALLS = (All-slice_get IsProcess script.processes at.process p limits.processes found).count in
        ⊎_elim
        (λ inside. let below : at.call < length p.calls = inside.1 in omega arith)
        (λ past. absurd (none-some call (sym past.1 ∙ is)))
        (slice_get_cases p.calls at.call).1
