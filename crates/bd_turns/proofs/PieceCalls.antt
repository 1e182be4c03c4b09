-- Calls with pieces: their descriptor rests on the call alone, and they attach no right, so that the sizes which their
-- process knows are those of this time.
use Rattle.std.proofs.Common.{◌≡◌, ◌≢◌, inl, inr, ℕ, ◌<◌, false, List, [], ◌∷◌, ◌++◌, length, Some, arith, refl, sym, ap, ◌∙◌, subst, ⊎_elim}
use Rattle.std.specs.Prelude.{map, slice_index_or, suc, zero}
use Rattle.std.specs.List.{list_any}
use Rattle.std.proofs.lemmas.Bool.{both_ways, cases_Bool, cases_eq, cases_order, false_from_ne_true}
use Rattle.std.proofs.lemmas.Option.{none-some, slice_get_within}
use Rattle.bd_base.specs.declared.journal.At.{At}
use Rattle.bd_base.specs.declared.script.Call.{Call}
use Rattle.bd_base.specs.declared.script.Call.TheVariants.{Read, Write, RawRead, RawWrite}
use Rattle.bd_base.specs.declared.script.Process.{Process}
use Rattle.bd_base.specs.declared.script.Script.{Script}
use Rattle.bd_base.specs.declared.volume.Volume.{Volume}
use Rattle.bd_base.specs.Pieces.{Piece}
use Rattle.bd_entry.specs.declared.entry.Entry.{Entry}
use Rattle.bd_entry.specs.Calls.{Place, at_of, entries_of, fd_of_call, is_ended_by, is_finished, piece_of_call, pieces_of_call}
use Rattle.bd_entry.specs.Effects.{effect_of}
use Rattle.bd_entry.specs.Laws.{IsHistory, IsNextOf}
use Rattle.bd_entry.specs.Rules.{place_in}
use Rattle.bd_entry.specs.RulesOfCalls.{IsNextCall}
use Rattle.bd_entry.specs.Store.{Store, attaches_by, start_store, work_of}
use Rattle.bd_entry.proofs.CallEntries.{attaches_by-can_attach, can_attach}
use Rattle.bd_entry.proofs.CallOrder.{is_finished-other, numbered, other_process, start_of}
use Rattle.bd_entry.proofs.Histories.{history_holds}
use Rattle.bd_entry.proofs.HistoryLaws.{history_leads, work_is_of_running_call}
use Rattle.bd_entry.proofs.RunningCalls.{still_next, work-ended, work-other}
use Rattle.bd_turns.specs.Sound.{AreInTurn}
use Rattle.bd_turns.specs.State.{State, progress_of, running}
use Rattle.bd_turns.proofs.RunningPlaces.{RunsAt, runs_at}

-- ---- the descriptor of a call with pieces

-- it rests on the call alone
pub fd_of_pieces : (call : Call) (number : ℕ) (piece : Piece) (first second : List Entry) → piece_of_call call number ≡ Some piece →
    fd_of_call call first ≡ fd_of_call call second
fd_of_pieces (Read fd off len) number piece first second is = refl
fd_of_pieces (Write fd off bytes) number piece first second is = refl
fd_of_pieces (RawRead address range) number piece first second is = refl
fd_of_pieces (RawWrite address lo bytes) number piece first second is = refl
fd_of_pieces call number piece first second is = absurd (none-some piece is)

-- it attaches no right
pub pieces_cannot_attach : (call : Call) (number : ℕ) (piece : Piece) → piece_of_call call number ≡ Some piece → can_attach call ≡ false
pieces_cannot_attach (Read fd off len) number piece is = refl
pieces_cannot_attach (Write fd off bytes) number piece is = refl
pieces_cannot_attach (RawRead address range) number piece is = refl
pieces_cannot_attach (RawWrite address lo bytes) number piece is = refl
pieces_cannot_attach call number piece is = absurd (none-some piece is)

-- a call with a piece has some
pub has_pieces : (call : Call) (number : ℕ) (piece : Piece) → piece_of_call call number ≡ Some piece → 0 < length (pieces_of_call call)
has_pieces call number piece is =
    let within : number < length (pieces_of_call call) = slice_get_within (pieces_of_call call) number piece is in omega arith

-- ---- the entries that a store keeps of a process

-- they are those of its next call, if there are any
abbrev HasNext : Script → List Entry → Store → Type 0
HasNext script before s = (process : ℕ) → work_of s process ≢ [] → (number : ℕ) × IsNextCall script before (numbered process number)

-- the next call of another process stays so
next_stays : (script : Script) (before : List Entry) (e : Entry) (at : At) → at.process ≢ (at_of e).process →
    IsNextCall script before at → IsNextCall script (before ++ e ∷ []) at
next_stays script before e at differ was =
    record {
      in_script = was.in_script;
      unfinished = is_finished-other script before e at (other_process (at_of e) at differ) ∙ was.unfinished;
      earlier = λ call lt.
          is_finished-other script before e (numbered at.process call) (other_process (at_of e) (numbered at.process call) differ) ∙ was.earlier call lt;
    }

none_at_start : (script : Script) (v : Volume) (process : ℕ) → work_of (start_store v script) process ≡ []
none_at_start script v process = by script.processes process
  where
    by : (processes : List Process) (process : ℕ) → let none : Process → List Entry = λ p. [] in slice_index_or (map none processes) process [] ≡ []
    by [] process = refl
    by (p ∷ processes) zero = refl
    by (p ∷ processes) (suc process) = by processes process

has_next : (v : Volume) (script : Script) (journal : List Entry) (s : Store) → IsHistory v script journal s → HasNext script journal s
has_next v script journal s history =
    history_holds v script (HasNext script) (λ process some. absurd (some (none_at_start script v process))) push journal s history
  where
    push : (before : List Entry) (s : Store) (call : Call) (e : Entry) → IsNextOf v script before s call e → HasNext script before s →
        HasNext script (before ++ e ∷ []) (effect_of s (place_in s call (at_of e)) e)
    push before s call e next had process some = elim (cases_eq process (at_of e).process) [
      | inl same ↦
          elim (cases_Bool (is_ended_by call (work_of s (at_of e).process ++ e ∷ []))) [
            | inl ended ↦
                absurd (some (ap (work_of (effect_of s (place_in s call (at_of e)) e)) same ∙ work-ended s call e ended))
            | inr goes_on ↦ (
              (at_of e).call,
              subst (λ (n : ℕ). IsNextCall script (before ++ e ∷ []) (numbered n (at_of e).call)) (sym same)
                  (still_next v script before s call e next goes_on),
            )
          ]
      | inr differ ↦
          let was = had process (λ none. some (work-other s call e process differ ∙ none)) in
          (was.0, next_stays script before e (numbered process was.0) differ was.1)
    ]

-- of a running call with pieces the store keeps no attach
pub pieces_attach_nothing : (v : Volume) (m : State) (p : Place) (number fd : ℕ) (piece : Piece) → IsHistory v m.script m.journal m.store →
    AreInTurn m → running m p.at.process ≡ Some p → piece_of_call p.call number ≡ Some piece →
    list_any (attaches_by fd) (work_of m.store p.at.process) ≡ false
pieces_attach_nothing v m p number fd piece history in_turn running_is is =
    by (work_of m.store p.at.process) refl
  where
    place : RunsAt m p.at.process p
    place = runs_at m p.at.process p running_is

    own : list_any (attaches_by fd) (entries_of p.at m.journal) ≡ false
    own =
        false_from_ne_true (list_any (attaches_by fd) (entries_of p.at m.journal))
        (λ some.
        both_ways (can_attach p.call) (pieces_cannot_attach p.call number piece is)
        (attaches_by-can_attach (start_of p.call p.at) (entries_of p.at m.journal) fd
        ((history_leads v m.script m.journal m.store history).ordered.of_call p.at p.call place.called) some))

    of_next : (n : ℕ) → IsNextCall m.script m.journal (numbered p.at.process n) → work_of m.store p.at.process ≢ [] →
        entries_of (numbered p.at.process n) m.journal ≡ entries_of p.at m.journal
    of_next n next some =
        let work : work_of m.store p.at.process ≡ entries_of (numbered p.at.process n) m.journal =
        work_is_of_running_call v m.script m.journal m.store (numbered p.at.process n) history next in
        let ended = (progress_of m p.at.process).ended in
        ⊎_elim
        (λ same.
        ap (λ (k : ℕ). entries_of (numbered p.at.process k) m.journal) same ∙ ap (λ (a : At). entries_of a m.journal) (sym place.at_is))
        (⊎_elim
        (λ earlier.
        absurd (both_ways (is_finished m.script m.journal (numbered p.at.process n)) next.unfinished (in_turn.finished p.at.process n earlier)))
        (λ later. absurd (some (work ∙ in_turn.later p.at.process n later))))
        (cases_order n ended)

    by : (work : List Entry) → work_of m.store p.at.process ≡ work → list_any (attaches_by fd) (work_of m.store p.at.process) ≡ false
    by [] none = ap (list_any (attaches_by fd)) none
    by (e ∷ rest) there =
        let some : work_of m.store p.at.process ≢ [] = λ none. let no_work : e ∷ rest ≡ [] = sym there ∙ none in cc in
        let next = has_next v m.script m.journal m.store history p.at.process some in
        ap (list_any (attaches_by fd))
        (work_is_of_running_call v m.script m.journal m.store (numbered p.at.process next.0) history next.1 ∙ of_next next.0 next.1 some)
        ∙ own
