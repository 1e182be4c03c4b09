-- What is known of the command in the hand of an engine that has not said what became of it.
use Rattle.std.proofs.Common.{◌≡◌, ℕ, ◌<◌, Bool, true, false, not, ◌&&◌, ◌||◌, List, [], ◌∷◌, ◌++◌, map, length, Option, None, Some, refl, sym, ap, ◌∙◌, subst, arith}
use Rattle.std.specs.Prelude.{nat_eq}
use Rattle.std.specs.Option.{option_map_or}
use Rattle.std.specs.List.{list_any}
use Rattle.std.proofs.lemmas.Bool.{eq-eqb, false≢true, or_left, or_parts, or_right}
use Rattle.std.proofs.lemmas.List.Folds.{list_any-append}
use Rattle.bd_base.specs.declared.script.Call.{Call}
use Rattle.bd_base.specs.declared.script.Call.TheVariants.{Read, Write, RawRead, RawWrite}
use Rattle.bd_base.specs.declared.volume.Volume.{Volume}
use Rattle.bd_base.specs.Pieces.{Piece}
use Rattle.bd_entry.specs.Actions.{has_begun, is_for_device, is_none_of}
use Rattle.bd_entry.specs.Calls.{Place, has_missed, is_answered, is_ended_by, is_raw, piece_of_call, pieces_of_call}
use Rattle.bd_entry.specs.Laws.{AreOfCall}
use Rattle.bd_entry.specs.Refusals.{descriptor_of, first_refusal, goes_direct}
use Rattle.bd_entry.specs.Store.{Descriptor, Store}
use Rattle.bd_entry.proofs.CallOrder.{start_of}
use Rattle.bd_entry.proofs.HistoryLaws.{history_leads}
use Rattle.bd_turns.proofs.FoundElements.{All-found}
use Rattle.bd_turns.proofs.RunningPlaces.{runs_at}
use Rattle.bd_turns.proofs.UnfinishedCalls.{untold_unfinished}
use Rattle.bd_turns.specs.Processors.{running_of}
use Rattle.bd_turns.specs.Reached.{IsReached}
use Rattle.bd_turns.specs.Sound.{has_told, keeps_allowed}
use Rattle.bd_turns.specs.State.{Completed, InHand, Progress, State, outstanding, pieces_in_hand, progress_of, running}

-- the command in the hand is outstanding
pub in_hand-outstanding : (progress : Progress) (hand : InHand) → progress.hand ≡ Some hand →
    list_any (nat_eq hand.piece) (outstanding progress) ≡ true
in_hand-outstanding progress hand is =
    let done = map (λ (done : Completed). done.piece) progress.completed in
    ap (λ (o : Option InHand). list_any (nat_eq hand.piece) (done ++ pieces_in_hand o ++ progress.submitted)) is
    ∙ list_any-append (nat_eq hand.piece) (done ++ hand.piece ∷ []) progress.submitted
    ∙ or_left (list_any (nat_eq hand.piece) (done ++ hand.piece ∷ [])) (list_any (nat_eq hand.piece) progress.submitted)
    (list_any-append (nat_eq hand.piece) done (hand.piece ∷ [])
    ∙ or_right (list_any (nat_eq hand.piece) done) (list_any (nat_eq hand.piece) (hand.piece ∷ []))
    (or_left (nat_eq hand.piece hand.piece) false (eq-eqb hand.piece hand.piece refl)))

-- a call with a command outstanding has begun
begun_by_command : (m : State) (p : Place) (number : ℕ) →
    list_any (nat_eq number) (outstanding (progress_of m p.at.process)) ≡ true → has_begun (running_of m p) ≡ true
begun_by_command m p number some = by (is_none_of p.before) (outstanding (progress_of m p.at.process)) some
  where
    by : (b : Bool) (pieces : List ℕ) → list_any (nat_eq number) pieces ≡ true → not (b && is_none_of pieces) ≡ true
    by b [] some = absurd (false≢true some)
    by true (piece ∷ pieces) some = refl
    by false (piece ∷ pieces) some = refl

-- a call with pieces is allowed where that is kept of it: a raw command is not refused
pieces_allowed : (s : Store) (process : ℕ) (call : Call) (number : ℕ) → number < length (pieces_of_call call) →
    (keeps_allowed call ≡ true → first_refusal s process call ≡ None) → first_refusal s process call ≡ None
pieces_allowed s process (Read fd off len) number within keeps = keeps refl
pieces_allowed s process (Write fd off bytes) number within keeps = keeps refl
pieces_allowed s process (RawRead address range) number within keeps = refl
pieces_allowed s process (RawWrite address lo bytes) number within keeps = refl
pieces_allowed s process call number within keeps = absurd (omega (within, arith))

-- the piece of a call with an open descriptor goes direct
pub record GoesDirectBy (s : Store) (p : Place) (number : ℕ) : Type 0 where
  pub d : Descriptor
  pub piece : Piece
  pub of : descriptor_of s p ≡ Some d
  pub piece_is : piece_of_call p.call number ≡ Some piece
  pub direct : goes_direct d piece ≡ true

-- a piece for the device is that of a raw command, or goes direct
pub goes_there : (s : Store) (p : Place) (number : ℕ) → is_for_device s p number ≡ true → is_raw p.call ≡ false → GoesDirectBy s p number
goes_there s p number for_device raw =
    by (descriptor_of s p) refl
    (sym (ap (λ (b : Bool). b || option_map_or (λ d. option_map_or (goes_direct d) (piece_of_call p.call number) false) (descriptor_of s p) false) raw)
    ∙ for_device)
  where
    of_piece : (d : Descriptor) → descriptor_of s p ≡ Some d → (o : Option Piece) → piece_of_call p.call number ≡ o →
        option_map_or (goes_direct d) o false ≡ true → GoesDirectBy s p number
    of_piece d of None is goes = absurd (false≢true goes)
    of_piece d of (Some piece) is goes = record { d = d; piece = piece; of = of; piece_is = is; direct = goes }

    by : (o : Option Descriptor) → descriptor_of s p ≡ o →
        option_map_or (λ d. option_map_or (goes_direct d) (piece_of_call p.call number) false) o false ≡ true →
        GoesDirectBy s p number
    by None of goes = absurd (false≢true goes)
    by (Some d) of goes = of_piece d of (piece_of_call p.call number) refl goes

-- what is known of a command of which the journal tells nothing yet
pub record IsUntold (m : State) (p : Place) (number : ℕ) : Type 0 where
  pub within : number < length (pieces_of_call p.call)
  pub unanswered : is_answered number p.before ≡ false
  pub unmissed : has_missed number p.before ≡ false
  pub unfinished : is_ended_by p.call p.before ≡ false
  pub allowed : first_refusal m.store p.at.process p.call ≡ None
  pub goes : is_raw p.call ≡ false → GoesDirectBy m.store p number

pub untold_in_hand : (v : Volume) (m : State) (p : Place) (hand : InHand) → IsReached v m → running m p.at.process ≡ Some p →
    (progress_of m p.at.process).hand ≡ Some hand → has_told hand.phase ≡ false → IsUntold m p hand.piece
untold_in_hand v m p hand reached is in_hand silent =
    let runs = runs_at m p.at.process p is in
    let calls = reached.sound.calls in
    let progress = progress_of m p.at.process in
    let commands = calls.commands.of_running p.at.process p is in
    let there = in_hand-outstanding progress hand in_hand in
    let within : hand.piece < length (pieces_of_call p.call) =
    All-found (λ piece. piece < length (pieces_of_call p.call)) (outstanding progress) hand.piece commands.pieces there in
    let untold = or_parts (is_answered hand.piece p.before) (has_missed hand.piece p.before) (commands.in_hand hand in_hand ∙ silent) in
    let of_call : AreOfCall (start_of p.call p.at) p.before =
    subst (AreOfCall (start_of p.call p.at)) (sym runs.before_is)
    ((history_leads v m.script m.journal m.store reached.history).ordered.of_call p.at p.call runs.called) in
    let unfinished : is_ended_by p.call p.before ≡ false =
    untold_unfinished p.call p.at p.before hand.piece of_call (calls.unrefused p.at.process p is) untold.0 untold.1 within in
    let for_device : is_for_device m.store p hand.piece ≡ true =
    All-found (λ piece. is_for_device m.store p piece ≡ true) (outstanding progress) hand.piece
    (calls.for_device p.at.process p is unfinished) there in
    record {
      within = within;
      unanswered = untold.0;
      unmissed = untold.1;
      unfinished = unfinished;
      allowed =
          pieces_allowed m.store p.at.process p.call hand.piece within
          (λ keeps. reached.sound.holds_are.allowed p.at.process p is keeps (begun_by_command m p hand.piece there));
      goes = goes_there m.store p hand.piece for_device;
    }
