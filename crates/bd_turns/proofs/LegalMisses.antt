-- What a device engine notes of a walk that missed is legal.
use Rattle.std.proofs.Common.{◌≡◌, ℕ, ◌<◌, Bool, true, false, length, Option, Some, refl, sym, ap, subst, arith}
use Rattle.std.specs.Option.{option_and_then}
use Rattle.std.proofs.lemmas.Bool.{false≢true}
use Rattle.std.proofs.lemmas.Option.{none-some, same_Some}
use Rattle.bd_base.specs.declared.journal.Found.{Found}
use Rattle.bd_base.specs.declared.script.Call.{Call}
use Rattle.bd_base.specs.declared.script.Call.TheVariants.{Read, Write, RawRead, RawWrite}
use Rattle.bd_base.specs.declared.volume.Volume.{Volume}
use Rattle.bd_entry.specs.declared.entry.Entry.{Entry}
use Rattle.bd_entry.specs.declared.entry.Entry.TheVariants as entries
use Rattle.bd_entry.specs.Calls.{Place, fd_of, is_made_by, is_raw, named_fd, pieces_of_call}
use Rattle.bd_entry.specs.NextEntries.{IsLegalAt}
use Rattle.bd_entry.specs.Promises.{is_access_or_miss}
use Rattle.bd_entry.specs.Refusals.{descriptor_of}
use Rattle.bd_entry.specs.Rules.{EntryRule, FitsStore, IsOpen, NotRefused, Rights, RightWay}
use Rattle.bd_entry.specs.RulesOfRights.{HasRights, NamedIsOpen, RawOrNot, ThePiece, WentDirect}
use Rattle.bd_entry.specs.Store.{Descriptor, Store, descriptor_at}
use Rattle.bd_entry.proofs.NextActs.{is_there}
use Rattle.bd_tables.specs.declared.request.Request.{Request}
use Rattle.bd_tables.specs.declared.state.Walk.{Walk}
use Rattle.bd_tables.specs.declared.state.Walk.TheVariants as walks
use Rattle.bd_tables.specs.State.{found_of, walk_at}
use Rattle.bd_turns.proofs.CommandsInHand.{GoesDirectBy, IsUntold, untold_in_hand}
use Rattle.bd_turns.proofs.FoundElements.{slice_get-there}
use Rattle.bd_turns.proofs.RunningPlaces.{legal_is_added}
use Rattle.bd_turns.proofs.StepEntries.{IsMiss}
use Rattle.bd_turns.specs.Added.{IsAdded}
use Rattle.bd_turns.specs.Reached.{IsReached}
use Rattle.bd_turns.specs.State.{InHand, Missing, State, running}

-- ---- what all entries of pieces keep

-- one of two holds, whichever a call has to keep
pub raw_or_not : (raw : Bool) (One Other : Type 0) → (raw ≡ true → One) → (raw ≡ false → Other) → RawOrNot raw One Other
raw_or_not true One Other one other = one refl
raw_or_not false One Other one other = other refl

-- entries of pieces are made by calls that have pieces
pub makes_access : (call : Call) (number : ℕ) → number < length (pieces_of_call call) → (entry : Entry) →
    is_access_or_miss entry ≡ true → is_made_by call entry ≡ true
makes_access (Read fd off len) number within (entries.Access at piece by file index block range wrote way bytes) is = refl
makes_access (Read fd off len) number within (entries.Missed at piece found) is = refl
makes_access (Write fd off written) number within (entries.Access at piece by file index block range wrote way bytes) is = refl
makes_access (Write fd off written) number within (entries.Missed at piece found) is = refl
makes_access (RawRead address r) number within (entries.Access at piece by file index block range wrote way bytes) is = refl
makes_access (RawRead address r) number within (entries.Missed at piece found) is = refl
makes_access (RawWrite address lo written) number within (entries.Access at piece by file index block range wrote way bytes) is = refl
makes_access (RawWrite address lo written) number within (entries.Missed at piece found) is = refl
makes_access (Read fd off len) number within entry is = absurd (false≢true is)
makes_access (Write fd off written) number within entry is = absurd (false≢true is)
makes_access (RawRead address r) number within entry is = absurd (false≢true is)
makes_access (RawWrite address lo written) number within entry is = absurd (false≢true is)
makes_access call number within entry is = absurd (omega (within, arith))

-- the descriptor that a call names is open where a piece goes direct by it
named_open : (s : Store) (p : Place) (number : ℕ) → number < length (pieces_of_call p.call) →
    (is_raw p.call ≡ false → GoesDirectBy s p number) → NamedIsOpen s p.at.process (named_fd p.call)
named_open s p number within goes = by p.call refl within goes
  where
    by : (call : Call) → p.call ≡ call → number < length (pieces_of_call call) → (is_raw call ≡ false → GoesDirectBy s p number) →
        NamedIsOpen s p.at.process (named_fd call)
    by (Read fd off len) is within goes =
        let direct = goes refl in
        is_there (descriptor_at s p.at.process fd) direct.d
        (subst (λ (c : Call). option_and_then (descriptor_at s p.at.process) (fd_of (record p { call = c })) ≡ Some direct.d) is direct.of)
    by (Write fd off bytes) is within goes =
        let direct = goes refl in
        is_there (descriptor_at s p.at.process fd) direct.d
        (subst (λ (c : Call). option_and_then (descriptor_at s p.at.process) (fd_of (record p { call = c })) ≡ Some direct.d) is direct.of)
    by (RawRead address range) is within goes = tt
    by (RawWrite address lo bytes) is within goes = tt
    by call is within goes = absurd (omega (within, arith))

-- ---- misses

went_direct : (s : Store) (p : Place) (number : ℕ) → GoesDirectBy s p number → ThePiece p number (WentDirect (descriptor_of s p))
went_direct s p number direct =
    (direct.piece, direct.piece_is, subst (λ (slot : Option Descriptor). WentDirect slot direct.piece) (sym direct.of) direct.direct)

miss-keeps : (m : State) (p : Place) (number : ℕ) (found : Found) → IsUntold m p number →
    HasRights m.store p (entries.Missed p.at number found) → (rule : EntryRule) → FitsStore m.store p (entries.Missed p.at number found) rule
miss-keeps m p number found untold may RightWay =
    raw_or_not (is_raw p.call) (Unit {0}) (ThePiece p number (WentDirect (descriptor_of m.store p))) (λ raw. tt)
    (λ raw. went_direct m.store p number (untold.goes raw))
miss-keeps m p number found untold may IsOpen = named_open m.store p number untold.within untold.goes
miss-keeps m p number found untold may Rights = may
miss-keeps m p number found untold may NotRefused = λ none. untold.allowed
miss-keeps m p number found untold may rule = tt

-- a walk that found this was refused
refused_walk : (walk : Walk) (found : Found) → found_of walk ≡ Some found →
    (request : Request) × (walk ≡ walks.Refused request found)
refused_walk walks.Idle found is = absurd (none-some found is)
refused_walk (walks.Entered request) found is = absurd (none-some found is)
refused_walk (walks.Translated request completion) found is = absurd (none-some found is)
refused_walk (walks.Refused request other) found is = (request, ap (walks.Refused request) (same_Some other found is))

pub misses_add_legally : (v : Volume) (m : State) (p : Place) (e : Entry) → IsReached v m → running m p.at.process ≡ Some p →
    IsMiss m p e → IsAdded v m p e
misses_add_legally v m p e reached is miss =
    let number : ℕ = miss.number in
    let hand : InHand = record { piece = number; phase = Missing } in
    let untold = untold_in_hand v m p hand reached is miss.in_hand refl in
    let walk = refused_walk (walk_at m.tables.walks p.at.process) miss.found miss.told in
    let may = reached.sound.tables_are.notable p hand walk.0 miss.found is miss.in_hand refl walk.1 in
    let legal : IsLegalAt m.store p (entries.Missed p.at number miss.found) =
    record {
      of_place = refl;
      of_call = record {
        kind = makes_access p.call number untold.within (entries.Missed p.at number miss.found) refl;
        fields = slice_get-there (pieces_of_call p.call) number untold.within;
      };
      once = (untold.unanswered, untold.unmissed);
      keeps = miss-keeps m p number miss.found untold may;
    } in
    legal_is_added v m p e reached is untold.unfinished (subst (IsLegalAt m.store p) miss.entry legal)
