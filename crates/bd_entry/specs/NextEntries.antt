-- That what a call does next is legal: each law is the contract of a function of src/next_laws.rt.
use Rattle.std.specs.Prelude.{◌≡◌, ◌≢◌, ℕ, nat_eq, Bool, true, false, List, [], None, Some, IsSome}
use Rattle.std.specs.List.{list_any}
use Rattle.bd_base.specs.declared.script.Call.{Call}
use Rattle.bd_base.specs.declared.script.Call.TheVariants.{Enter, Write, Truncate, Unlink, Close}
use Rattle.bd_base.specs.declared.script.How.TheVariants as hows
use Rattle.bd_base.specs.declared.script.Script.{Script}
use Rattle.bd_base.specs.declared.volume.Volume.{Volume}
use Rattle.bd_base.specs.declared.journal.At.{At}
use Rattle.bd_base.specs.Pieces.{Piece}
use Rattle.bd_base.specs.Scripts.{IsCall}
use Rattle.bd_entry.specs.declared.act.Act.{Act}
use Rattle.bd_entry.specs.declared.entry.Entry.{Entry}
use Rattle.bd_entry.specs.Actions.{Holders, Running, entry_of_act, next_act}
use Rattle.bd_entry.specs.Calls.{Place, at_of, call_at, has_missed, is_ended_by, piece_of_call}
use Rattle.bd_entry.specs.Effects.{effect_of}
use Rattle.bd_entry.specs.History.{Step}
use Rattle.bd_entry.specs.Laws.{AreOfCall, IsHistory, IsNextEntry}
use Rattle.bd_entry.specs.Refusals.{descriptor_of, first_refusal, goes_direct}
use Rattle.bd_entry.specs.Rules.{EntryRule, FitsStore}
use Rattle.bd_entry.specs.RulesOfCalls.{IsFirstOfKind, IsNextCall, IsOfCall}
use Rattle.bd_entry.specs.Store.{Descriptor, Store, Valid, work_of}

-- ---- a call that goes on

-- whether the refusals of the call stay away once it has begun; an open that has opened may have taken its process's
-- last descriptor
abbrev pub stays_allowed : Call → Bool
stays_allowed (Enter name mode hows.Plain) = true
stays_allowed (Truncate fd size) = true
stays_allowed (Unlink name) = true
stays_allowed (Write fd off bytes) = true
stays_allowed (Close fd) = true
stays_allowed call = false

-- a piece that missed goes to the device still, by the descriptor of its call
abbrev pub MissedGoDirect : Store → Place → Type 0
MissedGoDirect s p =
    (number : ℕ) (piece : Piece) (d : Descriptor) → has_missed number p.before ≡ true →
    piece_of_call p.call number ≡ Some piece → descriptor_of s p ≡ Some d → goes_direct d piece ≡ true

-- a call that goes on, as a machine keeps it: the store is valid and the call within the limits, its entries so far are
-- its own and have not ended it, commands are outstanding of its pieces alone, once it has begun no refusal holds of
-- it, and the pieces that missed go to the device still
pub record IsReadyPlace (s : Store) (r : Running) : Type 0 where
  pub valid : Valid s
  pub within : IsCall r.place.call
  pub of_call : AreOfCall (record { call = r.place.call; at = r.place.at; before = [] }) r.place.before
  pub unfinished : is_ended_by r.place.call r.place.before ≡ false
  pub outstanding : (number : ℕ) → list_any (nat_eq number) r.outstanding ≡ true →
      IsSome (piece_of_call r.place.call number)
  pub allowed : r.place.before ≢ [] → stays_allowed r.place.call ≡ true →
      first_refusal s r.place.at.process r.place.call ≡ None
  pub missed : MissedGoDirect s r.place

-- the entry is legal at its place: it is of that call, done once, and keeps each rule that looks at the store
pub record IsLegalAt (s : Store) (p : Place) (e : Entry) : Type 0 where
  pub of_place : at_of e ≡ p.at
  pub of_call : IsOfCall p e
  pub once : IsFirstOfKind p.before e
  pub keeps : (rule : EntryRule) → FitsStore s p e rule

-- ---- the next entry of each call

-- this call, which stands there with these entries and outstanding commands
abbrev pub running : Call → At → List Entry → List ℕ → Running
running call at before outstanding =
    record { place = record { call = call; at = at; before = before }; outstanding = outstanding }

-- whatever the call does next, the entry that it adds is legal
abbrev pub NextIsLegal : Call → Type 0
NextIsLegal call =
    (s : Store) (holders : Holders) (at : At) (before : List Entry) (outstanding : List ℕ) (act : Act) (e : Entry) →
    let r = running call at before outstanding in
    IsReadyPlace s r → next_act s holders r ≡ Some act → entry_of_act s r.place act ≡ Some e → IsLegalAt s r.place e

-- whatever any call does next, the entry that it adds is legal
abbrev pub NextEntriesAreLegal : Type 0
NextEntriesAreLegal = (call : Call) → NextIsLegal call

-- the entry is the next one of the call, and the step that it takes leads to a valid store
pub record LeadsOn (s : Store) (p : Place) (e : Entry) : Type 0 where
  pub next : IsNextEntry s p.call e
  pub step : Step s p e (effect_of s p e)
  pub valid : Valid (effect_of s p e)

-- so is that of the next action of a call whose entries so far the store keeps
abbrev pub NextEntriesLeadOn : Type 0
NextEntriesLeadOn =
    (s : Store) (holders : Holders) (call : Call) (at : At) (outstanding : List ℕ) (act : Act) (e : Entry) →
    let r = running call at (work_of s at.process) outstanding in
    IsReadyPlace s r → next_act s holders r ≡ Some act → entry_of_act s r.place act ≡ Some e → LeadsOn s r.place e

-- ---- the running calls of legal journals

-- whether the call finds its file by its name again as it goes on
abbrev pub goes_by_name : Call → Bool
goes_by_name (Enter name mode hows.Plain) = true
goes_by_name (Unlink name) = true
goes_by_name call = false

-- the running call of a process in a legal journal in order, with commands outstanding of its pieces alone; of one that
-- finds its file by its name no refusal holds once it has begun, as where no other process opens, makes or removes it
pub record IsRunning (v : Volume) (script : Script) (before : List Entry) (s : Store) (call : Call) (at : At)
    (outstanding : List ℕ) : Type 0 where
  pub history : IsHistory v script before s
  pub called : call_at script at ≡ Some call
  pub next : IsNextCall script before at
  pub of_pieces : (number : ℕ) → list_any (nat_eq number) outstanding ≡ true → IsSome (piece_of_call call number)
  pub file_stays : goes_by_name call ≡ true → work_of s at.process ≢ [] → first_refusal s at.process call ≡ None

-- such a call is ready for what it does next
abbrev pub RunningCallsAreReady : Type 0
RunningCallsAreReady =
    (v : Volume) (script : Script) (before : List Entry) (s : Store) (call : Call) (at : At) (outstanding : List ℕ) →
    IsRunning v script before s call at outstanding →
    IsReadyPlace s (running call at (work_of s at.process) outstanding)
