-- What a running call keeps of its entries and of its commands.
use Rattle.std.specs.Prelude.{◌≡◌, ◌↔◌, ℕ, ◌<◌, ◌≤◌, Bool, true, false, ◌&&◌, nat_eq, Option, None, Some, List, [], ◌∷◌, ◌++◌, length}
use Rattle.std.specs.List.{list_any}
use Rattle.bd_base.specs.declared.journal.Found.{Found}
use Rattle.bd_base.specs.declared.limits.TheConstants.{PIECES}
use Rattle.bd_base.specs.declared.script.Call.{Call}
use Rattle.bd_base.specs.Scripts.{IsCall}
use Rattle.bd_entry.specs.declared.act.Act.{Act}
use Rattle.bd_entry.specs.declared.entry.Entry.{Entry}
use Rattle.bd_entry.specs.Actions.{Running, is_for_device, is_untouched, next_act}
use Rattle.bd_entry.specs.Calls.{does_write, has_missed, is_answered, is_ended_by}
use Rattle.bd_entry.specs.Refusals.{descriptor_of, file_of}
use Rattle.bd_entry.specs.RulesOfRights.{MayMiss, ThePiece}
use Rattle.bd_entry.specs.Store.{Store, user_of}
use Rattle.bd_fs.specs.Files.{Files}
use Rattle.bd_kernel.specs.declared.blocker.Blocker.{Blocker}
use Rattle.bd_kernel.specs.Blockers.{blocker_in}
use Rattle.bd_kernel.specs.Changes.{Rows}
use Rattle.bd_kernel.specs.Holders.{Table, holder_in}
use Rattle.bd_kernel.specs.Marks.{AreMarksOf, Marks, is_marked}
use Rattle.bd_kernel.specs.Sights.{InStore, place_of}

-- whether the number is among these
abbrev pub is_among : ℕ → List ℕ → Bool
is_among number numbers = list_any (nat_eq number) numbers

-- the marks of pieces are those of these entries, but for the pieces whose commands are outstanding
pub record ArePieceMarksOf (m : Marks) (outstanding : List ℕ) (entries : List Entry) : Type 0 where
  pub answered :
      (piece : ℕ) → is_among piece outstanding ≡ false →
      is_marked m.answered piece ≡ is_answered piece entries
  pub missed :
      (piece : ℕ) → is_among piece outstanding ≡ false →
      is_marked m.missed piece ≡ has_missed piece entries

-- whether the piece of this number is to be submitted: it goes to the device, and is untouched
abbrev pub may_submit : Store → Running → ℕ → Bool
may_submit s r number = is_for_device s r.place number && is_untouched r number

-- a call of a process with this user, marks of its entries so far, the pieces whose commands are outstanding, the
-- oldest first, and whether its entries end it
pub record Progress : Type 0 where
  pub call : Call
  pub process : ℕ
  pub uid : ℕ
  pub marks : Marks
  pub outstanding : List ℕ
  pub finished : Bool

-- these may be the entries of the call so far: the marks are those of the entries, and they end the call exactly where
-- that is kept
pub record AreEntriesOf (c : Progress) (entries : List Entry) : Type 0 where
  pub marks : AreMarksOf c.marks entries
  pub finished : c.finished ≡ is_ended_by c.call entries

-- this holds of the next action of a call of a process, with these pieces outstanding, in each store of these files and
-- descriptors where the process has this user, whatever its entries so far may be of which the marks are
abbrev pub OfNextAct : Files → Table → Call → ℕ → ℕ → Marks → List ℕ → (Option Act → Type 0) → Type 0
OfNextAct fs table call process uid marks outstanding Holds =
    InStore fs table.rows
    (λ s. user_of s process ≡ uid → (number : ℕ) (before : List Entry) → AreMarksOf marks before →
    Holds (next_act s (holder_in table.held)
    (record { place = place_of call process number before; outstanding = outstanding })))

-- the answer is that action
abbrev pub IsNextActOf : Files → Table → Call → ℕ → ℕ → Marks → List ℕ → Option Act → Type 0
IsNextActOf fs table call process uid marks outstanding answer =
    OfNextAct fs table call process uid marks outstanding (λ act. answer ≡ act)

-- the answer is what it waits for
abbrev pub IsBlockerOf : Files → Table → Call → ℕ → ℕ → Marks → List ℕ → Option Blocker → Type 0
IsBlockerOf fs table call process uid marks outstanding answer =
    OfNextAct fs table call process uid marks outstanding (λ act. answer ≡ blocker_in act)

-- the answer is the next action of the call in each store of these files and descriptors where its process has its
-- user, whatever its entries so far may be
abbrev pub IsNextAct : Files → Table → Progress → Option Act → Type 0
IsNextAct fs table c answer = IsNextActOf fs table c.call c.process c.uid c.marks c.outstanding answer

-- the answer is what the call waits for there
abbrev pub IsBlocker : Files → Table → Progress → Option Blocker → Type 0
IsBlocker fs table c answer = IsBlockerOf fs table c.call c.process c.uid c.marks c.outstanding answer

-- the answer is what a call of a process, which has no entry and no command, waits for in each store of these files and
-- descriptors where the process has this user
abbrev pub IsFirstBlocker : Files → Table → Call → ℕ → ℕ → Option Blocker → Type 0
IsFirstBlocker fs table call process uid answer =
    InStore fs table.rows
    (λ s. user_of s process ≡ uid → (number : ℕ) →
    answer ≡ blocker_in (next_act s (holder_in table.held)
    (record { place = place_of call process number []; outstanding = [] })))

-- the answer is the file of the call in each store of these files and descriptors, whatever its entries so far may be
abbrev pub IsFileOf : Files → Table → Progress → Option ℕ → Type 0
IsFileOf fs table c answer =
    InStore fs table.rows
    (λ s. (number : ℕ) (before : List Entry) → AreEntriesOf c before →
    answer ≡ file_of s (place_of c.call c.process number before))

-- whether the walk of the piece may have found this, in each store of these files and descriptors, whatever the call's
-- entries so far may be
abbrev pub MayMissAt : Files → Table → Progress → ℕ → Found → Bool → Type 0
MayMissAt fs table c piece found answer =
    InStore fs table.rows
    (λ s. (number : ℕ) (before : List Entry) → AreEntriesOf c before →
    let p = place_of c.call c.process number before in
    (answer ≡ true) ↔ ThePiece p piece (MayMiss s (does_write c.call) (descriptor_of s p) found))

-- the call is within its limits, and its commands are of its pieces
pub record IsProgress (c : Progress) : Type 0 where
  pub call : IsCall c.call
  pub few : length c.outstanding ≤ PIECES

-- it is the same call of the same process with the same user
pub record IsSameCall (old new : Progress) : Type 0 where
  pub call : new.call ≡ old.call
  pub process : new.process ≡ old.process
  pub uid : new.uid ≡ old.uid

-- the entry joins those of the call, which had not ended it
abbrev pub Takes : Progress → Entry → Progress → Type 0
Takes old e new =
    (before : List Entry) → AreEntriesOf old before → is_ended_by old.call before ≡ false →
    AreEntriesOf new (before ++ e ∷ [])
