-- The rules of an entry that look at the script and at the entries before it: 1 to 3. Each has a row for each kind of
-- entry; `Unit` says that the rule asks nothing of that kind.
use Rattle.std.specs.Prelude.{◌≡◌, ℕ, ◌<◌, Bool, true, false, List, length, None, Some, IsSome}
use Rattle.std.specs.List.{list_any}
use Rattle.bd_base.specs.declared.script.Call.{Call}
use Rattle.bd_base.specs.declared.script.Call.TheVariants.{Enter, Create, Close}
use Rattle.bd_base.specs.declared.script.How.{How}
use Rattle.bd_base.specs.declared.script.Mode.{Mode}
use Rattle.bd_base.specs.declared.script.Script.{Script}
use Rattle.bd_base.specs.declared.journal.At.{At}
use Rattle.bd_base.specs.Bounds.{Bounds}
use Rattle.bd_entry.specs.declared.entry.Entry.{Entry}
use Rattle.bd_entry.specs.declared.entry.Entry.TheVariants.{Access, Attached, Cleared, Closed, Created, Detached, Extended, Mapped, Missed, Opened, Refused, Released, SizeRead, Sized, Unlinked}
use Rattle.bd_entry.specs.Calls.{Place, calls_of, does_write, fd_of, has_missed, is_answered, is_finished, is_made_by, is_opened, piece_of_call}

-- ---- rule 1: the next call of its process

-- the call is the first unfinished one of its process
pub record IsNextCall (script : Script) (journal : List Entry) (at : At) : Type 0 where
  pub in_script : at.call < length (calls_of script at.process)
  pub unfinished : is_finished script journal at ≡ false
  pub earlier : (call : ℕ) → call < at.call →
      is_finished script journal (record { process = at.process; call = call }) ≡ true

-- ---- rule 2: the entry fits its call

-- the call is an open of this mode and in this way
abbrev pub OpensAs : Call → Mode → How → Type 0
OpensAs (Enter name mode how) entry_mode entry_how = (entry_mode ≡ mode) × (entry_how ≡ how)
OpensAs call entry_mode entry_how = ⊥

-- the call makes a file of this name and these perms
abbrev pub CreatesAs : Call → List ℕ → ℕ → Type 0
CreatesAs (Create name perms) entry_name entry_perms = (entry_name ≡ name) × (entry_perms ≡ perms)
CreatesAs call entry_name entry_perms = ⊥

-- a close takes away the rights of its own descriptor; another call those of any
abbrev pub MayClear : Call → ℕ → ℕ → ℕ → Type 0
MayClear (Close named) process owner fd = (owner ≡ process) × (fd ≡ named)
MayClear call process owner fd = Unit {0}

-- what the entry tells of its piece is what the piece is
pub record IsPieceOf (p : Place) (number index : ℕ) (range : Bounds) (wrote : Bool) : Type 0 where
  pub piece : piece_of_call p.call number ≡ Some (record { index = index; range = range })
  pub direction : wrote ≡ does_write p.call

-- the fields of the entry are those of its call
abbrev pub HasFieldsOf : Place → Entry → Type 0
HasFieldsOf p (Opened at file fd mode how) = OpensAs p.call mode how
HasFieldsOf p (Created at file name perms) = CreatesAs p.call name perms
HasFieldsOf p (Attached at fd part) = fd_of p ≡ Some fd
HasFieldsOf p (Mapped at fd count) = fd_of p ≡ Some fd
HasFieldsOf p (Cleared at owner fd part) = MayClear p.call p.at.process owner fd
HasFieldsOf p (Detached at owner fd part) = MayClear p.call p.at.process owner fd
HasFieldsOf p (Access at piece fd file index block range wrote way bytes) =
    (fd_of p ≡ Some fd) × IsPieceOf p piece index range wrote
HasFieldsOf p (Missed at piece found) = IsSome (piece_of_call p.call piece)
HasFieldsOf p (Extended at file to block) = Unit {0}
HasFieldsOf p (Released at file index block) = Unit {0}
HasFieldsOf p (Sized at fd size) = fd_of p ≡ Some fd
HasFieldsOf p (SizeRead at fd size) = fd_of p ≡ Some fd
HasFieldsOf p (Closed at fd) = fd_of p ≡ Some fd
HasFieldsOf p (Unlinked at file) = Unit {0}
HasFieldsOf p (Refused at None reason) = Unit {0}
HasFieldsOf p (Refused at (Some piece) reason) = IsSome (piece_of_call p.call piece)

-- the entry is one that this call makes, after these entries of it
pub record IsOfCall (p : Place) (e : Entry) : Type 0 where
  pub kind : is_made_by p.call e ≡ true
  pub fields : HasFieldsOf p e

-- ---- rule 3: nothing is done twice

-- a call opens once, and each piece is answered once, and missed once before that
abbrev pub IsFirstOfKind : List Entry → Entry → Type 0
IsFirstOfKind before (Opened at file fd mode how) = list_any is_opened before ≡ false
IsFirstOfKind before (Created at file name perms) = Unit {0}
IsFirstOfKind before (Attached at fd part) = Unit {0}
IsFirstOfKind before (Mapped at fd count) = Unit {0}
IsFirstOfKind before (Cleared at owner fd part) = Unit {0}
IsFirstOfKind before (Detached at owner fd part) = Unit {0}
IsFirstOfKind before (Access at piece fd file index block range wrote way bytes) = is_answered piece before ≡ false
IsFirstOfKind before (Missed at piece found) =
    (is_answered piece before ≡ false) × (has_missed piece before ≡ false)
IsFirstOfKind before (Extended at file to block) = Unit {0}
IsFirstOfKind before (Released at file index block) = Unit {0}
IsFirstOfKind before (Sized at fd size) = Unit {0}
IsFirstOfKind before (SizeRead at fd size) = Unit {0}
IsFirstOfKind before (Closed at fd) = Unit {0}
IsFirstOfKind before (Unlinked at file) = Unit {0}
IsFirstOfKind before (Refused at None reason) = Unit {0}
IsFirstOfKind before (Refused at (Some piece) reason) = is_answered piece before ≡ false
