-- What the steps of reading runs answer.
use Rattle.std.specs.Prelude.{◌≡◌, ◌≢◌, ◌⊎◌, ℕ, ◌+◌, ◌^◌, ◌<◌, List, ◌++◌, replicate, Option, None, Some, Result, IsErrOf}
use Rattle.bd_blocks.specs.declared.read.Progress.{Progress}
use Rattle.bd_blocks.specs.declared.read.Room.{Room}
use Rattle.bd_blocks.specs.declared.read.Room.TheVariants.{Left, Passed}
use Rattle.bd_blocks.specs.declared.read.RunsError.{RunsError}
use Rattle.bd_blocks.specs.declared.read.RunsError.TheVariants.{OutOfMemory}
use Rattle.bd_blocks.specs.declared.text.numbers.Number.{Number}
use Rattle.bd_blocks.specs.declared.text.numbers.Number.TheVariants.{Small, Large}
use Rattle.bd_blocks.specs.Runs.{Run, run_text}
use Rattle.bd_blocks.specs.Texts.{IsNumber}

-- this error came, or no memory was found
abbrev pub IsErrUnlessMemory : {A : Type 0} → Result A RunsError → RunsError → Type 0
IsErrUnlessMemory {A} result error = IsErrOf result error ⊎ IsErrOf result OutOfMemory

-- the text is that of a run, of this byte and this count
pub record IsRunText (text : List ℕ) (byte : ℕ) (count : Number) : Type 0 where
  pub number : ℕ
  pub positive : 0 < number
  pub is_count : IsNumber count number
  pub is_byte : byte < 256
  pub spelled : text ≡ run_text (record { byte = byte; count = number })

-- the text is that of no run
abbrev pub IsNoRun : List ℕ → Type 0
IsNoRun text = (r : Run) → r.byte < 256 → 0 < r.count → text ≢ run_text r

-- the byte of the run before, if there is one, is another
abbrev pub NotPrior : Option ℕ → ℕ → Type 0
NotPrior None b = Unit {0}
NotPrior (Some p) b = b ≢ p

-- this many bytes and the room that is left are a number of 64 bits
abbrev pub HasRoom : ℕ → Room → Type 0
HasRoom held (Left room) = held + room < 2 ^ 64
HasRoom held Passed = Unit {0}

-- a run was appended to old, where there was room for it
abbrev pub Fills : List ℕ → List ℕ → Room → ℕ → Number → Room → Type 0
Fills old new Passed byte count left = left ≡ Passed
Fills old new (Left room) byte Large left = left ≡ Passed
Fills old new (Left room) byte (Small n) Passed = room < n
Fills old new (Left room) byte (Small n) (Left left) = (left + n ≡ room) × (new ≡ old ++ replicate n byte)

-- the item is a run of another byte than the one before it, and was appended where there was room
pub record TakesItem (old new : List ℕ) (was : Progress) (item : List ℕ) (is : Progress) : Type 0 where
  pub byte : ℕ
  pub count : Number
  pub is_run : IsRunText item byte count
  pub other : NotPrior was.prior byte
  pub prior : is.prior ≡ Some byte
  pub fills : Fills old new was.room byte count is.room

-- the item is that of no run that may follow
abbrev pub IsNoNextRun : Option ℕ → List ℕ → Type 0
IsNoNextRun prior item = (r : Run) → r.byte < 256 → 0 < r.count → NotPrior prior r.byte → item ≢ run_text r
