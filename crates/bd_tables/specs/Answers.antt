-- What the answers of an engine's calls say of its walk, on any tables.
use Rattle.std.specs.Prelude.{◌≡◌, ◌≢◌, ℕ, ◌<◌, ◌≤◌, true}
use Rattle.bd_base.specs.declared.journal.Found.{Found}
use Rattle.bd_base.specs.declared.journal.Found.TheVariants.{NoDirectory, NoRight, NoEntry, Beyond}
use Rattle.bd_tables.specs.declared.request.Completion.{Completion}
use Rattle.bd_tables.specs.declared.request.Looked.{Looked}
use Rattle.bd_tables.specs.declared.request.Looked.TheVariants.{Hit, Miss}
use Rattle.bd_tables.specs.declared.request.Request.{Request}
use Rattle.bd_tables.specs.declared.request.Walked.{Walked}
use Rattle.bd_tables.specs.declared.request.Walked.TheVariants.{Granted, Missed}
use Rattle.bd_tables.specs.declared.state.Walk.{Walk}
use Rattle.bd_tables.specs.declared.state.Walk.TheVariants.{Idle, Entered, Refused, Translated}

-- what an enter may find: no directory, or no right where a write was asked for
abbrev pub IsFoundEntering : Request → Found → Type 0
IsFoundEntering request NoDirectory = Unit {0}
IsFoundEntering request NoRight = request.write ≡ true
IsFoundEntering request NoEntry = ⊥
IsFoundEntering request (Beyond limit) = ⊥

-- what a read of an entry may find: no entry, or a limit below what was asked for
abbrev pub IsFoundReading : Request → Found → Type 0
IsFoundReading request NoDirectory = ⊥
IsFoundReading request NoRight = ⊥
IsFoundReading request NoEntry = Unit {0}
IsFoundReading request (Beyond limit) = limit < request.hi

-- the translation is one for the request
pub record Serves (request : Request) (completion : Completion) : Type 0 where
  pub read : completion.read ≡ true
  pub write : completion.write ≡ request.write
  pub reaches : request.hi ≤ completion.limit

-- the walk ended with a translation for the request
abbrev pub HoldsFor : Request → Walk → Type 0
HoldsFor request Idle = ⊥
HoldsFor request (Entered other) = ⊥
HoldsFor request (Refused other found) = ⊥
HoldsFor request (Translated other completion) = (other ≡ request) × Serves request completion

-- the walk after an enter with this answer
abbrev pub AfterEnter : Request → Walked → Walk → Type 0
AfterEnter request Granted walk = walk ≡ Entered request
AfterEnter request (Missed found) walk = (walk ≡ Refused request found) × IsFoundEntering request found

-- the walk after a look with this answer
abbrev pub AfterLook : Request → Looked → Walk → Type 0
AfterLook request Hit walk = HoldsFor request walk
AfterLook request Miss walk = walk ≡ Entered request

-- the walk after a read of an entry with this answer
abbrev pub AfterRead : Request → Walked → Walk → Type 0
AfterRead request Granted walk = HoldsFor request walk
AfterRead request (Missed found) walk = (walk ≡ Refused request found) × IsFoundReading request found

-- the engine is in its key, granted, and holds no translation
abbrev pub IsEntered : Walk → Type 0
IsEntered Idle = ⊥
IsEntered (Entered request) = Unit {0}
IsEntered (Refused request found) = ⊥
IsEntered (Translated request completion) = ⊥

-- the engine holds a translation
abbrev pub IsTranslated : Walk → Type 0
IsTranslated Idle = ⊥
IsTranslated (Entered request) = ⊥
IsTranslated (Refused request found) = ⊥
IsTranslated (Translated request completion) = Unit {0}

-- the walk has come to its end: it was refused, or holds a translation
abbrev pub IsAnswered : Walk → Type 0
IsAnswered Idle = ⊥
IsAnswered (Entered request) = ⊥
IsAnswered (Refused request found) = Unit {0}
IsAnswered (Translated request completion) = Unit {0}

-- each pass that was of the tables still is
abbrev pub AllStay : {S P : Type 0} → (S → P → Type 0) → S → S → Type 0
AllStay is_of old new = (pass : _) → is_of old pass → is_of new pass

-- a pass is given back: it is of the tables and of the same process, and the passes of other processes stay
pub record GivesBack {S P : Type 0} (is_of : S → P → Type 0) (process : P → ℕ) (old new : S)
    (given back : P) : Type 0 where
  pub ours : is_of new back
  pub same_process : process back ≡ process given
  pub others : (pass : P) → process pass ≢ process given → is_of old pass → is_of new pass
