-- What the kernel side sees of the tables, and the effect of its calls on that.
use Rattle.std.specs.Prelude.{◌≡◌, ℕ, ◌%◌, ◌≤◌, Bool, true, Option, None, Some, IfSome, List}
use Rattle.std.specs.FinMap as fin
use Rattle.bd_base.specs.declared.key.Cell.{Cell}
use Rattle.bd_base.specs.declared.key.Key.{Key}
use Rattle.bd_base.specs.declared.limits.TheConstants.{BLOCK_SIZE, FRAGMENTS, PART_BLOCKS}
use Rattle.bd_base.specs.Keys.{Pair}
use Rattle.bd_file_table.specs.Fragments.{Book, Cells, Fragment, IsLowestUnused, cell_at, padded, with_cell}
use Rattle.bd_tables.specs.declared.request.Completion.{Completion}
use Rattle.bd_tables.specs.declared.request.Request.{Request}
use Rattle.bd_tables.specs.declared.state.Right.{Right}
use Rattle.bd_tables.specs.declared.state.RightState.{RightState}
use Rattle.bd_tables.specs.declared.state.RightState.TheVariants.{On, Cleared, Drained}
use Rattle.bd_tables.specs.declared.state.Walk.{Walk}
use Rattle.bd_tables.specs.declared.state.Walk.TheVariants.{Idle, Entered, Refused, Translated}
use Rattle.bd_tables.specs.Effects.{after_detach, all_swept, attach_right, change, sweep_right, with_limit, with_state}
use Rattle.bd_tables.specs.State.{Rights, block_pair, pair_for, pair_under}

-- how many processes the tables are for, the rights of the attached keys, and each pair in use with its fragment
pub record KernelState : Type 0 where
  pub processes : ℕ
  pub rights : Rights
  pub book : Book

-- ---- conditions

-- a right that is in the state that P asks for is attached
abbrev pub IsAttachedIn : (RightState → Type 0) → Option Right → Type 0
IsAttachedIn P None = ⊥
IsAttachedIn P (Some right) = P right.state

abbrev pub IsOn : RightState → Type 0
IsOn state = state ≡ On

abbrev pub IsCleared : RightState → Type 0
IsCleared On = ⊥
IsCleared Cleared = Unit {0}
IsCleared (Drained swept) = Unit {0}

abbrev pub IsDrained : RightState → Type 0
IsDrained On = ⊥
IsDrained Cleared = ⊥
IsDrained (Drained swept) = Unit {0}

abbrev pub IsSweptWhole : RightState → Type 0
IsSweptWhole state = state ≡ Drained all_swept

-- the key is attached, in a state that P asks for
abbrev pub KeyIs : (RightState → Type 0) → KernelState → Key → Type 0
KeyIs P kernel key = IsAttachedIn P (fin.get kernel.rights key)

-- at least a byte of the block is within reach, and no more than it has
abbrev pub IsLimit : ℕ → Type 0
IsLimit limit = (1 ≤ limit) × (limit ≤ BLOCK_SIZE)

abbrev pub HasLimit : Cell → Type 0
HasLimit cell = IsLimit cell.limit

-- where the pair is in the book, these are its cells there
abbrev pub AgreesWith : Book → Pair → List Cell → Type 0
AgreesWith book pair cells = IfSome (fin.get book pair) (λ fragment. fragment.cells ≡ padded cells)

-- where the part of the block is in use, its entry is empty
abbrev pub IsEmptyEntry : Book → ℕ → ℕ → Type 0
IsEmptyEntry book file index =
    IfSome (fin.get book (block_pair file index)) (λ fragment. cell_at fragment.cells (index % PART_BLOCKS) ≡ None)

-- the entry is filled, and reaches no further than the limit
abbrev pub ReachesUpTo : ℕ → Option Cell → Type 0
ReachesUpTo limit None = ⊥
ReachesUpTo limit (Some cell) = cell.limit ≤ limit

-- where the part of the block is in use, its entry is filled and reaches no further than the limit
abbrev pub IsEntryUpTo : Book → ℕ → ℕ → ℕ → Type 0
IsEntryUpTo book file index limit =
    IfSome (fin.get book (block_pair file index))
    (λ fragment. ReachesUpTo limit (cell_at fragment.cells (index % PART_BLOCKS)))

-- no fragment is left for the pair
pub record IsFullFor (book : Book) (pair : Pair) : Type 0 where
  pub not_in_use : fin.get book pair ≡ None
  pub all_in_use : fin.len book ≡ FRAGMENTS

-- ---- effects

-- the pair got the lowest fragment that was not in use, with these cells
pub record Builds (old : Book) (pair : Pair) (cells : List Cell) (new : Book) : Type 0 where
  pub number : ℕ
  pub lowest : IsLowestUnused old number
  pub built : new ≡ fin.insert old pair (record { number = number; cells = padded cells })

-- the pair shares the fragment that it has, or gets one
pub record SharesOrBuilds (old : Book) (pair : Pair) (cells : List Cell) (new : Book) : Type 0 where
  pub shares : (fragment : Fragment) → fin.get old pair ≡ Some fragment → new ≡ old
  pub builds : fin.get old pair ≡ None → Builds old pair cells new

-- the key is On, and all that is not about it stays
pub record Attaches (old : KernelState) (key : Key) (file : ℕ) (write : Bool) (cells : List Cell)
    (new : KernelState) : Type 0 where
  pub processes : new.processes ≡ old.processes
  pub rights : new.rights ≡ attach_right old.rights key file write
  pub book : SharesOrBuilds old.book (pair_for file key) cells new.book

-- the key is in that state
abbrev pub key_in_state : KernelState → Key → RightState → KernelState
key_in_state kernel key state = record kernel { rights = with_state kernel.rights key state }

-- one line more of the key was swept
abbrev pub line_swept : KernelState → ℕ → Key → KernelState
line_swept kernel c key = record kernel { rights = sweep_right kernel.rights c key }

-- the key is not attached; the fragment of its part is dropped exactly where no other key uses it
abbrev pub key_detached : KernelState → Key → KernelState
key_detached kernel key =
    let rights : Rights = fin.remove kernel.rights key in
    record kernel { rights = rights; book = after_detach rights key (fin.get kernel.rights key) kernel.book }

-- the fragment with its cells changed
abbrev pub with_cells : (Cells → Cells) → Fragment → Fragment
with_cells f fragment = record fragment { cells = f fragment.cells }

-- the entry of the block is filled, where its part is in use
abbrev pub entry_filled : KernelState → ℕ → ℕ → Cell → KernelState
entry_filled kernel file index cell =
    record kernel {
      book = change kernel.book (block_pair file index)
          (with_cells (with_cell (index % PART_BLOCKS) cell));
    }

-- the entry of the block reaches to the limit, where its part is in use
abbrev pub entry_raised : KernelState → ℕ → ℕ → ℕ → KernelState
entry_raised kernel file index limit =
    record kernel {
      book = change kernel.book (block_pair file index)
          (with_cells (with_limit (index % PART_BLOCKS) limit));
    }

-- ---- what the kernel knows of a translation

-- it repeats a cell of the book: the same block, no further than the cell reaches, and as far as was asked
pub record Repeats (request : Request) (completion : Completion) (cell : Cell) : Type 0 where
  pub block : completion.block ≡ cell.block
  pub within : completion.limit ≤ cell.limit
  pub reaches : request.hi ≤ completion.limit

abbrev pub RepeatsEntry : Request → Completion → Option Cell → Type 0
RepeatsEntry request completion None = ⊥
RepeatsEntry request completion (Some cell) = Repeats request completion cell

abbrev pub RepeatsIn : Request → Completion → Option Fragment → Type 0
RepeatsIn request completion None = ⊥
RepeatsIn request completion (Some fragment) = RepeatsEntry request completion
    (cell_at fragment.cells (request.index % PART_BLOCKS))

-- the right allows what was granted, and the translation is that of its file's block
pub record ConfirmedUnder (book : Book) (request : Request) (completion : Completion) (right : Right) : Type 0 where
  pub writable : request.write ≡ true → right.write ≡ true
  pub current : RepeatsIn request completion (fin.get book (pair_under request.key right))

abbrev pub ConfirmedBy : Book → Request → Completion → Option Right → Type 0
ConfirmedBy book request completion None = ⊥
ConfirmedBy book request completion (Some right) = ConfirmedUnder book request completion right

-- the key of a translated walk is attached, and the translation is that of the book
abbrev pub IsConfirmed : KernelState → Walk → Type 0
IsConfirmed kernel Idle = ⊥
IsConfirmed kernel (Entered request) = ⊥
IsConfirmed kernel (Refused request found) = ⊥
IsConfirmed kernel (Translated request completion) = ConfirmedBy kernel.book request completion
    (fin.get kernel.rights request.key)
