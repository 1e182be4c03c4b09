-- What tables show of their state, and what the kernel's calls leave of that and of the passes.
use Rattle.std.specs.Prelude.{◌≡◌, ℕ, length}
use Rattle.bd_tables.specs.Answers.{AllStay}
use Rattle.bd_tables.specs.Kernel.{KernelState}
use Rattle.bd_tables.specs.Plain.{cells_of}
use Rattle.bd_tables.specs.State.{TableState}

-- whatever state they showed, they show it now with this change
abbrev pub ShowsAfter : {S : Type 0} → (S → TableState → Type 0) → S → S → (TableState → TableState) → Type 0
ShowsAfter shows old new change = (t : TableState) → shows old t → shows new (change t)

-- passes that lay in the tables lie there still, and engines that went their own way still do
pub record EnginesStay {S : Type 0} (lies : S → ℕ → Type 0) (apart : S → Type 0) (old new : S) : Type 0 where
  pub lying : AllStay lies old new
  pub going : apart old → apart new

-- the kernel's side sees the rights and the cells of this state, and for how many processes it is
pub record IsKernelOf (kernel : KernelState) (t : TableState) : Type 0 where
  pub processes : kernel.processes ≡ length t.walks
  pub rights : kernel.rights ≡ t.rights
  pub cells : cells_of kernel.book ≡ t.cells
