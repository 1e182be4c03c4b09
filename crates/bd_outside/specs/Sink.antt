-- What a write answers, and what it adds to the bytes that a sink holds.
use Rattle.std.specs.Prelude.{ℕ, List, [], take}
use Rattle.bd_outside.specs.Faults.{one_more}
use Rattle.bd_outside.specs.declared.sinks.Took.{Took}
use Rattle.bd_outside.specs.declared.sinks.Took.TheVariants.{Bytes, Failed}

-- the bytes that a write took: so many as it says, of the front of the piece
abbrev pub bytes_taken : Took → List ℕ → List ℕ
bytes_taken (Bytes n) piece = take n piece
bytes_taken took piece = []

-- a fact about how many bytes a write took
abbrev pub IfTook : Took → (ℕ → Type 0) → Type 0
IfTook (Bytes n) P = P n
IfTook took P = Unit {0}

-- a fact for a write that failed
abbrev pub OnFailedWrite : Took → Type 0 → Type 0
OnFailedWrite Failed P = P
OnFailedWrite took P = Unit {0}

-- the count of faults after a write: one more where it failed, and else as it was
abbrev pub faults_after_write : Took → ℕ → ℕ
faults_after_write Failed count = one_more count
faults_after_write took count = count
