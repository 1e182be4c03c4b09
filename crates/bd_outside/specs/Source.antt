-- What a read answers, and what it takes of the bytes that a source has left.
use Rattle.std.specs.Prelude.{ℕ, List, [], take}
use Rattle.bd_outside.specs.Faults.{one_more}
use Rattle.bd_outside.specs.declared.sources.Got.{Got}
use Rattle.bd_outside.specs.declared.sources.Got.TheVariants.{Bytes, End, Failed}

-- the bytes that a read gave: so many as it says, of the front of the buffer
abbrev pub bytes_got : Got → List ℕ → List ℕ
bytes_got (Bytes n) buffer = take n buffer
bytes_got got buffer = []

-- a fact about how many bytes a read gave
abbrev pub IfGot : Got → (ℕ → Type 0) → Type 0
IfGot (Bytes n) P = P n
IfGot got P = Unit {0}

-- a fact for a read that met the end
abbrev pub OnEnd : Got → Type 0 → Type 0
OnEnd End P = P
OnEnd got P = Unit {0}

-- a fact for a read that failed
abbrev pub OnFailedRead : Got → Type 0 → Type 0
OnFailedRead Failed P = P
OnFailedRead got P = Unit {0}

-- the count of faults after a read: one more where it failed, and else as it was
abbrev pub faults_after_read : Got → ℕ → ℕ
faults_after_read Failed count = one_more count
faults_after_read got count = count
