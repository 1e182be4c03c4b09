-- Sources and sinks around a call: what was there before it and after it, and whether a read or a write failed.
use Rattle.std.specs.Prelude.{◌≡◌, ◌⊎◌, ℕ, ◌+◌, ◌≤◌, List, [], length, take, Option, Some, Result, IsErrOf}
use Rattle.std.specs.Option.{ForSome}
use Rattle.std.specs.Io.KnownBytes.{Appends, Consumes}
use Rattle.bd_outside.specs.declared.sinks.Sink as sinks
use Rattle.bd_outside.specs.declared.sources.Source as sources
use Rattle.bd_outside.specs.declared.whole.ReadError.{ReadError}
use Rattle.bd_outside.specs.declared.whole.ReadError.TheVariants.{Fault, OutOfMemory}
use Rattle.bd_outside.specs.Faults.{Rose}

-- ---- sources

-- a source around a call: the bytes that it had left and has left now, where it tells them, and its count of faults
pub record Reading : Type 0 where
  pub left : Option (List ℕ)
  pub remains : Option (List ℕ)
  pub last_fault : Option ℕ
  pub before : ℕ
  pub after : ℕ

-- the call on a source that was old and is new
abbrev pub reading : {S : Type 0} → sources.Ghosts S → S → S → Reading
reading source old new =
    record {
      left = source.left old;
      remains = source.left new;
      last_fault = source.last_fault;
      before = source.faults old;
      after = source.faults new;
    }

-- a read failed in the call
abbrev pub ReadFailed : Reading → Type 0
ReadFailed r = Rose r.last_fault r.before r.after

-- nothing was read, and nothing failed
abbrev pub ReadNothing : Reading → Type 0
ReadNothing r = (r.remains ≡ r.left) × (r.after ≡ r.before)

-- these bytes were read: all that was left, where that was told, and then nothing is left
abbrev pub ReadAll : Reading → List ℕ → Type 0
ReadAll r bytes = ForSome r.left (λ left. (bytes ≡ left) × (r.remains ≡ Some []))

-- these bytes were read, and they are one more than the limit
abbrev pub ReadPast : ℕ → Reading → List ℕ → Type 0
ReadPast limit r bytes = Consumes r.left r.remains bytes × (length bytes ≡ limit + 1)

-- these bytes were read: all that was left, or, where that is more than the limit, one byte more than the limit
abbrev pub ReadUpTo : ℕ → Reading → List ℕ → Type 0
ReadUpTo limit r bytes = (ReadAll r bytes × (length bytes ≤ limit)) ⊎ ReadPast limit r bytes

-- at most so many bytes were read
abbrev pub ReadAtMost : ℕ → Reading → Type 0
ReadAtMost most r = (bytes : List ℕ) × Consumes r.left r.remains bytes × (length bytes ≤ most)

-- it was told what was left, and a fact about these bytes
abbrev pub Left : Reading → (List ℕ → Type 0) → Type 0
Left r P = (left : List ℕ) × (r.left ≡ Some left) × P left

-- a whole read answers that a read failed or that no memory was found
abbrev pub GaveUp : Result (List ℕ) ReadError → Type 0
GaveUp result = IsErrOf result Fault ⊎ IsErrOf result OutOfMemory

-- ---- sinks

-- a sink around a call: the bytes that it held and holds now, where it tells them, and its count of faults
pub record Writing : Type 0 where
  pub held : Option (List ℕ)
  pub holds : Option (List ℕ)
  pub last_fault : Option ℕ
  pub before : ℕ
  pub after : ℕ

-- the call on a sink that was old and is new
abbrev pub writing : {K : Type 0} → sinks.Ghosts K → K → K → Writing
writing sink old new =
    record {
      held = sink.held old;
      holds = sink.held new;
      last_fault = sink.last_fault;
      before = sink.faults old;
      after = sink.faults new;
    }

-- a write failed in the call
abbrev pub WriteFailed : Writing → Type 0
WriteFailed w = Rose w.last_fault w.before w.after

-- all these bytes were written
abbrev pub Wrote : Writing → List ℕ → Type 0
Wrote w bytes = Appends w.held w.holds bytes

-- some first bytes of these were written
abbrev pub WrotePrefix : Writing → List ℕ → Type 0
WrotePrefix w bytes = (n : ℕ) × (n ≤ length bytes) × Appends w.held w.holds (take n bytes)

-- nothing was written, and nothing failed
abbrev pub WroteNothing : Writing → Type 0
WroteNothing w = (w.holds ≡ w.held) × (w.after ≡ w.before)
