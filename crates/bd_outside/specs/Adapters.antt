-- Sources and sinks over std's readers and writers.
use Rattle.std.specs.Prelude.{ℕ, List, Option}

-- what a source over a reader has left, where the reader tells that, and its count of faults
pub record SourceCount : Type 0 where
  pub left : Option (List ℕ)
  pub faults : ℕ

-- what a sink over a writer holds, where the writer tells that, and its count of faults
pub record SinkCount : Type 0 where
  pub held : Option (List ℕ)
  pub faults : ℕ
