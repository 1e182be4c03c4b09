-- No line before the place is the header, and a line begins at the place.
use Rattle.std.proofs.Common.{◌≡◌, ◌≤◌, ◌<◌, ℕ, length, drop}
use Rattle.bd_entry.specs.Reading.{BeginsLine, IsHeaderAt}
use Rattle.bd_entry.proofs.read.after_report.Given as goal

abbrev pub invariant-loop-line : goal.invariant-loop-line
invariant-loop-line l = record {
  within : l.place ≤ length l.bytes;
  rest : l.rest ≡ drop l.place l.bytes;
  begins : BeginsLine l.bytes l.place;
  first : (p : ℕ) → p < l.place → ¬ IsHeaderAt l.bytes p;
}

abbrev pub decreases-loop-line : goal.decreases-loop-line
decreases-loop-line l = length l.rest
