-- Sources and sinks in memory, and what each of their calls gives or takes.
use Rattle.std.specs.Prelude.{ℕ, nat_eq, min, cond, List, length}
use Rattle.bd_outside.specs.Numbered.{Calls, fails_now}
use Rattle.bd_outside.specs.declared.sources.Got.{Got}
use Rattle.bd_outside.specs.declared.sources.Got.TheVariants.{Bytes, End, Failed}

-- what a source has left, and how many bytes a read gives at most
pub record SourceState : Type 0 where
  pub left : List ℕ
  pub most : ℕ

-- the same with its calls, of which some fail
pub record MemSourceState : Type 0 where
  pub left : List ℕ
  pub most : ℕ
  pub calls : Calls

-- what a sink holds, and how many bytes a write takes at most
pub record SinkState : Type 0 where
  pub held : List ℕ
  pub most : ℕ

-- the same with its calls, of which some fail
pub record MemSinkState : Type 0 where
  pub held : List ℕ
  pub most : ℕ
  pub calls : Calls

-- the answer that gives so many bytes: no byte is the end
abbrev pub got_of : ℕ → Got
got_of n = cond (nat_eq n 0) End (Bytes n)

-- the answer of a read that does not fail: the least of what it gives at most, the room and what is left
abbrev pub next_got : ℕ → ℕ → List ℕ → Got
next_got most room left = got_of (min most (min room (length left)))

-- the answer of a read of which the call may be one that fails
abbrev pub got_of_call : MemSourceState → ℕ → Got
got_of_call source room = cond (fails_now source.calls) Failed (next_got source.most room source.left)
