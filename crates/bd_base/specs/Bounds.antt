-- What contracts see of a range of bytes within a block.
use Rattle.std.specs.Prelude.{ℕ}

-- the bytes lo to hi - 1
pub record Bounds : Type 0 where
  pub lo : ℕ
  pub hi : ℕ
