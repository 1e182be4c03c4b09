-- The same byte in a row.
use Rattle.std.specs.Prelude.{ℕ, replicate, List}

-- so many times this byte
unfoldable pub repeated : ℕ → ℕ → List ℕ
repeated count byte = replicate count byte
