-- What the kernel side sees of one sweep after the other.
use Rattle.std.specs.Prelude.{ℕ, zero, suc}
use Rattle.bd_base.specs.declared.key.Key.{Key}
use Rattle.bd_tables.specs.Kernel.{KernelState, line_swept}

-- after the sweeps of the first n lines for a key
unfoldable pub lines_swept : KernelState → ℕ → Key → KernelState
lines_swept kernel zero key = kernel
lines_swept kernel (suc n) key = line_swept (lines_swept kernel n key) n key
