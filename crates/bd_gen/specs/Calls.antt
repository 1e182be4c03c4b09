-- The calls of a made script: those that are fixed, and what a number says of the others.
use Rattle.std.specs.Prelude.{ℕ, ◌+◌, ◌*◌, ◌/◌, ◌%◌, ◌^◌, nat_eq, nat_le, nat_lt, cond, Option, None, Some}
use Rattle.bd_base.specs.declared.script.Call.{Call}
use Rattle.bd_base.specs.declared.script.Call.TheVariants.{Enter, Read, Write, Map, Close}
use Rattle.bd_base.specs.declared.script.How.{How}
use Rattle.bd_base.specs.declared.script.How.TheVariants.{Plain, Direct}
use Rattle.bd_base.specs.declared.script.Mode.{Mode}
use Rattle.bd_base.specs.declared.script.Mode.TheVariants.{R, Rw}
use Rattle.bd_gen.specs.Bytes.{repeated}
use Rattle.bd_gen.specs.Volume.{file_name}

-- ---- the calls that are fixed

-- two processes have one file: this one opens its own
unfoldable pub open_call : ℕ → Mode → How → Call
open_call process mode how = Enter (file_name (process % 8)) mode how

-- between its first call and its last, a process below 8 opens its file once more to read it by the kernel alone,
-- which takes the rights on it away, closes that descriptor, and maps the file again
unfoldable pub early_call : ℕ → ℕ → Option Call
early_call process call =
    cond (nat_eq call 100) (Some (open_call process R Plain))
    (cond (nat_eq call 101) (Some (Close 1))
    (cond (nat_eq call 102) (Some (Map 0)) None))

-- a process from 8 on only maps its file again
unfoldable pub late_call : ℕ → Option Call
late_call call = cond (nat_eq call 200) (Some (Map 0)) None

-- the call of this number of a process where it is fixed; the first opens the process's file, the last closes it
unfoldable pub fixed_call : ℕ → ℕ → Option Call
fixed_call process call =
    cond (nat_eq call 0) (Some (open_call process Rw Direct))
    (cond (nat_eq call 255) (Some (Close 0))
    (cond (nat_lt process 8) (early_call process call) (late_call call)))

-- ---- the calls that are drawn

-- the place in the file: a block below 1996, and a byte in it that is not its first
unfoldable pub drawn_place : ℕ → ℕ
drawn_place x = 4096 * (x / 2 ^ 32 % 1996) + (1 + x / 2 ^ 16 % 4095)

-- the byte of which all that is written consists
unfoldable pub drawn_byte : ℕ → ℕ
drawn_byte x = x / 2 ^ 8 % 256

-- what a number says: a write where its highest bit is set, else a read, of 16,384 bytes either
unfoldable pub drawn_call : ℕ → Call
drawn_call x =
    cond (nat_le (2 ^ 63) x) (Write 0 (drawn_place x) (repeated 16384 (drawn_byte x)))
    (Read 0 (drawn_place x) 16384)
