use Rattle.std.proofs.Common.{◌≡◌, ◌++◌, drop, map}
use Rattle.std.specs.Option.{option_copied}
use Rattle.bd_pieces.specs.Gathered.{gathered_bytes}
use Rattle.bd_report.specs.Replies.{parts_of}
use Rattle.bd_report.proofs.replies.bytes_read.Given as goal

-- the bytes so far, and those that the pieces that are left give, are all
abbrev pub invariant-loop-number : goal.invariant-loop-number
invariant-loop-number l =
    l.bytes.items ++ gathered_bytes (parts_of (drop l.number l.cut) (map option_copied (drop l.number l.answers)))
    ≡ gathered_bytes (parts_of l.cut (map option_copied l.answers))
