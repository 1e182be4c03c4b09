use Rattle.std.proofs.Common.{append_assoc}
use Rattle.bd_top.proofs.status.push_not_legal.Goals as goal

pub returns : goal.returns
returns c =
    rw (
      c.in_ok-push_number-2.ensures,
      c.from.ensures,
      c.in_ok-push_bytes-2.ensures,
      c.in_ok-push_number.ensures,
      c.in_ok-push_bytes.ensures,
    )
    (simp append_assoc)
