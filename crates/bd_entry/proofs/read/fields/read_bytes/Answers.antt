use Rattle.std.proofs.Common.{sym}
use Rattle.bd_base.specs.declared.limits.TheConstants.{BLOCK_SIZE}
use Rattle.bd_blocks.proofs.RunLists.{runs-not_more}
use Rattle.bd_entry.proofs.read.fields.read_bytes.Goals as goal

pub returns-in-Ok : goal.returns-in-Ok
returns-in-Ok c = ((c.in-Ok.ensures.bytes, c.in-Ok.ensures.within), sym c.in-Ok.ensures.spelled)

pub returns-in-Err-TooMany : goal.returns-in-Err-TooMany
returns-in-Err-TooMany c = λ bytes is same.
    runs-not_more c.args.text.now bytes BLOCK_SIZE is.0 (sym same) is.1 (c.in-Err-TooMany.ensures.too_many (cc (c.in-Err-TooMany.field-0-is)))
