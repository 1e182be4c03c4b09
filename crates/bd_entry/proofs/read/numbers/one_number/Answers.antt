use Rattle.bd_entry.proofs.Fields.{within-reads}
use Rattle.bd_entry.proofs.read.numbers.one_number.Goals as goal

pub returns : goal.returns
returns c =
    within-reads c.args.most c.args.text.now c.in_ok-read_number.field-0 c.within.result c.in_ok-read_number.ensures.some
    c.within.ensures.some c.within.ensures.fits c.within.ensures.none
