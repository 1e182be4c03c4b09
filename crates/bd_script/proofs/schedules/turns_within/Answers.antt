use Rattle.std.proofs.Common.{arith, sym}
use Rattle.bd_script.proofs.schedules.turns_within.Goals as goal

pub returns-in-None : goal.returns-in-None
returns-in-None c = λ actor turns is has. c.in-None.ensures.none turns is (omega (arith, has.0), omega (arith, has.1))

pub returns-in-Some : goal.returns-in-Some
returns-in-Some c = λ actor turns is.
    let same = c.in-Some.ensures.some turns is in
    let fits = c.in-Some.ensures.fits in
    ((omega (arith, same, fits.0), omega (arith, same, fits.1)), sym same)
