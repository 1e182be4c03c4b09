-- The reasons that refusals of growth stand for.
use Rattle.bd_base.specs.declared.reason.Reason.{Reason}
use Rattle.bd_base.specs.declared.reason.Reason.TheVariants as reason
use Rattle.bd_fs.specs.declared.errors.GrowError.{GrowError}
use Rattle.bd_fs.specs.declared.errors.GrowError.TheVariants as error
use Rattle.bd_fs.specs.declared.errors.Refusal.{Refusal}
use Rattle.bd_fs.specs.declared.errors.Refusal.TheVariants.{TooBig, NoSpace, Extents}

-- the reason of a refused growth
abbrev pub reason_of : Refusal → Reason
reason_of TooBig = reason.TooBig
reason_of NoSpace = reason.NoSpace
reason_of Extents = reason.Extents

-- the error of a refused growth
abbrev pub error_of : Refusal → GrowError
error_of TooBig = error.TooBig
error_of NoSpace = error.NoSpace
error_of Extents = error.Extents
