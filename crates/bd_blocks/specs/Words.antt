-- The words of modes, ways and directions.
use Rattle.std.specs.Prelude.{ℕ, Bool, true, false, List, codes}
use Rattle.bd_base.specs.declared.journal.Way.{Way}
use Rattle.bd_base.specs.declared.journal.Way.TheVariants.{Direct as ByDevice, Plain as OnPlain, PastKnown, AfterMiss}
use Rattle.bd_base.specs.declared.script.How.{How}
use Rattle.bd_base.specs.declared.script.How.TheVariants.{Plain, Direct}
use Rattle.bd_base.specs.declared.script.Mode.{Mode}
use Rattle.bd_base.specs.declared.script.Mode.TheVariants.{R, Rw}
use Rattle.bd_blocks.specs.Texts.{before}

-- the mode of an open
abbrev pub mode_text : Mode → List ℕ
mode_text R = codes "r"
mode_text Rw = codes "rw"

-- the way of an open
abbrev pub how_text : How → List ℕ
how_text Plain = codes "plain"
how_text Direct = codes "direct"

-- a mode and a way of an open
abbrev pub mode_and_how_text : Mode × How → List ℕ
mode_and_how_text p = before (mode_text p.0) (how_text p.1)

-- whether bytes were written or read
abbrev pub direction_text : Bool → List ℕ
direction_text true = codes "wrote"
direction_text false = codes "read"

-- how an access reached its block
abbrev pub way_text : Way → List ℕ
way_text ByDevice = codes "direct"
way_text OnPlain = codes "plain"
way_text PastKnown = codes "past-known"
way_text AfterMiss = codes "after-miss"
