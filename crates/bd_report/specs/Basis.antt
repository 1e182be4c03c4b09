-- What a report is made from.
use Rattle.bd_base.specs.Scripts.{IsWithinLimits}
use Rattle.bd_entry.specs.History.{InOrder}
use Rattle.bd_report.specs.declared.reporting.Basis.{Basis}
use Rattle.bd_report.specs.Notes.{AreNotesOfAll}

-- the journal is in order for the script, and the table has what it tells of each call
pub record IsBasis (basis : Basis) : Type 0 where
  pub limits : IsWithinLimits basis.script.now
  pub in_order : InOrder basis.script.now basis.journal.now
  pub notes : AreNotesOfAll basis.script.now basis.journal.now basis.notes.items
