-- The totals that a report tells.
use Rattle.std.specs.Prelude.{◌≡◌, List, count_by}
use Rattle.bd_entry.specs.declared.entry.Entry.{Entry}
use Rattle.bd_report.specs.declared.totals.Totals.{Totals}
use Rattle.bd_report.specs.Reports.{is_by_kernel, is_detach, is_direct, is_miss}

-- these are the numbers of the journal's entries of each kind
pub record AreTotals (journal : List Entry) (totals : Totals) : Type 0 where
  pub direct : totals.direct ≡ count_by is_direct journal
  pub kernel : totals.kernel ≡ count_by is_by_kernel journal
  pub missed : totals.missed ≡ count_by is_miss journal
  pub detached : totals.detached ≡ count_by is_detach journal
