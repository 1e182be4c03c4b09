-- The words of the contracts of replies and reports.
pub mod Basis
pub mod Counts
pub mod Laws
pub mod Notes
pub mod Replies
pub mod Reports
pub mod Totals
