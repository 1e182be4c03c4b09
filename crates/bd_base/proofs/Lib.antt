-- Lemmas that the proofs of several crates cite.
pub mod Counts
pub mod Decided
pub mod ExtentCounts
pub mod FileLists
pub mod Growth
pub mod Lists
pub mod Owners
pub mod Pieces
pub mod Ranges
pub mod Rules
pub mod Splices
pub mod Takes
pub mod ValidFiles
