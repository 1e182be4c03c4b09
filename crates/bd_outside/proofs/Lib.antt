-- Lemmas that the proofs share.
pub mod Counts
pub mod Steps
