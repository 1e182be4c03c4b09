-- Lemmas that the proofs share.
pub mod Cuts
pub mod FirstParts
