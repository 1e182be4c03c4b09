-- Lemmas that the proofs share.
pub mod Pools
pub mod NewPool
