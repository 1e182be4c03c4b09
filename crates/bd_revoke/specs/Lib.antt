-- The words of the contracts of a revocation.
pub mod Laws
pub mod Revocation
pub mod Stages
pub mod Turns
