-- The words of the contracts of the plain store.
pub mod Kinds
pub mod Kept
pub mod Steps
pub mod Verdicts
