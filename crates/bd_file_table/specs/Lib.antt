-- The words of the contracts of the pool.
pub mod Fragments
pub mod Slots
pub mod Kept
