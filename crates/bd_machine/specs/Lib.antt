-- The words of the contracts of the machine.
pub mod Logs
pub mod Shows
pub mod Turns
pub mod Kept
pub mod Machine
pub mod Tasks
pub mod Engines
pub mod Asked
pub mod Booted
pub mod Whole
