-- The table state, the effects on it, and what the kernel side sees of it.
pub mod State
pub mod Effects
pub mod Kernel
pub mod Sweeps
pub mod Answers
pub mod Sound
pub mod Laws
pub mod Plain
pub mod Codes
pub mod Passes
pub mod RightMaps
pub mod Seen
pub mod Kept
