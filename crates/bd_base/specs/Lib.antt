-- The definitions that the contracts of several crates cite.
pub mod Allocation
pub mod Bounds
pub mod Bytes
pub mod Extents
pub mod Files
pub mod Growth
pub mod Inodes
pub mod Keys
pub mod Limits
pub mod Names
pub mod Pieces
pub mod Policy
pub mod Rules
pub mod Scripts
pub mod Slots
pub mod Volumes
