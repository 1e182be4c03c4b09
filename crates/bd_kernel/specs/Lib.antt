-- The words of the contracts of kernel calls.
pub mod PartMarks
pub mod Kinds
pub mod Changes
pub mod Marks
pub mod Sights
pub mod Holders
pub mod Blockers
pub mod Turns
pub mod Disks
