-- The words of the contracts of the directory.
pub mod Entries
