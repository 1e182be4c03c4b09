-- The words of the contracts of blocks, of texts and of runs.
pub mod Reading
pub mod Runs
pub mod Texts
pub mod Words
