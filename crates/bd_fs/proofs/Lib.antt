-- Lemmas on files as lists, on what a file system keeps of them, and on a volume without files.
pub mod Changes
pub mod Denials
pub mod Growth
pub mod Images
pub mod Loading
pub mod MadeAndRemoved
pub mod Names
pub mod NoFiles
