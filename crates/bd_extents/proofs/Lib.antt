-- Lemmas on lists of extents, and on marks as a set.
pub mod ExtentLists
pub mod Marks
