-- Lemmas of kernel calls.
pub mod PartSets
pub mod PairCounts
pub mod AllPairs
pub mod CountedRows
pub mod CountedRights
pub mod MarkRanges
pub mod MarkLemmas
pub mod KernelPieces
pub mod NextParts
pub mod KeyLists
pub mod Acts
pub mod Blockers
pub mod CallEnds
pub mod CallsWithoutEntries
pub mod DiskBytes
pub mod DiskEntries
pub mod DecidedMisses
