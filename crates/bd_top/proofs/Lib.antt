-- Lemmas on ends, of all commands, of replays and of verifications, on calls that are not built, on numbers of blocks, and on
-- numbers that are words.
pub mod Counting
pub mod Ends
pub mod ReplayEnds
pub mod SpelledNumbers
pub mod BuiltScripts
pub mod VerifyCounts
pub mod VerifyEnds
