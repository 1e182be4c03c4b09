-- Lemmas that the proofs share.
pub mod Telling
pub mod Order
pub mod Tables
pub mod Lines
pub mod LawsOfReplies
pub mod Example
