-- Lemmas that the proofs share, those on texts also with the crates above.
pub mod FieldTexts
pub mod NumberTexts
pub mod RunLists
mod RunReading
pub mod RunTexts
pub mod Spellings
