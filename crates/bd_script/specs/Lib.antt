-- The words of the contracts of scripts as text.
pub mod Drafts
pub mod Lines
pub mod Reading
pub mod Refusals
pub mod Refused
pub mod Rules
pub mod Schedules
pub mod Texts
pub mod Words
