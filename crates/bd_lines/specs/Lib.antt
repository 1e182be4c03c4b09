-- The words of the contracts of lines.
pub mod Lines
