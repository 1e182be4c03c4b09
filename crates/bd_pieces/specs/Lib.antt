-- The words of the contracts of pieces.
pub mod Gathered
pub mod Laws
