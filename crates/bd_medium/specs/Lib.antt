-- The words of the contracts of a device's blocks.
pub mod Contents
pub mod Laws
