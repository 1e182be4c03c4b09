-- What an image is: where its fields stand, the rules that it meets, and the volume that it says.
pub mod Bits
pub mod Checks
pub mod Layout
pub mod Limits
pub mod Names
pub mod Places
pub mod Refusals
pub mod Rules
pub mod Sharing
pub mod Tails
pub mod Volumes
