-- Lemmas that the proofs share.
pub mod Maps
pub mod Users
pub mod RightMaps
pub mod Places
pub mod Kept
pub mod KeptRights
pub mod KeptWalks
pub mod Sound
pub mod KernelSound
pub mod KeptPlain
pub mod KeptNew
pub mod Told
pub mod Engine
pub mod Answers
pub mod Sweeps
pub mod TwoKeys
pub mod Bare
