pub mod Asks
pub mod Errors
pub mod Files
pub mod Kept
pub mod PolicyRules
