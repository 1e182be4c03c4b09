-- The texts of the commands, and what each command promises.
pub mod CheckLine
pub mod Commands
pub mod Ends
pub mod Inputs
pub mod Runs
pub mod Status
pub mod Verify
pub mod Words
