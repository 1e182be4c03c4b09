-- The image and the script that are made from a number.
pub mod Bytes
pub mod Calls
pub mod Draws
pub mod Script
pub mod Volume
