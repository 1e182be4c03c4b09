-- The abstract machine: its state, its turns, its runs, and what holds at every moment.
pub mod State
pub mod Processors
pub mod Engines
pub mod Turns
pub mod Course
pub mod Sound
pub mod Rest
pub mod Added
pub mod Reached
pub mod Laws
pub mod CourseLaws
pub mod Progress
pub mod Waiting
pub mod Names
