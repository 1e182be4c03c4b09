-- The words of the contracts of a queue pair.
pub mod Queues
pub mod Rings
