-- The words of the contracts of sources and sinks.
pub mod Adapters
pub mod Around
pub mod Faults
pub mod Memory
pub mod Numbered
pub mod Sink
pub mod Source
