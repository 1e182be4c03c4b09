-- Lemmas of the plain store.
pub mod Decisions
pub mod JournalWork
pub mod FirstEntries
pub mod NextEntries
pub mod DecidedRights
pub mod KeptRules
pub mod OpenDescriptors
pub mod OneVerdict
pub mod StartStores
pub mod ReadyChanges
pub mod KeptDisks
pub mod KeptSteps
pub mod Starts
pub mod Applies
pub mod Sights
pub mod TakenEntries
