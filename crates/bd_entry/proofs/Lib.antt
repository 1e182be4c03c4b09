-- Lemmas of stores and legal journals, which proofs of the machine cite too, and then of journals as text.
pub mod Parts
pub mod Histories
pub mod JournalLaws
pub mod DecidedFields
pub mod DecidedRules
pub mod RuleLaws
pub mod CallEntries
pub mod ChangedStores
pub mod Slots
pub mod VolumeBytes
pub mod VolumeFiles
pub mod SoundVolumes
pub mod StayingFiles
pub mod PartSets
pub mod Holders
pub mod Descriptors
pub mod StoreLaws
pub mod CallOrder
pub mod CallWork
pub mod HistoryLaws
pub mod RangesOfReasons
pub mod RangesOfPieces
pub mod RangesOfEntries
pub mod JournalOrder
pub mod CallPieces
pub mod Accesses
pub mod AnsweredPieces
pub mod ContentAccesses
pub mod DescriptorSteps
pub mod EffectsOnFiles
pub mod FileContents
pub mod KnownSizes
pub mod RunningCalls
pub mod WriteModes
pub mod KeptFiles
pub mod SlotTests
pub mod PairsInUse
pub mod NextActs
pub mod NextCalls
pub mod NextOpens
pub mod NextCloses
pub mod NextFiles
pub mod NextPieces
pub mod NextEntries
pub mod NextReady
mod BadLines
mod Fields
mod FirstWords
mod Headers
mod EntryKinds
mod Lines
mod OneEntry
mod Reasons
