-- The plain store of files, the legality of a journal, and the words of the contracts of journals as text.
pub mod Store
pub mod Refusals
pub mod Actions
pub mod Effects
pub mod Calls
pub mod RulesOfCalls
pub mod RulesOfRights
pub mod RulesOfContents
pub mod Rules
pub mod History
pub mod Laws
pub mod Promises
pub mod NextEntries
pub mod Ranges
pub mod Reading
pub mod Texts
