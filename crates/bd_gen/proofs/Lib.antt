pub mod DrawnNumbers
pub mod MadeFiles
pub mod MadeScript
pub mod Readable
pub mod RepeatedBytes
pub mod ShortCalls
pub mod SoundVolume
