pub mod Texts
pub mod Journals
pub mod JournalValue
pub mod Starts
pub mod Keeping
pub mod code
