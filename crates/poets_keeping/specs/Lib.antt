pub mod Writing
pub mod Journals
pub mod Keeping
pub mod Recovering
pub mod Promises
pub mod Made
pub mod code
