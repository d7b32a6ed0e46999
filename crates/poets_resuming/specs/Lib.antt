pub mod Resuming
pub mod Promises
pub mod code
