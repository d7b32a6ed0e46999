pub mod Settings
pub mod Clerks
pub mod code
