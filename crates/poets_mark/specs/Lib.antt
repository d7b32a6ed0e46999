pub mod Keeping
pub mod Lines
pub mod Marking
pub mod Naming
pub mod Places
pub mod Spots
pub mod Whys
pub mod code
