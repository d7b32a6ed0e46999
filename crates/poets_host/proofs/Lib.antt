pub mod Following
pub mod Recording
pub mod Pairing
