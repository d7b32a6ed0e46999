pub mod Faults
pub mod Phrases
pub mod Reading
pub mod Laws
pub mod code
