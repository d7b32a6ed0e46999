pub mod Levels
pub mod Texts
pub mod Lines
pub mod Laws
pub mod code
