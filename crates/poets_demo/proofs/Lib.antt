pub mod Putting
pub mod Shortness
pub mod Histories
pub mod Lines
