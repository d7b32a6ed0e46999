pub mod Owning
pub mod Endings
pub mod ByStatus
pub mod Telling
pub mod Exported
pub mod Repeating
