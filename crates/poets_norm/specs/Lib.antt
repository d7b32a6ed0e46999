pub mod Choices
pub mod Laws
pub mod Questions
pub mod Asking
pub mod Rows
pub mod code
