pub mod Civil
pub mod Listed
pub mod Limits
pub mod Names
pub mod Order
pub mod Whole
pub mod code
