pub mod Limits
pub mod Unread
pub mod Opening
pub mod code
