pub mod Row
pub mod Same
pub mod Table
pub mod Replaced
pub mod Parts
pub mod Forms
pub mod Notes
pub mod code
