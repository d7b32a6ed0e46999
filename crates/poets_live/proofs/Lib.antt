pub mod Following
pub mod Places
pub mod Crossing
pub mod Marks
pub mod Leading
