pub mod Goings
pub mod Rows
pub mod Sums
