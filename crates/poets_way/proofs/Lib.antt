pub mod Performing
pub mod Sided
pub mod Tables
pub mod Flat
pub mod Written
pub mod Following
pub mod Sharing
pub mod Opened
