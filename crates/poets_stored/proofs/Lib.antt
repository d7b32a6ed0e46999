pub mod Sources
pub mod Storing
pub mod Sharing
pub mod Fewness
pub mod Together
