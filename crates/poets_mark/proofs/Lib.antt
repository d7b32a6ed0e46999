pub mod Breaking
pub mod Named
pub mod Placing
