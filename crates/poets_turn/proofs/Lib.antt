pub mod Ending
pub mod Fronts
pub mod Making
pub mod Numbered
pub mod Places
pub mod Seats
pub mod Steps
