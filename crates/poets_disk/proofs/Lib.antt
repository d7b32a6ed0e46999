pub mod Moments
pub mod Recorded
pub mod Rooms
pub mod Picking
