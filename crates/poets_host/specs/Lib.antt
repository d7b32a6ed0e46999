pub mod Books
pub mod Commands
pub mod Calls
pub mod Deliveries
pub mod Tallies
pub mod Pairs
pub mod code
