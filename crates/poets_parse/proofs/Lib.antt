pub mod Depths
pub mod Counts
pub mod Loops
pub mod Lists
pub mod StatementFaults
