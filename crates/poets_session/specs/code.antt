-- What ties the code to the definitions: invariants of its loops and structs, and what its private
-- functions promise.
pub mod Checking
pub mod Counting
pub mod Lines
pub mod Parts
pub mod Placing
pub mod Scripts
pub mod Splitting
