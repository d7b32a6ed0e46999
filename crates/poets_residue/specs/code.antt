-- What ties the code to the definitions: invariants of its loops and structs, and what its private
-- functions promise.
pub mod Notes
pub mod Spent
pub mod Deriving
pub mod Taking
pub mod Choices
pub mod Limits
