-- What ties the code to the definitions: invariants of its loops and structs, and what its private
-- functions promise.
pub mod Adding
pub mod Built
pub mod Classes
pub mod Copies
pub mod Forms
pub mod Hashing
pub mod SameRows
pub mod Shape
pub mod Bags
