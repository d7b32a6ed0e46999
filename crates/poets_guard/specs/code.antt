-- What ties the code to the definitions: invariants of its loops and structs, and what its private
-- functions promise.
pub mod Endings
pub mod Facts
pub mod Graph
pub mod Marked
pub mod Rules
pub mod Searched
pub mod Visited
pub mod Walks
