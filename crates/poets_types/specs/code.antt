-- What ties the code to the definitions: invariants of its loops and structs, and what its private
-- functions promise.
pub mod Answers
pub mod Tables
pub mod Indices
pub mod Scopes
pub mod Checks
pub mod Gathering
