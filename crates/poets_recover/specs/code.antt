-- What ties the code to the definitions: invariants of its loops and structs, and what its private
-- functions promise.
pub mod Reading
