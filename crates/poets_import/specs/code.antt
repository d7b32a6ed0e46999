-- What ties the code to the definitions: invariants of its loops, and what its private functions
-- promise.
pub mod Finding
pub mod Gathering
pub mod Members
pub mod Parts
pub mod Spoken
pub mod Telling
