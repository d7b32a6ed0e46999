-- What ties the code to the definitions: what its private functions promise.
pub mod Goals
pub mod Sides
pub mod Table
pub mod Writing
