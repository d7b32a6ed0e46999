-- What ties the code to the definitions: what its private functions promise.
pub mod Resumed
