-- What ties the code to the definitions: what its functions promise.
pub mod Opened
