-- What ties the code to the definitions: what its checks pass.
pub mod Passing
