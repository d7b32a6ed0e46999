-- What ties the code to the definitions: what private functions of several crates promise.
pub mod Texts
