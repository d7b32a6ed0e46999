-- What ties the code to the definitions: what private functions promise.
pub mod InLines
pub mod Named
