-- What ties the code to the definitions: what its private functions promise.
pub mod Making
pub mod Reading
pub mod Under
pub mod Sides
pub mod Choices
pub mod Grouping
pub mod Undone
pub mod Back
pub mod Through
