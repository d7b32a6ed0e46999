pub mod Causes
pub mod Streams
pub mod Reading
pub mod States
