pub mod Courses
pub mod Watching
pub mod code
