pub mod Saying
pub mod Following
pub mod Judging
pub mod Excluding
pub mod Carrying
