pub mod Owing
pub mod OneReplies
pub mod Histories
pub mod Gathering
pub mod Accepting
pub mod Examples
