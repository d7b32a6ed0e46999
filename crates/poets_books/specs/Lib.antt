pub mod Statements
pub mod Books
pub mod Laws
pub mod Replies
pub mod code
