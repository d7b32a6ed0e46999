pub mod Ledger
pub mod Gathered
pub mod Frame
pub mod Owed
pub mod Replies
pub mod Laws
pub mod Histories
