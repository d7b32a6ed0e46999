pub mod Reread
pub mod Laws
