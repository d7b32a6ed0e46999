pub mod Declared
pub mod Laws
pub mod code
