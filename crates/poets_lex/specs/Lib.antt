pub mod Bytes
pub mod Laws
pub mod Lexes
pub mod Table
pub mod Texts
pub mod code
