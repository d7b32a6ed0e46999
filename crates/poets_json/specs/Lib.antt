pub mod Plain
pub mod Document
pub mod code
