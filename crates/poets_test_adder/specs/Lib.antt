pub mod Adding
pub mod code
