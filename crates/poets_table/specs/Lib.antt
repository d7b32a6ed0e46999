pub mod Pieces
pub mod TableView
pub mod Kept
pub mod code
