pub mod Numbered
pub mod Lengths
pub mod Depths
