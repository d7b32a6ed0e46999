pub mod NoFloats
pub mod Texts
