pub mod Exportable
pub mod Laws
