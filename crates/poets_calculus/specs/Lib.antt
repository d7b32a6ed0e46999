pub mod Alike
pub mod Normal
pub mod Residual
pub mod Exposed
pub mod InStudied
pub mod StudiedLaws
pub mod AlikeLaws
pub mod Examples
