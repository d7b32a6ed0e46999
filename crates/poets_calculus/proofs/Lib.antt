pub mod Choosing
pub mod Exposures
pub mod Unfolded
pub mod Multisets
pub mod AlikeTests
pub mod AlikeMeasures
pub mod Regrouping
