pub mod SameTrees
pub mod ValSubst
pub mod Values
pub mod FoldClosed
pub mod FreeNames
pub mod WholeResults
