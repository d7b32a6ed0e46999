pub mod Studies
pub mod Kept
pub mod WholeResiduals
pub mod Following
pub mod Relation
pub mod Unfoldings
pub mod Traces
pub mod Equations
pub mod Widths
pub mod Joined
pub mod Arguments
pub mod TypedResiduals
pub mod Noted
mod Derived
pub mod Ready
mod Spending
mod Asking
mod Deriving
mod ReadyArguments
mod DifferentSums
mod Exposing
mod Counted
mod Spreading
