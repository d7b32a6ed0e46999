pub mod Unfolding
pub mod Laws
pub mod TypedLaws
pub mod Once
pub mod Bodies
pub mod Limits
pub mod code
