-- What ties the code to the definitions: invariants of its loops and structs, and what its private
-- functions promise.
pub mod Parts
pub mod Renewals
pub mod Withdrawals
pub mod Commands
pub mod Asking
pub mod Found
pub mod Folios
pub mod Makes
pub mod Changes
pub mod Judgements
pub mod Accounted
