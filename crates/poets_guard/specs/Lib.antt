pub mod FirstCycle
pub mod Fault
pub mod code
