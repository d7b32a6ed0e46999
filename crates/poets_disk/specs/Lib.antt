pub mod Disks
pub mod Untold
pub mod Memory
pub mod Kept
pub mod MemoryLaws
pub mod code
