pub mod Noting
pub mod Making
pub mod Taking
pub mod Fewness
pub mod RightHistories
pub mod Entries
