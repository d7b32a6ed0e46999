pub mod Keys
pub mod Plain
pub mod Reports
pub mod Answers
pub mod Keyed
pub mod Folds
pub mod UnderNames
pub mod code
