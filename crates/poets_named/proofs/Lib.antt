pub mod ListedResults
pub mod ListedResiduals
pub mod KeptAnswers
pub mod WrittenAnswers
pub mod Ledgers
pub mod WrittenHistories
pub mod SessionBooks
pub mod ExtendedTables
