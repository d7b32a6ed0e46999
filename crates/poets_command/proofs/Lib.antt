pub mod TypingRules
pub mod Demanded
pub mod TypedCommands
pub mod Reports
pub mod Crossing
pub mod AnswerTypes
