pub mod BookTexts
pub mod Formats
pub mod ReplyKinds
pub mod Within
pub mod WritingStatements
