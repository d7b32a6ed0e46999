pub mod NumberTexts
pub mod NameTexts
pub mod TextsInBrackets
pub mod ResourceTexts
pub mod ValueTexts
