pub mod Choices
pub mod Rules
pub mod TextRules
pub mod UrlParts
pub mod Urls
