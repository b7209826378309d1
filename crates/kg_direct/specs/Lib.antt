pub mod EchoText
pub mod Untouched
