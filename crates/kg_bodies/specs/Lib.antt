pub mod Settings
pub mod TableSettings
pub mod Violations
