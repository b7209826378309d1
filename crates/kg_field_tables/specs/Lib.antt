pub mod Accepted
pub mod BrokenRules
pub mod Defaults
pub mod Depths
pub mod FieldTables
pub mod Judging
