pub mod Allowed
pub mod Candidates
pub mod Claims
pub mod ValidCommands
