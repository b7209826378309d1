pub mod Histories
pub mod Inserting
pub mod Outcome
pub mod RefusalBody
pub mod Steps
