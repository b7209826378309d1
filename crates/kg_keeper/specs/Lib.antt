pub mod Answers
pub mod Histories
pub mod Observed
pub mod Plans
pub mod Stores
