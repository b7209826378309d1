pub mod Answers
pub mod Changing
pub mod Claims
pub mod Coherent
pub mod Shared
