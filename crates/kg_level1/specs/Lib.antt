pub mod Changing
pub mod Coherent
pub mod Commits
pub mod Entries
pub mod Reading
