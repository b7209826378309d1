pub mod ByteOrder
pub mod Changes
pub mod Commits
pub mod Rows
pub mod Values
pub mod Watching
