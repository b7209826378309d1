pub mod Causes
pub mod CountedIds
pub mod Counts
pub mod Memory
pub mod Moves
pub mod Readings
pub mod Runs
