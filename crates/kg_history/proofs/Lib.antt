mod Moves
pub mod Prefixes
