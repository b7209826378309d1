pub mod Best
pub mod Found
pub mod Order
pub mod Places
pub mod Ranks
pub mod RouterRows
pub mod Table
