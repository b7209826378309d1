pub mod Coherent
pub mod Fetching
pub mod Stages
pub mod Steps
pub mod Turning
