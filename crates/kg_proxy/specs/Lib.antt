pub mod Advancing
pub mod Coherent
pub mod Workers
