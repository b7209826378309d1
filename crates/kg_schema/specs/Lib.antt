pub mod Between
pub mod Finished
pub mod ReadBack
pub mod ToldRules
pub mod ValidBases
