pub mod ListQueries
pub mod Paths
