pub mod Violations
pub mod Rows
pub mod SeenRows
