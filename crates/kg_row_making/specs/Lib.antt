pub mod Bases
pub mod FinishedConfigs
pub mod RowsBefore
