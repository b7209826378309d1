pub mod Decision
pub mod References
