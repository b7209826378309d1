mod CountLemmas
mod ListClockLemmas
pub mod Observed
mod ReadLemmas
