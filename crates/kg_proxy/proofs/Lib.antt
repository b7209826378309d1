pub mod AdvanceLemmas
pub mod CoherenceLemmas
mod FitLemmas
mod WorkerLemmas
