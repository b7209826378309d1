pub mod CoherenceLemmas
mod DropLemmas
pub mod OrderLemmas
pub mod SyncLemmas
