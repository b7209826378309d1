pub mod CommitLemmas
pub mod Differs
pub mod GenerationLemmas
pub mod GroupLemmas
pub mod HistoryLemmas
pub mod SameLemmas
pub mod Searches
