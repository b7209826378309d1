mod CommandLemmas
pub mod DryLemmas
mod InsertedLemmas
mod LineLemmas
