mod CommitLemmas
mod KeptLemmas
pub mod PlanLemmas
mod StoreLemmas
mod TouchedLemmas
