mod BelowLemmas
pub mod FoundLemmas
mod PageLemmas
mod ValidFound
