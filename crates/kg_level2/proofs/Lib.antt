mod ClaimLemmas
pub mod CoherenceLemmas
pub mod HolderLemmas
