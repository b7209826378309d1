pub mod PhraseLemmas
pub mod UpstreamLemmas
pub mod WriteLemmas
