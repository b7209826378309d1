pub mod SearchLemmas
pub mod SingleLemmas
