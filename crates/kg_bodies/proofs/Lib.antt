pub mod AcceptedLemmas
pub mod DistinctTexts
pub mod InsideLemmas
pub mod ItemLemmas
pub mod ListLemmas
