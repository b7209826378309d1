pub mod AllowedHistories
pub mod Covers
pub mod DistinctKept
pub mod DistinctLemmas
pub mod EachKind
pub mod Exact
pub mod ReferencesKept
pub mod ValidKept
