pub mod DotLemmas
pub mod EscapeLemmas
pub mod HostLemmas
pub mod ListChangeLemmas
pub mod NameLemmas
pub mod PathLemmas
pub mod SegmentLemmas
