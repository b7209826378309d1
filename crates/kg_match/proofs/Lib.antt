pub mod CompileLemmas
mod HostLemmas
mod PathLemmas
mod PatternLemmas
