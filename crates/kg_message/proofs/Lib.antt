pub mod CommaListLemmas
pub mod RenameLemmas
