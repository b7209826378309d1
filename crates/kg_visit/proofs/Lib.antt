mod GiveLemmas
mod OnceLemmas
mod TraceLemmas
