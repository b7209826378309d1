mod AppendLemmas
mod LawLemmas
mod NextLemmas
mod ServingLemmas
