mod AdmitLemmas
mod HandLemmas
mod MakingLemmas
mod StoreLemmas
