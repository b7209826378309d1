mod HistoryLemmas
mod LineLemmas
mod OneByOne
mod ProgressLemmas
mod RefusalLemmas
mod StandLemmas
