mod AnswerLemmas
mod DecidedLemmas
mod FreeLemmas
mod MadeLemmas
mod RefusalLemmas
