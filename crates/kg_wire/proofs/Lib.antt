mod ChecksLemmas
mod HeadEndLemmas
mod HeldLemmas
mod JudgeLemmas
mod JudgedLemmas
pub mod MessageLemmas
pub mod NextLemmas
mod OpenTargetLemmas
mod PrintedLemmas
mod ReaderLemmas
pub mod RefusalLemmas
mod StatedLemmas
mod UnreadLemmas
mod ValueLemmas
