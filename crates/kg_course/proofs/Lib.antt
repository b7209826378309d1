pub mod AnswerLemmas
pub mod AskingLemmas
pub mod BoundLemmas
pub mod CourseLemmas
mod TurnLemmas
pub mod UpstreamLemmas
pub mod WalkLemmas
