pub mod AnsweredLemmas
mod DriveLemmas
pub mod EndLemmas
mod StraightLemmas
