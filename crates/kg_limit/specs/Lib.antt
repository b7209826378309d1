pub mod Counting
pub mod Hits
pub mod Judging
pub mod LimitHeaders
pub mod Refusal
pub mod Representing
pub mod WindowTimes
